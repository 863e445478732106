-- The words that a load draws (this project's own): those of ChaCha8, in order, whose 32 bytes of seed are the
-- eight of a number, the least first, and then zeros.
use Rattle.std.specs.Prelude.{ℕ, List, ◌++◌, replicate}
use Rattle.std.specs.Int.{w64, to_le_bytes}
use Rattle.rand_chacha.specs.ChaCha.{ChaCha, key_of, word_at}

-- words by their places, from 0 on
abbrev pub Words : Type 0
Words = ℕ → ℕ

abbrev pub seed_bytes : ℕ → List ℕ
seed_bytes seed = to_le_bytes w64 seed ++ replicate 24 0

-- ChaCha8 has 4 double rounds
abbrev pub drawn : ℕ → Words
drawn seed place = word_at 4 (key_of (seed_bytes seed)) 0 place

-- the generator whose next word is that of the place
abbrev pub generator : ℕ → ℕ → ChaCha
generator seed place = record { key = key_of (seed_bytes seed); stream = 0; word_pos = place }

-- what is seen of the words that are still to come
pub record Draws : Type 0 where
  pub seed : ℕ
  pub place : ℕ
