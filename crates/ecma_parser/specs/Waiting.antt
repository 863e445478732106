-- The bytes that may still become a character.
use Rattle.std.specs.Prelude.{◌≡◌, ◌≤◌, ℕ, List, take, true}
use Rattle.gate_model.specs.terminal.Characters.{is_unfinished}

-- the first `count` of these bytes are unfinished
pub record IsWaiting (bytes : List ℕ) (count : ℕ) : Type 0 where
  pub unfinished : is_unfinished (take count bytes) ≡ true
  pub few : count ≤ 3
