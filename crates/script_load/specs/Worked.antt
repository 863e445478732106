-- Rounds of some words, worked out.
use Rattle.std.specs.Prelude.{◌≡◌, ℕ, List, [], ◌∷◌, get_or, refl}
use Rattle.gate_model.specs.declared.sharing.Asked.TheVariants.{View}
use Rattle.script_grammar.specs.declared.line.Line.TheVariants.{At, Server, Join, Read, Take, Leave, Acknowledge, Press}
use Rattle.script_load.specs.Words.{Words}
use Rattle.script_load.specs.Rounds.{after, beginning, round_lines}

-- the words of a list
abbrev pub words : List ℕ → Words
words ws place = get_or ws place 0

-- the word 24 feeds four pieces: CR LF, red, an exclamation mark and a quotation mark
pub a_feed : round_lines (words (24 ∷ 16 ∷ 17 ∷ 19 ∷ 35 ∷ [])) 1 beginning ≡ At 1 ∷ Server (13 ∷ 10 ∷ 27 ∷ 91 ∷ 51 ∷ 49 ∷ 109 ∷ 33 ∷ 34 ∷ []) ∷ []
a_feed = refl

-- the word 5 lets a viewer join; with eight viewers the one with the least number above 1 leaves
pub a_join : round_lines (words (5 ∷ [])) 1 beginning ≡ At 1 ∷ Join View ∷ []
a_join = refl

pub a_leave : round_lines (words (5 ∷ [])) 9 record { drawn = 0; others = 3 ∷ 4 ∷ 6 ∷ 7 ∷ 8 ∷ 9 ∷ 10 ∷ []; joined = 10 } ≡ At 9 ∷ Leave 3 ∷ []
a_leave = refl

-- the word 14 presses the key b
pub a_press : round_lines (words (14 ∷ [])) 2 beginning ≡ At 2 ∷ Press 1 98 ∷ Take 256 ∷ []
a_press = refl

-- the word 7 lets viewers 1 and 2 read
pub a_turn : round_lines (words (5 ∷ 7 ∷ [])) 2 (after (words (5 ∷ 7 ∷ [])) beginning) ≡ At 2 ∷ Read 1 ∷ Acknowledge 1 ∷ Read 2 ∷ Acknowledge 2 ∷ []
a_turn = refl
