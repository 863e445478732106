-- A stream of instructions in which what is pasted stands as keys (this project's own).
use Rattle.std.specs.Prelude.{ℕ, List, [], ◌∷◌, ◌++◌, Bool, true, false, None}
use Rattle.gate_model.specs.text.Reading.{read}
use Rattle.clip_stream.specs.Clips.{Clip, clip_after, put_for, wish_of}
use Rattle.clip_stream.specs.Fronts.{Sent, instruction_at}

-- what stands in the places of these instructions, which come behind those that left this clipboard
abbrev pub put_all : Clip → List Sent → List ℕ
put_all clip [] = []
put_all clip (sent ∷ others) = put_for clip sent.0 (wish_of sent.1) ++ put_all (clip_after clip (wish_of sent.1)) others

-- the bytes, behind the instructions that left this clipboard: each of the three is replaced, every other is kept, and
-- so is all from the first byte on that begins no instruction
abbrev pub pasted_on : Clip → List ℕ → List ℕ
pasted_on clip bytes = put_all clip (read instruction_at bytes).0 ++ (read instruction_at bytes).1

abbrev pub pasted : List ℕ → List ℕ
pasted bytes = pasted_on None bytes

-- the clipboard, and the keys that wait to be given
pub record Clipboard : Type 0 where
  pub clip : Clip
  pub waiting : List ℕ

-- the list isn't empty
abbrev pub has_some : List ℕ → Bool
has_some [] = false
has_some (x ∷ xs) = true
