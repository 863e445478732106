-- The characters of a stream of bytes (the Unicode Standard, section 3.9, table 3-7 and "U+FFFD Substitution
-- of Maximal Subparts"), of which the last may have come in part.
use Rattle.std.specs.Prelude.{ℕ, List, [], ◌∷◌, length, drop, Bool, ◌&&◌, ◌==◌, nat_lt, slice_index, Some, None, if◌then◌else◌}
use Rattle.bstr.specs.Utf8.{decoded, lead_len, lossy_chars, or_replacement}
use Rattle.gate_model.specs.text.Reading.{Head}

-- the bytes are the first ones of a character that has more of them
abbrev pub is_unfinished : List ℕ → Bool
is_unfinished bytes = (decoded bytes).size == length bytes && nat_lt (length bytes) (lead_len (slice_index bytes 0))

-- the longest end of the bytes that is unfinished
abbrev pub pending : List ℕ → List ℕ
pending [] = []
pending (b ∷ bs) = if is_unfinished (b ∷ bs) then b ∷ bs else pending bs

-- the bytes before that end
abbrev pub settled : List ℕ → List ℕ
settled [] = []
settled (b ∷ bs) = if is_unfinished (b ∷ bs) then [] else b ∷ settled bs

-- the lossy reading of the settled bytes, as `String::from_utf8_lossy` has it
abbrev pub characters : List ℕ → List ℕ
characters bytes = lossy_chars (settled bytes)

-- the same by the front of the bytes: a character, or one U+FFFD for the longest front that could begin one
abbrev pub head_char : Head ℕ ℕ
head_char bytes = if is_unfinished bytes then None else Some (or_replacement (decoded bytes).char ∷ [], drop (decoded bytes).size bytes)
