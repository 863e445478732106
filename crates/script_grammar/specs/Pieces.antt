-- How the input is cut into pieces (this project's own): a piece ends after a line feed, after so many
-- bytes, or at the end of the input.
use Rattle.std.specs.Prelude.{ℕ, ◌+◌, min, List, [], ◌∷◌, ◌++◌, length, take, drop, Some, None, Bool, ◌==◌, nat_le, if◌then◌else◌}
use Rattle.std.specs.List.{position_or_len}
use Rattle.gate_model.specs.text.Reading.{Head, read}

abbrev pub is_line_feed : ℕ → Bool
is_line_feed byte = byte == 10

-- the size of the piece that a list of bytes begins: through its first line feed, at most `most` bytes
abbrev pub piece_size : ℕ → List ℕ → ℕ
piece_size most bytes = min (position_or_len is_line_feed bytes + 1) most

-- the piece that a list of bytes begins with, where all of it is there
abbrev pub first_piece : ℕ → Head ℕ (List ℕ)
first_piece most bytes = if nat_le (piece_size most bytes) (length bytes) then Some (take (piece_size most bytes) bytes ∷ [], drop (piece_size most bytes) bytes) else None

-- the whole pieces, the oldest first, and the bytes of the piece that isn't whole yet
abbrev pub whole_pieces : ℕ → List ℕ → List (List ℕ)
whole_pieces most bytes = (read (first_piece most) bytes).0

abbrev pub unfinished : ℕ → List ℕ → List ℕ
unfinished most bytes = (read (first_piece most) bytes).1

-- at the end of the input the unfinished bytes are a piece
abbrev pub last_piece : List ℕ → List (List ℕ)
last_piece [] = []
last_piece (b ∷ bs) = (b ∷ bs) ∷ []

abbrev pub all_pieces : ℕ → List ℕ → List (List ℕ)
all_pieces most bytes = whole_pieces most bytes ++ last_piece (unfinished most bytes)
