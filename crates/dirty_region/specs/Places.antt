-- Places of a screen as column and row.
use Rattle.std.specs.Prelude.{ℕ, ◌/◌, ◌%◌, List, map, filter, Bool, not}
use Rattle.std.specs.List.{range_with_len}
use Rattle.gate_model.specs.declared.key.Key.{Key}
use Rattle.gate_model.specs.picture.Buffers.{is_same_key}
use Rattle.gate_model.specs.picture.Pictures.{key_at}

-- column and row of a place that is counted row by row
abbrev pub place_of : ℕ → ℕ → ℕ × ℕ
place_of cols place = (place % cols, place / cols)

-- the keys of two rows differ in a column
abbrev pub differs : List Key → List Key → ℕ → Bool
differs before after x = not (is_same_key (key_at after x) (key_at before x))

-- the places of row y, among its first columns, so many, where they do
abbrev pub differing : List Key → List Key → ℕ → ℕ → List (ℕ × ℕ)
differing before after y count = map (λ x. (x, y)) (filter (differs before after) (range_with_len 0 count))
