-- Which places of a screen are fresh when its size changes (this project's own).
use Rattle.std.specs.Prelude.{ℕ, ◌+◌, ◌*◌, ◌/◌, ◌%◌, List, length, filter, Bool, false, not, ◌&&◌, nat_lt, if◌then◌else◌, Option, Some, None, slice_get}
use Rattle.std.specs.List.{range_with_len}
use Rattle.gate_model.specs.declared.key.Key.{Key}
use Rattle.gate_model.specs.picture.KeyGrid.{KeyGrid}
use Rattle.gate_model.specs.picture.Pictures.{key_at}
use Rattle.gate_model.specs.picture.Buffers.{is_same_key}

-- the key that the old screen has at a place of one with so many columns, if it has that place
abbrev pub kept_key : ℕ → KeyGrid → ℕ → Option Key
kept_key cols old place = if nat_lt (place % cols) old.cols && nat_lt (place / cols) old.rows then Some (key_at old.keys ((place / cols) * old.cols + place % cols)) else None

abbrev pub are_same : Option Key → Option Key → Bool
are_same (Some a) (Some b) = is_same_key a b
are_same a b = false

-- the old screen hasn't the place, or another key is there now
abbrev pub is_fresh : ℕ → KeyGrid → List Key → ℕ → Bool
is_fresh cols old keys place = not (are_same (slice_get keys place) (kept_key cols old place))

-- the places of the new screen that are, row by row
abbrev pub fresh : KeyGrid → KeyGrid → List ℕ
fresh old now = filter (is_fresh now.cols old now.keys) (range_with_len 0 (length now.keys))
