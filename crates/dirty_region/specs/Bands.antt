-- A band of rows that moved, and the places that differ once it was moved too (this project's own).
use Rattle.std.specs.Prelude.{ℕ, ◌+◌, ◌-◌, ◌*◌, ◌/◌, ◌%◌, ◌≤◌, List, length, filter, Bool, not, ◌&&◌, nat_le, nat_lt, if◌then◌else◌}
use Rattle.std.specs.List.{range_with_len}
use Rattle.gate_model.specs.declared.key.Key.{Key}
use Rattle.gate_model.specs.picture.Buffers.{is_same_key}
use Rattle.gate_model.specs.picture.KeyGrid.{KeyGrid}
use Rattle.gate_model.specs.picture.Pictures.{key_at}
use Rattle.gate_model.specs.session.Cost.{old_key}
use Rattle.dirty_region.specs.declared.band.Band.{Band}

-- the band lies on a screen of so many rows, where it stood and where it comes to stand
pub record IsBand (rows : ℕ) (b : Band) : Type 0 where
  pub stood : b.from + b.height ≤ rows
  pub stands : b.top + b.height ≤ rows

-- the row that a row shows once the band was copied
abbrev pub band_row : Band → ℕ → ℕ
band_row b y = if nat_le b.top y && nat_lt y (b.top + b.height) then b.from + (y - b.top) else y

-- the key that a place shows then, where so many lines of the whole screen were scrolled up before
abbrev pub moved_key : KeyGrid → ℕ → Band → ℕ → Key
moved_key old shift b place = old_key old shift (band_row b (place / old.cols) * old.cols + place % old.cols)

-- the place of the new screen has another
abbrev pub is_left : KeyGrid → KeyGrid → ℕ → Band → ℕ → Bool
is_left old new shift b place = not (is_same_key (key_at new.keys place) (moved_key old shift b place))

-- the places that do, row by row
abbrev pub left : KeyGrid → KeyGrid → ℕ → Band → List ℕ
left old new shift b = filter (is_left old new shift b) (range_with_len 0 (length new.keys))
