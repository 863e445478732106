-- Cells that show what others are to show (this project's own).
use Rattle.std.specs.Prelude.{◌≡◌, ℕ, ◌+◌, ◌%◌, ◌<◌, ◌≤◌, List, length, Bool, false}
use Rattle.gate_model.specs.declared.key.Key.{Key}
use Rattle.gate_model.specs.picture.Pictures.{key_at}
use Rattle.frame_draw.specs.Along.{is_on}

-- so many places from one on aren't wanted and have the keys of those from another on, in one row each
pub record IsMatch (keys : List Key) (wanted : List Bool) (cols from to count : ℕ) : Type 0 where
  pub shown : (i : ℕ) → i < count → is_on wanted (from + i) ≡ false
  pub same : (i : ℕ) → i < count → key_at keys (to + i) ≡ key_at keys (from + i)
  pub from_row : 1 ≤ count → from % cols + count ≤ cols
  pub to_row : 1 ≤ count → to % cols + count ≤ cols
  pub from_within : 1 ≤ count → from + count ≤ length keys
  pub to_within : to + count ≤ length keys
