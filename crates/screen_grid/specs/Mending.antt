-- A grid of which some places were mended (this project's own).
use Rattle.std.specs.Prelude.{◌≡◌, ◌<◌, ℕ, true}
use Rattle.gate_model.specs.terminal.CellLaws.{IsFull}
use Rattle.gate_model.specs.terminal.Cells.{CellGrid, is_mended, mended}

-- the first x columns of row y were
pub record HasMended (y x : ℕ) (old new : CellGrid) : Type 0 where
  pub full : IsFull new
  pub cols : new.cols ≡ old.cols
  pub rows : new.rows ≡ old.rows
  pub all : mended new ≡ mended old
  pub here : (column : ℕ) → column < old.cols → column < x → is_mended column y new ≡ true
  pub others : (column row : ℕ) → column < old.cols → row < old.rows → (row ≡ y → ⊥) → is_mended column row new ≡ is_mended column row old

-- the first y rows were
pub record HasMendedRows (y : ℕ) (old new : CellGrid) : Type 0 where
  pub full : IsFull new
  pub cols : new.cols ≡ old.cols
  pub rows : new.rows ≡ old.rows
  pub all : mended new ≡ mended old
  pub above : (column row : ℕ) → column < old.cols → row < old.rows → row < y → is_mended column row new ≡ true
