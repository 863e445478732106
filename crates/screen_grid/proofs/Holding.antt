-- Cells that are whole stay so.
use Rattle.std.proofs.Common.{◌≡◌, ℕ, List, map, replicate, refl}
use Rattle.std.specs.Prelude.{All, slice_range}
use Rattle.std.proofs.lemmas.List.Elements.{All-map}
use Rattle.gate_model.specs.declared.cell.Cell.{Cell}
use Rattle.gate_model.specs.declared.cell.Half.TheVariants.{Whole}
use Rattle.gate_model.specs.terminal.Cells.{blank, moved_left, moved_right, with_part}
use Rattle.gate_model.proofs.CellsKept.{blanks_kept, part_kept, left_kept, right_kept, range_kept}
use Rattle.screen_grid.specs.Runs.{like}

abbrev pub IsWholeCell : Cell → Type 0
IsWholeCell cell = cell.half ≡ Whole

abbrev pub AreWholeCells : List Cell → Type 0
AreWholeCells cells = All IsWholeCell cells

pub blanks_whole : (n : ℕ) → AreWholeCells (replicate n blank)
blanks_whole n = blanks_kept IsWholeCell refl n

pub erased_whole : (s e n : ℕ) (cells : List Cell) → AreWholeCells cells → AreWholeCells (with_part s e (replicate n blank) cells)
erased_whole s e n cells all = part_kept IsWholeCell refl s e (replicate n blank) cells (blanks_whole n) all

pub drawn_whole : (s e : ℕ) (pen : Cell) (text : List ℕ) (cells : List Cell) → pen.half ≡ Whole → AreWholeCells cells → AreWholeCells (with_part s e (map (like pen) text) cells)
drawn_whole s e pen text cells is all = part_kept IsWholeCell refl s e (map (like pen) text) cells (All-map IsWholeCell (like pen) text (λ i d lt. is)) all

pub left_whole : (s e n : ℕ) (cells : List Cell) → AreWholeCells cells → AreWholeCells (with_part s e (moved_left n (slice_range cells s e)) cells)
left_whole s e n cells all = part_kept IsWholeCell refl s e (moved_left n (slice_range cells s e)) cells (left_kept IsWholeCell refl n (slice_range cells s e) (range_kept IsWholeCell refl s e cells all)) all

pub right_whole : (s e n : ℕ) (cells : List Cell) → AreWholeCells cells → AreWholeCells (with_part s e (moved_right n (slice_range cells s e)) cells)
right_whole s e n cells all = part_kept IsWholeCell refl s e (moved_right n (slice_range cells s e)) cells (right_kept IsWholeCell refl n (slice_range cells s e) (range_kept IsWholeCell refl s e cells all)) all
