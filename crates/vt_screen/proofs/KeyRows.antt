-- The keys of a grid's cells, row by row.
use Rattle.std.proofs.Common.{append_assoc, ◌≡◌, ℕ, ◌+◌, ◌-◌, ◌*◌, ◌<◌, ◌≤◌, List, [], ◌∷◌, ◌++◌, length, take, get_or, ap, sym, ◌∙◌, arith}
use Rattle.std.specs.Prelude.{map, slice_range}
use Rattle.std.proofs.lemmas.Grind.{common_steps}
use Rattle.std.proofs.lemmas.List.{map_more, map-append}
use Rattle.std.proofs.Math.Seq.{take-add}
use Rattle.gate_model.specs.declared.cell.Cell.{Cell}
use Rattle.gate_model.specs.declared.faces.Faces.{Faces}
use Rattle.gate_model.specs.declared.key.Key.{Key}
use Rattle.gate_model.specs.terminal.Cells.{CellGrid, blank, cell_at, place, rest_of_row}
use Rattle.gate_model.specs.terminal.CellLaws.{IsFull}
use Rattle.gate_model.specs.terminal.Screens.{key_of}
use Rattle.vt_screen.proofs.Ranges.{length-range, row_room}

at_range : (from to i : ℕ) (cells : List Cell) → i < to - from → get_or (slice_range cells from to) i blank ≡ get_or cells (from + i) blank
at_range from to i cells lt = grind (arith, common_steps)

take-range : (from to : ℕ) (cells : List Cell) → from ≤ to → take to cells ≡ take from cells ++ slice_range cells from to
take-range from to cells le =
    let e : to ≡ from + (to - from) = omega (arith, le) in
    ap (λ (k : ℕ). take k cells) e ∙ take-add from (to - from) cells

length-row : (g : CellGrid) (y : ℕ) → IsFull g → y < g.rows → length (rest_of_row 0 y g) ≡ g.cols
length-row g y full lt = length-range (place 0 y g) (place g.cols y g) g.cells (omega (arith, row_room y g lt, full)) ∙ omega arith

-- one more key of a row
row_more : (faces : Faces) (g : CellGrid) (x y : ℕ) → IsFull g → x < g.cols → y < g.rows
    → map (key_of faces) (take (x + 1) (rest_of_row 0 y g)) ≡ map (key_of faces) (take x (rest_of_row 0 y g)) ++ key_of faces (cell_at x y g) ∷ []
row_more faces g x y full column row =
    let len = length-row g y full row in
    let place_is : place 0 y g + x ≡ place x y g = omega arith in
    let cell_is : get_or (rest_of_row 0 y g) x blank ≡ cell_at x y g = at_range (place 0 y g) (place g.cols y g) x g.cells (omega (arith, column)) ∙ ap (λ (k : ℕ). get_or g.cells k blank) place_is in
    map_more (key_of faces) (rest_of_row 0 y g) x blank (omega (arith, len, column)) ∙ ap (λ (cell : Cell). map (key_of faces) (take x (rest_of_row 0 y g)) ++ key_of faces cell ∷ []) cell_is

-- the keys of a row so far, after one more was pushed
pub row_pushed : (faces : Faces) (g : CellGrid) (x y : ℕ) (old before after : List Key) (key : Key) (cell : Cell) → IsFull g → x < g.cols → y < g.rows
    → before ≡ old ++ map (key_of faces) (take x (rest_of_row 0 y g)) → after ≡ before ++ key ∷ [] → key ≡ key_of faces cell → cell ≡ cell_at x y g
    → after ≡ old ++ map (key_of faces) (take (x + 1) (rest_of_row 0 y g))
row_pushed faces g x y old before after key cell full column row so_far pushed key_is cell_is =
    pushed ∙ ap (λ (ks : List Key). ks ++ key ∷ []) so_far ∙ ap (λ (k : Key). old ++ map (key_of faces) (take x (rest_of_row 0 y g)) ++ k ∷ []) (key_is ∙ ap (key_of faces) cell_is)
    ∙ append_assoc old (map (key_of faces) (take x (rest_of_row 0 y g))) (key_of faces (cell_at x y g) ∷ []) ∙ ap (λ (ks : List Key). old ++ ks) (sym (row_more faces g x y full column row))

-- one more row
pub rows_more : (faces : Faces) (g : CellGrid) (y : ℕ) → map (key_of faces) (take ((y + 1) * g.cols) g.cells) ≡ map (key_of faces) (take (y * g.cols) g.cells) ++ map (key_of faces) (rest_of_row 0 y g)
rows_more faces g y =
    let from : y * g.cols ≡ place 0 y g = omega arith in
    let to : (y + 1) * g.cols ≡ place g.cols y g = omega arith in
    ap (λ (k : ℕ). map (key_of faces) (take k g.cells)) to ∙ ap (map (key_of faces)) (take-range (place 0 y g) (place g.cols y g) g.cells (omega arith)) ∙ map-append (key_of faces) (take (place 0 y g) g.cells) (rest_of_row 0 y g)
    ∙ ap (λ (k : ℕ). map (key_of faces) (take k g.cells) ++ map (key_of faces) (rest_of_row 0 y g)) (sym from)
