-- A run of characters in the cursor's row is printed as one character after another is.
use Rattle.std.proofs.Common.{◌⊎◌, inl, inr, ⊎_elim, ◌≡◌, ℕ, suc, ◌+◌, ◌-◌, get_or, ◌<◌, ◌≤◌, List, [], ◌∷◌, ◌++◌, length, map, take, drop, set, Bool, false, if◌then◌else◌, Some, refl, ap, sym, subst, ◌∙◌, arith, append_assoc, append-nil}
use Rattle.std.specs.Prelude.{All, ◌==◌}
use Rattle.std.proofs.lemmas.Bool.{cases_lt, cond-false, ne_eqb}
use Rattle.std.proofs.lemmas.List.Elements.{All-head, All-tail, All-take}
use Rattle.std.proofs.lemmas.List.{take_more_set, drop-set-lt, take-append-drop, take_all, take_more, take_rest, length-take-le, map-append}
use Rattle.std.proofs.Math.Seq.{take-add}
use Rattle.gate_model.specs.declared.cell.Cell.{Cell}
use Rattle.gate_model.specs.declared.control.Control.{Control}
use Rattle.gate_model.specs.declared.control.Control.TheVariants.{Print}
use Rattle.gate_model.specs.declared.cell.Half.TheVariants.{Whole}
use Rattle.gate_model.specs.terminal.Cells.{CellGrid, cell_at, mended, place, put, stands, with_part}
use Rattle.gate_model.specs.terminal.CellLaws.{IsFull}
use Rattle.gate_model.specs.terminal.Effects.{effect}
use Rattle.gate_model.specs.terminal.Pens.{drawn_with}
use Rattle.gate_model.specs.terminal.MendLaws.{AreMended, AreMendedBeside}
use Rattle.gate_model.specs.terminal.Printing.{IsPrintable, opened_for, placed, wrapped}
use Rattle.gate_model.specs.terminal.Screens.{after_controls}
use Rattle.gate_model.specs.terminal.Terminal.{Terminal}
use Rattle.gate_model.proofs.Mending.{all-are-mended, mended_full, mended-stay, put_beside, put_full, put_here}
use Rattle.gate_model.proofs.MendedEdits.{windows-mend}
use Rattle.gate_model.proofs.MendedPuts.{puts-mend}
use Rattle.gate_model.proofs.Widths.{ascii-narrow}
use Rattle.screen_grid.specs.Runs.{like, put_run}
use Rattle.vt_screen.specs.Printed.{placed_run}
use Rattle.vt_screen.proofs.PrintLaws.{narrow_printed}
use Rattle.vt_screen.proofs.Ranges.{row_room}

-- ---- the cells

none_put : (g : CellGrid) (x y : ℕ) (pen : Cell) → put_run x y [] pen g ≡ g
none_put g x y pen = ap (λ (cells : List Cell). record g { cells = cells })
    (ap (λ (cells : List Cell). cells ++ drop (place x y g + 0) g.cells) (append-nil (take (place x y g) g.cells))
    ∙ ap (λ k. take (place x y g) g.cells ++ drop k g.cells) (omega arith)
    ∙ take-append-drop (place x y g) g.cells)

-- one character, and then the others
cells_put : (cells run : List Cell) (cell : Cell) (p n : ℕ) → p < length cells → with_part (p + 1) (p + 1 + n) run (set cells p cell) ≡ with_part p (p + 1 + n) (cell ∷ run) cells
cells_put cells run cell p n below =
    ap (λ (front : List Cell). front ++ run ++ drop (p + 1 + n) (set cells p cell)) (take_more_set cells p cell below)
    ∙ ap (λ (rest : List Cell). take p cells ++ cell ∷ [] ++ run ++ rest) (drop-set-lt (p + 1 + n) cells p cell (omega arith))
    ∙ ap (λ (front : List Cell). front ++ drop (p + 1 + n) cells) (append_assoc (take p cells) (cell ∷ []) run)

one_put : (g : CellGrid) (x y ch : ℕ) (text : List ℕ) (pen : Cell) → place x y g < length g.cells
    → put_run (x + 1) y text pen (put x y (like pen ch) g) ≡ put_run x y (ch ∷ text) pen g
one_put g x y ch text pen below =
    let p = place x y g in
    let n = length text in
    let start : place (x + 1) y g ≡ p + 1 = omega arith in
    let end : p + 1 + n ≡ p + suc n = omega arith in
    let run : List Cell = map (like pen) text in
    ap (λ k. record g { cells = with_part k (k + n) run (set g.cells p (like pen ch)) }) start
    ∙ ap (λ (cells : List Cell). record g { cells = cells }) (cells_put g.cells run (like pen ch) p n below
    ∙ ap (λ k. with_part p k (like pen ch ∷ run) g.cells) end)

-- a run keeps a cell for each place
run_full : (g : CellGrid) (x y : ℕ) (text : List ℕ) (pen : Cell) → IsFull g → y < g.rows → x + length text ≤ g.cols → IsFull (put_run x y text pen g)
run_full g x y [] pen full row room = subst IsFull (sym (none_put g x y pen)) full
run_full g x y (c ∷ cs) pen full row room =
    let below : place x y g < length g.cells = omega (arith, row_room y g row, full, room) in
    subst IsFull (one_put g x y c cs pen below) (run_full (put x y (like pen c) g) (x + 1) y cs pen (put_full g x y (like pen c) full) row (omega (arith, room)))

-- the cells beside a run stay
run_outside : (g : CellGrid) (x y : ℕ) (text : List ℕ) (pen : Cell) (column row : ℕ) → IsFull g → y < g.rows → x + length text ≤ g.cols → column < g.cols → row < g.rows
    → (row ≡ y → x ≤ column → column < x + length text → ⊥) → cell_at column row (put_run x y text pen g) ≡ cell_at column row g
run_outside g x y [] pen column row full ylt room clt rlt apart = ap (cell_at column row) (none_put g x y pen)
run_outside g x y (c ∷ cs) pen column row full ylt room clt rlt apart =
    let below : place x y g < length g.cells = omega (arith, row_room y g ylt, full, room) in
    let h : CellGrid = put x y (like pen c) g in
    ap (cell_at column row) (sym (one_put g x y c cs pen below))
    ∙ (run_outside h (x + 1) y cs pen column row (put_full g x y (like pen c) full) ylt (omega (arith, room)) clt rlt (λ e low high. apart e (omega (arith, low)) (omega (arith, high)))
    ∙ put_beside g x y (like pen c) column row full (omega (arith, room)) ylt clt rlt (λ e f. apart f (omega (arith, e)) (omega (arith, e))))

-- and those of a run are as whole as its pen
run_inside : (g : CellGrid) (x y : ℕ) (text : List ℕ) (pen : Cell) (column : ℕ) → IsFull g → y < g.rows → x + length text ≤ g.cols → x ≤ column → column < x + length text
    → (cell_at column y (put_run x y text pen g)).half ≡ pen.half
run_inside g x y [] pen column full ylt room low high = absurd (omega (arith, low, high))
run_inside g x y (c ∷ cs) pen column full ylt room low high =
    let below : place x y g < length g.cells = omega (arith, row_room y g ylt, full, room) in
    let h : CellGrid = put x y (like pen c) g in
    let full-h : IsFull h = put_full g x y (like pen c) full in
    ap (λ (k : CellGrid). (cell_at column y k).half) (sym (one_put g x y c cs pen below))
    ∙ ⊎_elim
    (λ (more : x < column). run_inside h (x + 1) y cs pen column full-h ylt (omega (arith, room)) (omega (arith, more)) (omega (arith, high)))
    (λ (le : column ≤ x).
    let same : column ≡ x = omega (arith, le, low) in
    ap (λ (k : Cell). k.half)
    (run_outside h (x + 1) y cs pen column y full-h ylt (omega (arith, room)) (omega (arith, high, room)) ylt (λ e far near. omega (arith, same, far))
    ∙ (ap (λ k. cell_at k y h) same ∙ put_here g x y (like pen c) full (omega (arith, room)) ylt)))
    (cases_lt x column)

-- a run may be put before or after all are mended
run_mends : (g : CellGrid) (x y : ℕ) (text : List ℕ) (pen : Cell) → IsFull g → y < g.rows → x + length text ≤ g.cols → pen.half ≡ Whole
    → mended (put_run x y text pen (mended g)) ≡ mended (put_run x y text pen g)
run_mends g x y text pen full ylt room whole = alike (mended g) g x text refl refl (mended_full g) full ylt room (mended-stay (mended g) (mended_full g) (all-are-mended g full).1)
  where
    alike : (h k : CellGrid) (x : ℕ) (text : List ℕ) → h.cols ≡ k.cols → h.rows ≡ k.rows → IsFull h → IsFull k → y < k.rows → x + length text ≤ k.cols → mended h ≡ mended k
        → mended (put_run x y text pen h) ≡ mended (put_run x y text pen k)
    alike h k x [] cols rows fh fk row room same = ap mended (none_put h x y pen) ∙ (same ∙ sym (ap mended (none_put k x y pen)))
    alike h k x (c ∷ cs) cols rows fh fk row room same =
        let row-h : y < h.rows = omega (arith, row, rows) in
        let in-k : x < k.cols = omega (arith, room) in
        let in-h : x < h.cols = omega (arith, in-k, cols) in
        let cell : Cell = like pen c in
        let below-h : place x y h < length h.cells = omega (arith, row_room y h row-h, fh, in-h) in
        let below-k : place x y k < length k.cells = omega (arith, row_room y k row, fk, in-k) in
        let puts : mended (put x y cell h) ≡ mended (put x y cell k) =
        sym (puts-mend h x y cell fh in-h row-h whole) ∙ (ap (λ (g : CellGrid). mended (put x y cell g)) same ∙ puts-mend k x y cell fk in-k row whole) in
        ap mended (sym (one_put h x y c cs pen below-h))
        ∙ (alike (put x y cell h) (put x y cell k) (x + 1) cs cols rows (put_full h x y cell fh) (put_full k x y cell fk) row (omega (arith, room)) puts
        ∙ ap mended (one_put k x y c cs pen below-k))

-- ---- the screen

-- where no wrap is pending and nothing is inserted, a character of one column takes the cursor's cell, and then all are
-- mended
abbrev pub all_mended : Terminal → Terminal
all_mended t = record t { grid = mended t.grid }

effect_plain : (t : Terminal) (c : ℕ) → IsPrintable c → t.pending ≡ false → t.modes.insert ≡ false → effect (Print c) t ≡ all_mended (placed false c t)
effect_plain t c printable pending insert =
    let no_wrap : wrapped t ≡ t = cond-false _ _ _ pending in
    let no_insert : opened_for 1 t ≡ t = cond-false _ _ _ insert in
    ap all_mended ((narrow_printed c t (ascii-narrow c printable)).state ∙ (ap (λ (s : Terminal). placed false c (opened_for 1 s)) no_wrap ∙ ap (placed false c) no_insert))

-- and the cursor moves on, if it isn't at the end of its row
abbrev pub stepped : ℕ → Terminal → Terminal
stepped c t = record t { grid = put t.x t.y (drawn_with t.pen c) t.grid; last = Some c; x = t.x + 1; pending = false }

placed_within : (t : Terminal) (c : ℕ) → t.x + 1 < t.grid.cols → placed false c t ≡ stepped c t
placed_within t c below =
    ap (λ (b : Bool). record t { grid = put t.x t.y (drawn_with t.pen c) t.grid; last = Some c; x = if b then t.x else t.x + 1; pending = if b then t.modes.wrap else false })
    (ne_eqb (t.x + 1) t.grid.cols (λ e. absurd (omega (arith, below, e))))

-- characters before the last of a run
abbrev pub fronted : List ℕ → Terminal → Terminal
fronted front t = record t { grid = put_run t.x t.y front (drawn_with t.pen 32) t.grid; x = t.x + length front }

-- a run that is put over mended cells, and its last character
last_mends : (g : CellGrid) (x y : ℕ) (front : List ℕ) (pen last : Cell) → IsFull g → y < g.rows → x + length front < g.cols → pen.half ≡ Whole → last.half ≡ Whole
    → mended (put (x + length front) y last (put_run x y front pen (mended g))) ≡ mended (put (x + length front) y last (put_run x y front pen g))
last_mends g x y front pen last full ylt room whole is =
    let at = x + length front in
    let before : CellGrid = put_run x y front pen (mended g) in
    let after : CellGrid = put_run x y front pen g in
    let full-before = run_full (mended g) x y front pen (mended_full g) ylt (omega (arith, room)) in
    let full-after = run_full g x y front pen full ylt (omega (arith, room)) in
    sym (puts-mend before at y last full-before room ylt is)
    ∙ (ap (λ (k : CellGrid). mended (put at y last k)) (run_mends g x y front pen full ylt (omega (arith, room)) whole)
    ∙ puts-mend after at y last full-after room ylt is)

pub run_printed : (t : Terminal) (front : List ℕ) (c : ℕ) → All IsPrintable front → IsPrintable c → t.pending ≡ false → t.modes.insert ≡ false → IsFull t.grid → t.y < t.grid.rows → t.x + length front < t.grid.cols
    → after_controls t (map Print (front ++ c ∷ [])) ≡ all_mended (placed false c (fronted front t))
run_printed t [] c all printable pending insert full row room =
    let same : t.x ≡ t.x + 0 = omega arith in
    effect_plain t c printable pending insert
    ∙ ap (λ (g : CellGrid). all_mended (placed false c (record t { grid = g }))) (sym (none_put t.grid t.x t.y (drawn_with t.pen 32)))
    ∙ ap (λ x. all_mended (placed false c (record t { grid = put_run t.x t.y [] (drawn_with t.pen 32) t.grid; x = x }))) same
run_printed t (d ∷ front) c all printable pending insert full row room =
    let first : IsPrintable d = All-head IsPrintable d front all in
    let h : CellGrid = put t.x t.y (drawn_with t.pen d) t.grid in
    let next = all_mended (stepped d t) in
    let pen : Cell = drawn_with t.pen 32 in
    let moved : t.x + 1 + length front ≡ t.x + suc (length front) = omega arith in
    let full-h : IsFull h = put_full t.grid t.x t.y (drawn_with t.pen d) full in
    let below : place t.x t.y t.grid < length t.grid.cells = omega (arith, row_room t.y t.grid row, full, room) in
    let at = t.x + 1 + length front in
    ap (λ (s : Terminal). after_controls s (map Print (front ++ c ∷ []))) (effect_plain t d first pending insert ∙ ap all_mended (placed_within t d (omega (arith, room))))
    ∙ run_printed next front c (All-tail IsPrintable d front all) printable refl insert (mended_full h) row (omega (arith, room))
    ∙ ap (λ (g : CellGrid). record (placed false c (record t { x = at })) { grid = g }) (last_mends h (t.x + 1) t.y front pen (drawn_with t.pen c) full-h row (omega (arith, room)) refl refl)
    ∙ ap (λ (g : CellGrid). all_mended (placed false c (record t { grid = g; x = at }))) (one_put t.grid t.x t.y d front pen below)
    ∙ ap (λ x. all_mended (placed false c (record t { grid = put_run t.x t.y (d ∷ front) pen t.grid; x = x }))) moved

-- what it leaves to mend is beside it
pub run_beside : (t : Terminal) (front : List ℕ) (c : ℕ) → IsFull t.grid → AreMended t.grid → t.y < t.grid.rows → t.x + length front < t.grid.cols
    → AreMendedBeside t.y t.x (t.x + length front + 1) (placed false c (fronted front t)).grid
run_beside t front c full are row room =
    windows-mend t.grid after t.y t.x (at + 1) are record {
      cols = refl;
      rows = refl;
      inside = λ column low high. ap (stands t.grid.cols column (cell_at (column - 1) t.y after) (cell_at column t.y after).ch (cell_at (column + 1) t.y after)) (whole column low high (cases_lt column at));
      outside = λ column line clt rlt apart.
          put_beside run at t.y (drawn_with t.pen c) column line full-run room row clt rlt (λ e f. apart f (omega (arith, e)) (omega (arith, e)))
          ∙ run_outside t.grid t.x t.y front pen column line full row (omega (arith, room)) clt rlt (λ e low high. apart e low (omega (arith, high)));
    }
  where
    at : ℕ
    at = t.x + length front

    pen : Cell
    pen = drawn_with t.pen 32

    run : CellGrid
    run = put_run t.x t.y front pen t.grid

    after : CellGrid
    after = put at t.y (drawn_with t.pen c) run

    full-run : IsFull run
    full-run = run_full t.grid t.x t.y front pen full row (omega (arith, room))

    whole : (column : ℕ) → t.x ≤ column → column < at + 1 → (column < at) ⊎ (at ≤ column) → (cell_at column t.y after).half ≡ Whole
    whole column low high (inl before) =
        ap (λ (k : Cell). k.half) (put_beside run at t.y (drawn_with t.pen c) column t.y full-run room row (omega (arith, before, room)) row (λ e f. omega (arith, e, before)))
        ∙ run_inside t.grid t.x t.y front pen column full row (omega (arith, room)) low before
    whole column low high (inr behind) =
        let same : column ≡ at = omega (arith, high, behind) in
        ap (λ k. (cell_at k t.y after).half) same ∙ ap (λ (k : Cell). k.half) (put_here run at t.y (drawn_with t.pen c) full-run room row)

-- ---- one run after another

after_more : (t : Terminal) (cs ds : List Control) → after_controls t (cs ++ ds) ≡ after_controls (after_controls t cs) ds
after_more t [] ds = refl
after_more t (c ∷ cs) ds = after_more (effect c t) cs ds

pub printed_on : (t s : Terminal) (text : List ℕ) (i n : ℕ) (new : Terminal) → s ≡ after_controls t (map Print (take i text)) → new ≡ after_controls s (map Print (take n (take (length text - i) (drop i text))))
    → new ≡ after_controls t (map Print (take (i + n) text))
printed_on t s text i n new before after =
    after
    ∙ ap (λ xs. after_controls s (map Print (take n xs))) (take_rest text i)
    ∙ ap (λ (u : Terminal). after_controls u (map Print (take n (drop i text)))) before
    ∙ sym (after_more t (map Print (take i text)) (map Print (take n (drop i text))))
    ∙ ap (after_controls t) (sym (ap (map Print) (take-add i n text) ∙ map-append Print (take i text) (take n (drop i text))))

-- the last character of a run
run_split : (text : List ℕ) → 1 ≤ length text → take (length text - 1) text ++ get_or text (length text - 1) 0 ∷ [] ≡ text
run_split text some =
    let last : length text - 1 < length text = omega (arith, some) in
    let all : length text - 1 + 1 ≡ length text = omega (arith, some) in
    sym (take_more text (length text - 1) 0 last) ∙ ap (λ k. take k text) all ∙ take_all (length text) text (omega arith)

front_size : (text : List ℕ) → 1 ≤ length text → length (take (length text - 1) text) ≡ length text - 1
front_size text some = length-take-le (length text - 1) text (omega arith)

-- the last cell of a run is put like the others
put_last : (g : CellGrid) (x y : ℕ) (front : List ℕ) (c : ℕ) (pen : Cell) → IsFull g → y < g.rows → x + length front < g.cols
    → put (x + length front) y (like pen c) (put_run x y front pen g) ≡ put_run x y (front ++ c ∷ []) pen g
put_last g x y [] c pen full row room =
    let below : place x y g < length g.cells = omega (arith, row_room y g row, full, room) in
    let same : x + 0 ≡ x = omega arith in
    ap (λ k. put k y (like pen c) (put_run x y [] pen g)) same
    ∙ ap (λ (h : CellGrid). put x y (like pen c) h) (none_put g x y pen)
    ∙ sym (none_put (put x y (like pen c) g) (x + 1) y pen)
    ∙ one_put g x y c [] pen below
put_last g x y (d ∷ front) c pen full row room =
    let below : place x y g < length g.cells = omega (arith, row_room y g row, full, room) in
    let h : CellGrid = put x y (like pen d) g in
    let at : x + suc (length front) ≡ x + 1 + length front = omega arith in
    ap (λ (k : CellGrid). put (x + suc (length front)) y (like pen c) k) (sym (one_put g x y d front pen below))
    ∙ ap (λ k. put k y (like pen c) (put_run (x + 1) y front pen h)) at
    ∙ put_last h (x + 1) y front c pen (put_full g x y (like pen d) full) row (omega (arith, room))
    ∙ one_put g x y d (front ++ c ∷ []) pen below

-- so a run is its front and its last character
run_is : (t : Terminal) (text : List ℕ) → 1 ≤ length text → t.x + length text ≤ t.grid.cols → IsFull t.grid → t.y < t.grid.rows
    → placed_run text t ≡ placed false (get_or text (length text - 1) 0) (fronted (take (length text - 1) text) t)
run_is t text some room full row =
    ap (λ (g : CellGrid). shape g end (end - 1)) (ap (λ xs. put_run t.x t.y xs pen t.grid) (sym (run_split text some)) ∙ sym (put_last t.grid t.x t.y front c pen full row (omega (arith, some, room, size))))
    ∙ ap (λ e. shape whole e (end - 1)) behind
    ∙ ap (λ l. shape whole (t.x + length front + 1) l) before
  where
    c : ℕ
    c = get_or text (length text - 1) 0

    front : List ℕ
    front = take (length text - 1) text

    pen : Cell
    pen = drawn_with t.pen 32

    end : ℕ
    end = t.x + length text

    whole : CellGrid
    whole = put (t.x + length front) t.y (like pen c) (put_run t.x t.y front pen t.grid)

    shape : CellGrid → ℕ → ℕ → Terminal
    shape g e l = record t { grid = g; last = Some c; x = if e == t.grid.cols then l else e; pending = if e == t.grid.cols then t.modes.wrap else false }

    size : length front ≡ length text - 1
    size = front_size text some

    behind : end ≡ t.x + length front + 1
    behind = omega (arith, some, size)

    before : end - 1 ≡ t.x + length front
    before = omega (arith, some, size)

pub run_placed : (t places new : Terminal) (text : List ℕ) → 1 ≤ length text → All IsPrintable text → t.x + length text ≤ t.grid.cols → t.pending ≡ false → t.modes.insert ≡ false
    → IsFull t.grid → t.y < t.grid.rows → places ≡ placed_run text t → new ≡ all_mended places → new ≡ after_controls t (map Print text)
run_placed t places new text some all room pending insert full row is mends =
    let front = take (length text - 1) text in
    let c = get_or text (length text - 1) 0 in
    let size = front_size text some in
    mends
    ∙ ap all_mended (is ∙ run_is t text some room full row)
    ∙ sym (run_printed t front c (All-take IsPrintable (length text - 1) text all) (all (length text - 1) 0 (omega (arith, some))) pending insert full row (omega (arith, some, room, size)))
    ∙ ap (λ xs. after_controls t (map Print xs)) (run_split text some)

pub run_left : (t places : Terminal) (text : List ℕ) → 1 ≤ length text → t.x + length text ≤ t.grid.cols → IsFull t.grid → AreMended t.grid → t.y < t.grid.rows → places ≡ placed_run text t
    → AreMendedBeside places.y t.x (t.x + length text) places.grid
run_left t places text some room full are row is =
    let front = take (length text - 1) text in
    let c = get_or text (length text - 1) 0 in
    let size = front_size text some in
    let whole : places ≡ placed false c (fronted front t) = is ∙ run_is t text some room full row in
    let end : t.x + length front + 1 ≡ t.x + length text = omega (arith, some, size) in
    subst (λ (p : Terminal). AreMendedBeside p.y t.x (t.x + length text) p.grid) (sym whole)
    (subst (λ k. AreMendedBeside t.y t.x k (placed false c (fronted front t)).grid) end (run_beside t front c full are row (omega (arith, some, room, size))))
