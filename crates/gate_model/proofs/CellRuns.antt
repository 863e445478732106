-- What a part of a list of cells holds after it moves, or after others come in its place.
use Rattle.std.proofs.Common.{◌≡◌, ℕ, ◌+◌, ◌-◌, ◌<◌, ◌≤◌, List, ◌++◌, length, Bool, true, false, nat_lt, get_or, take, drop, ap, sym, ◌∙◌, append_assoc, arith}
use Rattle.std.specs.Prelude.{slice_range}
use Rattle.std.proofs.lemmas.Bool.Decides.{nat_tests}
use Rattle.std.proofs.lemmas.Grind.{common_steps}
use Rattle.std.proofs.lemmas.List.{drop-drop, take-append-drop}
use Rattle.gate_model.specs.declared.cell.Cell.{Cell}
use Rattle.gate_model.specs.terminal.Cells.{blank, with_part, moved_left, moved_right}

-- ---- a part of the cells, and others in its place
at_range : (from to i : ℕ) (cells : List Cell) → i < to - from → get_or (slice_range cells from to) i blank ≡ get_or cells (from + i) blank
at_range from to i cells lt = grind (arith, common_steps)

at_before : (from to i : ℕ) (run cells : List Cell) → from ≤ length cells → i < from → get_or (with_part from to run cells) i blank ≡ get_or cells i blank
at_before from to i run cells le lt = grind (arith, common_steps)

pub at_inside : (from to i : ℕ) (run cells : List Cell) → from ≤ length cells → from ≤ i → i < from + length run → get_or (with_part from to run cells) i blank ≡ get_or run (i - from) blank
at_inside from to i run cells le low high = grind (arith, common_steps)

at_behind : (from to i : ℕ) (run cells : List Cell) → from ≤ length cells → from ≤ to → length run ≡ to - from → to ≤ i → get_or (with_part from to run cells) i blank ≡ get_or cells i blank
at_behind from to i run cells le order len past = grind (arith, common_steps)

pub at_outside : (b : Bool) (from to i : ℕ) (run cells : List Cell) → nat_lt i from ≡ b → from ≤ length cells → from ≤ to → length run ≡ to - from → (from ≤ i → to ≤ i) → get_or (with_part from to run cells) i blank ≡ get_or cells i blank
at_outside true from to i run cells e le order len past = at_before from to i run cells le (grind (arith, nat_tests))
at_outside false from to i run cells e le order len past = at_behind from to i run cells le order len (past (grind (arith, nat_tests)))

pub length-with_part : (from to : ℕ) (run cells : List Cell) → from ≤ to → to ≤ length cells → length run ≡ to - from → length (with_part from to run cells) ≡ length cells
length-with_part from to run cells order le len = grind (arith, common_steps)

length-range : (from to : ℕ) (cells : List Cell) → to ≤ length cells → length (slice_range cells from to) ≡ to - from
length-range from to cells le = grind (arith, common_steps)

-- ---- a run that moves
length-left : (n : ℕ) (run : List Cell) → length (moved_left n run) ≡ length run
length-left n run = grind (arith, common_steps)

length-right : (n : ℕ) (run : List Cell) → length (moved_right n run) ≡ length run
length-right n run = grind (arith, common_steps)

at_left : (n i : ℕ) (run : List Cell) → i + n < length run → get_or (moved_left n run) i blank ≡ get_or run (i + n) blank
at_left n i run lt = grind (arith, common_steps)

at_left-free : (n i : ℕ) (run : List Cell) → i < length run → length run ≤ i + n → get_or (moved_left n run) i blank ≡ blank
at_left-free n i run lt le = grind (arith, common_steps)

at_right : (n i : ℕ) (run : List Cell) → n ≤ i → i < length run → get_or (moved_right n run) i blank ≡ get_or run (i - n) blank
at_right n i run le lt = grind (arith, common_steps)

at_right-free : (n i : ℕ) (run : List Cell) → i < n → i < length run → get_or (moved_right n run) i blank ≡ blank
at_right-free n i run lt within = grind (arith, common_steps)

-- ---- a part that moves
abbrev pub left_within : ℕ → ℕ → ℕ → List Cell → List Cell
left_within from to n cells = with_part from to (moved_left n (slice_range cells from to)) cells

abbrev pub right_within : ℕ → ℕ → ℕ → List Cell → List Cell
right_within from to n cells = with_part from to (moved_right n (slice_range cells from to)) cells

pub left_length : (from to n : ℕ) (cells : List Cell) → to ≤ length cells → length (moved_left n (slice_range cells from to)) ≡ to - from
left_length from to n cells le = length-left n (slice_range cells from to) ∙ length-range from to cells le

pub right_length : (from to n : ℕ) (cells : List Cell) → to ≤ length cells → length (moved_right n (slice_range cells from to)) ≡ to - from
right_length from to n cells le = length-right n (slice_range cells from to) ∙ length-range from to cells le

pub left_cell : (from to n i : ℕ) (cells : List Cell) → to ≤ length cells → from ≤ i → i + n < to → get_or (left_within from to n cells) i blank ≡ get_or cells (i + n) blank
left_cell from to n i cells le low lt =
    let range = length-range from to cells le in
    let whole = left_length from to n cells le in
    let e : from + ((i - from) + n) ≡ i + n = omega arith in
    at_inside from to i (moved_left n (slice_range cells from to)) cells (omega arith) low (omega (arith, whole))
    ∙ at_left n (i - from) (slice_range cells from to) (omega (arith, range))
    ∙ at_range from to ((i - from) + n) cells (omega arith)
    ∙ ap (λ (k : ℕ). get_or cells k blank) e

pub left_free : (from to n i : ℕ) (cells : List Cell) → to ≤ length cells → from ≤ i → i < to → to ≤ i + n → get_or (left_within from to n cells) i blank ≡ blank
left_free from to n i cells le low lt past =
    let range = length-range from to cells le in
    let whole = left_length from to n cells le in
    at_inside from to i (moved_left n (slice_range cells from to)) cells (omega arith) low (omega (arith, whole))
    ∙ at_left-free n (i - from) (slice_range cells from to) (omega (arith, range)) (omega (arith, range))

pub right_cell : (from to n i : ℕ) (cells : List Cell) → to ≤ length cells → from + n ≤ i → i < to → get_or (right_within from to n cells) i blank ≡ get_or cells (i - n) blank
right_cell from to n i cells le low lt =
    let range = length-range from to cells le in
    let whole = right_length from to n cells le in
    let e : from + ((i - from) - n) ≡ i - n = omega arith in
    at_inside from to i (moved_right n (slice_range cells from to)) cells (omega arith) (omega arith) (omega (arith, whole))
    ∙ at_right n (i - from) (slice_range cells from to) (omega arith) (omega (arith, range))
    ∙ at_range from to ((i - from) - n) cells (omega arith)
    ∙ ap (λ (k : ℕ). get_or cells k blank) e

pub right_free : (from to n i : ℕ) (cells : List Cell) → to ≤ length cells → from ≤ i → i < to → i < from + n → get_or (right_within from to n cells) i blank ≡ blank
right_free from to n i cells le low lt within =
    let range = length-range from to cells le in
    let whole = right_length from to n cells le in
    at_inside from to i (moved_right n (slice_range cells from to)) cells (omega arith) low (omega (arith, whole))
    ∙ at_right-free n (i - from) (slice_range cells from to) (omega arith) (omega (arith, range))

-- ---- a move by 0
whole_again : (from to : ℕ) (cells : List Cell) → from ≤ to → with_part from to (slice_range cells from to) cells ≡ cells
whole_again from to cells le =
    let e : from + (to - from) ≡ to = omega arith in
    let rest : drop to cells ≡ drop (to - from) (drop from cells) = sym (drop-drop (to - from) from cells ∙ ap (λ (k : ℕ). drop k cells) e) in
    rw append_assoc (ap (λ (l : List Cell). take from cells ++ (take (to - from) (drop from cells) ++ l)) rest
    ∙ ap (λ (l : List Cell). take from cells ++ l) (take-append-drop (to - from) (drop from cells))
    ∙ take-append-drop from cells)

left_zero : (run : List Cell) → moved_left 0 run ≡ run
left_zero run = grind (arith, common_steps)

right_zero : (run : List Cell) → moved_right 0 run ≡ run
right_zero run = grind (arith, common_steps)

-- a part that moves by 0 is as before
pub left_stays : (from to n : ℕ) (cells : List Cell) → from ≤ to → n ≡ 0 → left_within from to n cells ≡ cells
left_stays from to n cells le e = rw e (ap (λ (l : List Cell). with_part from to l cells) (left_zero (slice_range cells from to)) ∙ whole_again from to cells le)

pub right_stays : (from to n : ℕ) (cells : List Cell) → from ≤ to → n ≡ 0 → right_within from to n cells ≡ cells
right_stays from to n cells le e = rw e (ap (λ (l : List Cell). with_part from to l cells) (right_zero (slice_range cells from to)) ∙ whole_again from to cells le)
