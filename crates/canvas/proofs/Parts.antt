-- A rectangle of pixels is read and written row by row.
use Rattle.std.proofs.Common.{◌≡◌, ℕ, ◌+◌, ◌-◌, ◌*◌, ◌<◌, ◌≤◌, inl, inr, List, ◌++◌, drop, length, get_or, true, ◌||◌, if◌then◌else◌, Option, None, sym, ap, ◌∙◌, arith, length-append, length-take, length-drop}
use Rattle.std.specs.List.{slice_range}
use Rattle.std.proofs.lemmas.Bool.{cases_lt}
use Rattle.std.proofs.lemmas.List.{get_or-append_right, get_or_append_left, get_or-take, get_or-drop}
use Rattle.gate_model.specs.declared.colour.Colour.{Colour}
use Rattle.gate_model.specs.picture.Layers.{over}
use Rattle.canvas.specs.Kept.{IsOverlaid, Shows, is_within, pixel_in, with_part}
use Rattle.canvas.proofs.Rows.{else_case, is_below, row_before, row_fits, row_is, row_left, row_pixel, row_right}
use Rattle.canvas.proofs.Fills.{either_case, one_more_within, when_true}

abbrev Pixels : Type 0
Pixels = List (Option Colour)

-- a part of a row ends within the pixels
pub row_room : (long y row rows w x n : ℕ) → row < rows → x + n ≤ w → (y + rows) * w ≤ long → (y + row) * w + x + n ≤ long
row_room long y row rows w x n in_rows fits room =
    let whole : (y + row) * w + w ≤ (y + rows) * w = row_fits (y + row) (y + rows) w (omega arith) in
    omega arith

-- a run that was cut out of one row
pub cut_length : (pixels : Pixels) (from end n : ℕ) → end ≡ from + n → end ≤ length pixels → length (slice_range pixels from end) ≡ n
cut_length pixels from end n e fits = omega (arith, length-take (end - from) (drop from pixels), length-drop from pixels)

pub cut_pixel : (pixels : Pixels) (w from end n x y row k : ℕ) → from ≡ (y + row) * w + x → end ≡ from + n → k < n
    → get_or (slice_range pixels from end) k None ≡ pixel_in pixels w (x + k) (y + row)
cut_pixel pixels w from end n x y row k is_from is_end in_run =
    let place : from + k ≡ (y + row) * w + (x + k) = omega arith in
    get_or-take (end - from) (drop from pixels) k None (omega arith)
    ∙ (get_or-drop from pixels k None
    ∙ ap (λ (i : ℕ). get_or pixels i None) place)

-- ---- reading
next_row : (r n : ℕ) → (r + 1) * n ≡ r * n + n
next_row r n = grind arith

next_size : (part run : Pixels) (n r : ℕ) → length part ≡ r * n → length run ≡ n → length (part ++ run) ≡ (r + 1) * n
next_size part run n r size long = omega (arith, length-append part run, next_row r n)

pub part_step : (part run new : Pixels) (n r : ℕ) (f : ℕ → ℕ → Option Colour) → length run ≡ n → ((k : ℕ) → k < n → get_or run k None ≡ f k r)
    → new ≡ part ++ run → Shows part n r f → Shows new n (r + 1) f
part_step part run new n r f long each e s = record {
  size = ap length e ∙ next_size part run n r s.size long;
  each = λ x y in_x in_y. ap (λ (p : Pixels). pixel_in p n x y) e ∙ elim (cases_lt y r) [
    | inl above ↦
        let before : y * n + x < r * n = row_before y r n x above in_x in
        get_or_append_left part run None (y * n + x) (omega (arith, s.size)) ∙ s.each x y in_x above
    | inr below ↦
        let same : y ≡ r = omega arith in
        let place : y * n + x ≡ r * n + x = ap (λ (k : ℕ). k * n + x) same in
        let back : y * n + x - r * n ≡ x = omega arith in
        get_or-append_right part run (r * n) (y * n + x) None s.size (omega arith)
        ∙ (ap (λ (k : ℕ). get_or run k None) back ∙ (each x in_x ∙ ap (f x) (sym same)))
  ];
}

-- ---- writing
overlaid_row : (source now old : Pixels) (sw tw x y ax ay n row to : ℕ) (run part : Pixels) → to ≡ (y + row) * tw + x → length run ≡ n
    → ((k : ℕ) → k < n → get_or run k None ≡ pixel_in source sw (ax + k) (ay + row))
    → ((k : ℕ) → k < length run → get_or part k None ≡ over (get_or run k None) (get_or now (to + k) None))
    → ((px py : ℕ) → px < tw → pixel_in now tw px py ≡ (if is_within x (x + n) y (y + row) px py then over (pixel_in source sw (ax + (px - x)) (ay + (py - y))) (pixel_in old tw px py) else pixel_in old tw px py))
    → (px py : ℕ) → px < tw → is_within x (x + n) (y + row) (y + row + 1) px py ≡ true
    → get_or part (px - x) None ≡ over (pixel_in source sw (ax + (px - x)) (ay + (py - y))) (pixel_in old tw px py)
overlaid_row source now old sw tw x y ax ay n row to run part is_to long run_each part_each before px py in_px within =
    let order : x ≤ x + n = omega arith in
    let left : x ≤ px = row_left x (x + n) (y + row) px py order within in
    let right : px < x + n = row_right x (x + n) (y + row) px py order within in
    let at_row : py ≡ y + row = row_is x (x + n) (y + row) px py order within in
    let rows : py * tw ≡ (y + row) * tw = ap (λ (r : ℕ). r * tw) at_row in
    let place : to + (px - x) ≡ py * tw + px = omega arith in
    let source_row : ay + row ≡ ay + (py - y) = omega arith in
    let untouched : pixel_in now tw px py ≡ pixel_in old tw px py =
    before px py in_px
    ∙ else_case (is_within x (x + n) y (y + row) px py) (over (pixel_in source sw (ax + (px - x)) (ay + (py - y))) (pixel_in old tw px py)) (pixel_in old tw px py)
    (is_below x (x + n) y (y + row) px py (omega arith) (omega arith)) in
    part_each (px - x) (omega arith)
    ∙ (ap (λ (p : Option Colour). over p (get_or now (to + (px - x)) None)) (run_each (px - x) (omega arith) ∙ ap (λ (r : ℕ). pixel_in source sw (ax + (px - x)) r) source_row)
    ∙ ap (over (pixel_in source sw (ax + (px - x)) (ay + (py - y)))) (ap (λ (i : ℕ). get_or now i None) place ∙ untouched))

stands_at : (now new part run : Pixels) (tw x y n row to : ℕ) → to ≡ (y + row) * tw + x → length run ≡ n → new ≡ with_part to (to + length run) part now
    → new ≡ with_part ((y + row) * tw + x) ((y + row) * tw + (x + n)) part now
stands_at now new part run tw x y n row to is_to long e =
    let end : to + length run ≡ (y + row) * tw + (x + n) = omega arith in
    e ∙ (ap (λ (i : ℕ). with_part i (to + length run) part now) is_to ∙ ap (λ (i : ℕ). with_part ((y + row) * tw + x) i part now) end)

one_more : (x n y row px py : ℕ) → is_within x (x + n) y (y + (row + 1)) px py ≡ (is_within x (x + n) (y + row) (y + row + 1) px py || is_within x (x + n) y (y + row) px py)
one_more x n y row px py =
    let e : y + (row + 1) ≡ y + row + 1 = omega arith in
    ap (λ (b : ℕ). is_within x (x + n) y b px py) e ∙ one_more_within x (x + n) y (y + row) px py (omega arith)

pub overlay_step : (source old now new : Pixels) (sw tw x y ax ay n row to : ℕ) (run : Pixels) → x + n ≤ tw → to ≡ (y + row) * tw + x → to + n ≤ length now → length run ≡ n
    → ((k : ℕ) → k < n → get_or run k None ≡ pixel_in source sw (ax + k) (ay + row))
    → IsOverlaid to run now new
    → ((px py : ℕ) → px < tw → pixel_in now tw px py ≡ (if is_within x (x + n) y (y + row) px py then over (pixel_in source sw (ax + (px - x)) (ay + (py - y))) (pixel_in old tw px py) else pixel_in old tw px py))
    → (px py : ℕ) → px < tw → pixel_in new tw px py ≡ (if is_within x (x + n) y (y + (row + 1)) px py then over (pixel_in source sw (ax + (px - x)) (ay + (py - y))) (pixel_in old tw px py) else pixel_in old tw px py)
overlay_step source old now new sw tw x y ax ay n row to run fits is_to room long run_each o before px py in_px =
    let new_pixel = over (pixel_in source sw (ax + (px - x)) (ay + (py - y))) (pixel_in old tw px py) in
    let old_pixel = pixel_in old tw px py in
    let in_row = is_within x (x + n) (y + row) (y + row + 1) px py in
    ap (λ (p : Pixels). pixel_in p tw px py) (stands_at now new o.part run tw x y n row to is_to long o.stands)
    ∙ (row_pixel now o.part tw x (x + n) (y + row) (omega arith) fits (omega arith) (omega (arith, o.long)) px py in_px
    ∙ (when_true in_row (get_or o.part (px - x) None) new_pixel (pixel_in now tw px py)
    (overlaid_row source now old sw tw x y ax ay n row to run o.part is_to long run_each o.each before px py in_px)
    ∙ (ap (λ (p : Option Colour). if in_row then new_pixel else p) (before px py in_px)
    ∙ either_case in_row (is_within x (x + n) y (y + row) px py) (is_within x (x + n) y (y + (row + 1)) px py) new_pixel old_pixel (one_more x n y row px py))))
