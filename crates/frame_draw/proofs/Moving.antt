-- A run of cells that is copied from where the same keys stand shows them, and every other place stays.
use Rattle.std.proofs.Common.{◌≡◌, ℕ, ◌+◌, ◌-◌, ◌*◌, ◌/◌, ◌%◌, ◌<◌, ◌≤◌, ◌⊎◌, pos, List, [], ◌∷◌, ◌++◌, length, Bool, true, false, if◌then◌else◌, refl, sym, ap, subst, ◌∙◌, arith, inl, inr}
use Rattle.std.specs.Prelude.{Some, None}
use Rattle.std.proofs.lemmas.Nat.{div-add-mod', div_below}
use Rattle.std.proofs.Math.Nat.{mod-lt}
use Rattle.gate_model.specs.declared.instr.Instr.{Instr}
use Rattle.gate_model.specs.declared.key.Key.{Key}
use Rattle.gate_model.specs.picture.KeyGrid.{KeyGrid}
use Rattle.gate_model.specs.picture.Pictures.{key_at}
use Rattle.gate_model.specs.picture.Glyphs.{glyph}
use Rattle.gate_model.specs.picture.Layers.{Layers, copied, is_covered, play}
use Rattle.gate_model.specs.picture.Buffers.{Buffers}
use Rattle.gate_model.specs.session.Steps.{IsScreenSize}
use Rattle.frame_draw.specs.Strokes.{run_copy}
use Rattle.frame_draw.specs.Cells.{Places, AreDrawn}
use Rattle.frame_draw.specs.Along.{count_below, is_on}
use Rattle.frame_draw.specs.Leads.{AreStruck, IsStrip, Leads, known}
use Rattle.frame_draw.specs.Matches.{IsMatch}
use Rattle.frame_draw.proofs.Allowed.{run_draws, run_readable}
use Rattle.frame_draw.proofs.Copied.{both_true, covered_pixel, other_pixel, repainted, within}
use Rattle.frame_draw.proofs.Counts.{struck, struck_off}
use Rattle.frame_draw.proofs.Strips.{area, cell_of, outside}

-- ---- what the copy leaves
module _ (m : Layers) (cols rows : ℕ) (at next : Places) (keys : Buffers) (from to count : ℕ)
    (some : 1 ≤ cols) (many : 1 ≤ count) (from_row : from % cols + count ≤ cols) (to_row : to % cols + count ≤ cols) (from_in : from < rows * cols)
    (here : (i : ℕ) (k : Key) → i < count → next (to + i) ≡ Some k → at (from + i) ≡ Some k)
    (there : (p : ℕ) (k : Key) → (p < to) ⊎ (to + count ≤ p) → next p ≡ Some k → at p ≡ Some k)
    (a : AreDrawn m cols rows at keys) where
  strip : IsStrip cols to count 1
  strip = record { form = inl (refl, to_row); wide = many; high = omega arith }

  one_row : count * 1 ≡ count
  one_row = omega arith

  row_in : from / cols < rows
  row_in = div_below from cols rows some from_in

  new_pixel : (px py : ℕ) (k : Key) → px < 8 * cols → py < 16 * rows → next ((py / 16) * cols + px / 8) ≡ Some k
      → (b : Bool) → is_covered (area cols to count 1 some strip) px py ≡ b
      → (copied (m (pos 0)) (8 * (from % cols)) (16 * (from / cols)) (m (pos 0)) (area cols to count 1 some strip)).pixel px py ≡ Some (glyph k (px % 8) (py % 16))
  new_pixel px py k low high e true c =
      let t = cell_of cols to count 1 some strip px py c in
      let fx : ℕ = from % cols in
      let fy : ℕ = from / cols in
      let tx : ℕ = to % cols in
      let ty : ℕ = to / cols in
      let sx : ℕ = 8 * fx + (px - 8 * tx) in
      let sy : ℕ = 16 * fy + (py - 16 * ty) in
      let row : py / 16 ≡ ty = omega (arith, t.from_top, t.to_bottom) in
      let in_x : sx < 8 * cols = omega (arith, t.from_left, t.to_right, from_row) in
      let in_y : sy < 16 * rows = omega (arith, row, row_in) in
      let column_is : sx / 8 ≡ fx + (px / 8 - tx) = omega (arith, t.from_left) in
      let row_is : sy / 16 ≡ fy = omega (arith, row) in
      let right : sx % 8 ≡ px % 8 = omega (arith, t.from_left) in
      let lower : sy % 16 ≡ py % 16 = omega (arith, row) in
      let target : to + (px / 8 - tx) ≡ (py / 16) * cols + px / 8 = (let there_is : (py / 16) * cols ≡ ty * cols = ap (λ (n : ℕ). n * cols) row in omega (arith, there_is, div-add-mod' to cols, t.from_left)) in
      let source : from + (px / 8 - tx) ≡ (sy / 16) * cols + sx / 8 = (let there_is : (sy / 16) * cols ≡ fy * cols = ap (λ (n : ℕ). n * cols) row_is in omega (arith, there_is, column_is, div-add-mod' from cols)) in
      let was : at ((sy / 16) * cols + sx / 8) ≡ Some k = ap at (sym source) ∙ here (px / 8 - tx) k (omega (arith, t.from_left, t.to_right)) (ap next target ∙ e) in
      covered_pixel (m (pos 0)) (m (pos 0)) (8 * fx) (16 * fy) (area cols to count 1 some strip) px py (glyph k (px % 8) (py % 16))
      (both_true _ _ (within (m (pos 0)) (8 * cols) (16 * rows) px py a.width a.height low high) c)
      (ap (λ (b : Bool). if b then (m (pos 0)).pixel sx sy else None) (within (m (pos 0)) (8 * cols) (16 * rows) sx sy a.width a.height in_x in_y)
      ∙ (a.pixels sx sy k in_x in_y was
      ∙ (ap (λ (i : ℕ). Some (glyph k i (sy % 16))) right ∙ ap (λ (i : ℕ). Some (glyph k (px % 8) i)) lower)))
  new_pixel px py k low high e false c =
      other_pixel (m (pos 0)) (m (pos 0)) (8 * (from % cols)) (16 * (from / cols)) (area cols to count 1 some strip) px py c
      ∙ a.pixels px py k low high (there ((py / 16) * cols + px / 8) k (beside (outside cols to count 1 some strip px py low c)) e)
    where
      beside : {p : ℕ} → (p < to) ⊎ (to + count * 1 ≤ p) → (p < to) ⊎ (to + count ≤ p)
      beside (inl lt) = inl lt
      beside (inr le) = inr (omega (arith, le, one_row))

  pub run_copied : AreDrawn (play m (run_copy cols from to count)) cols rows next keys
  unfolding run_copy
  run_copied = repainted m cols rows at next keys (pos 0) (8 * (from % cols)) (16 * (from / cols)) (area cols to count 1 some strip) a
      (λ px py k low high e. new_pixel px py k low high e (is_covered (area cols to count 1 some strip) px py) refl)

-- ---- one run
unless : (b c : Bool) (k : Key) → b ≡ c → (if b then None else Some k) ≡ (if c then None else Some k)
unless b c k e = ap (λ (t : Bool). if t then None else Some k) e

module _ (now : KeyGrid) (list longer : List Instr) (flags later : List Bool) (from to n count : ℕ)
    (size : IsScreenSize now.cols now.rows) (full : length now.keys ≡ now.rows * now.cols) (match : IsMatch now.keys flags now.cols from to n) (many : 2 ≤ n)
    (counted : count_below (is_on flags) to + count ≡ count_below (is_on flags) (to + n)) (enough : 2 ≤ count)
    (added : longer ≡ list ++ run_copy now.cols from to n ∷ []) (s : AreStruck flags later to (to + n)) where
  some : 1 ≤ n
  some = omega (arith, many)

  here : (i : ℕ) (k : Key) → i < n → known now later (to + i) ≡ Some k → known now flags (from + i) ≡ Some k
  here i k lt e =
      unless (is_on flags (from + i)) false (key_at now.keys (from + i)) (match.shown i lt)
      ∙ (ap (λ (q : Key). Some q) (sym (match.same i lt))
      ∙ (sym (unless (is_on later (to + i)) false (key_at now.keys (to + i)) (s.inside (to + i) (omega arith) (omega (arith, lt)))) ∙ e))

  there : (p : ℕ) (k : Key) → (p < to) ⊎ (to + n ≤ p) → known now later p ≡ Some k → known now flags p ≡ Some k
  there p k (inl low) e = sym (unless (is_on later p) (is_on flags p) (key_at now.keys p) (s.before p low)) ∙ e
  there p k (inr high) e = sym (unless (is_on later p) (is_on flags p) (key_at now.keys p) (s.after p high)) ∙ e

  column : (p : ℕ) → p % now.cols ≤ 512
  column p = let lt : p % now.cols < now.cols = mod-lt p size.some_columns in omega (arith, lt, size.few_columns)

  row : (p : ℕ) → p < now.rows * now.cols → p / now.cols ≤ 256
  row p lt = omega (arith, div_below p now.cols now.rows size.some_columns lt, size.few_rows)

  from_in : from < now.rows * now.cols
  from_in = omega (arith, match.from_within some, some, full)

  pub leads_run : Leads now list flags longer later
  leads_run = record {
    more = run_copy now.cols from to n ∷ [];
    added = added;
    layers = λ m keys d. run_copied m now.cols now.rows (known now flags) (known now later) keys from to n size.some_columns some (match.from_row some) (match.to_row some) from_in here there d;
    draws = run_draws now.cols now.rows from to n;
    readable = (run_readable now.cols from to n (column from) (row from from_in) (column to) (row to (omega (arith, match.to_within, some, full))) (omega (arith, match.to_row some, size.few_columns)), tt);
    alike = s.alike;
    off = struck_off flags later to (to + n) s;
    short = omega (arith, counted, enough, struck flags later to (to + n) (omega arith) s (length now.keys) match.to_within);
  }

-- .. as the code reads the keys and the columns
pub run_led : (now : KeyGrid) (list longer : List Instr) (flags later : List Bool) (from to n count cols : ℕ) (slice : List Key)
    → IsScreenSize now.cols now.rows → length now.keys ≡ now.rows * now.cols → slice ≡ now.keys → cols ≡ now.cols → IsMatch slice flags cols from to n → 2 ≤ n
    → count_below (is_on flags) to + count ≡ count_below (is_on flags) (to + n) → 2 ≤ count
    → longer ≡ list ++ run_copy cols from to n ∷ [] → AreStruck flags later to (to + n) → Leads now list flags longer later
run_led now list longer flags later from to n count cols slice size full read same match many counted enough added s =
    leads_run now list longer flags later from to n count size full
    (subst (λ (ks : List Key). IsMatch ks flags now.cols from to n) read (subst (λ (c : ℕ). IsMatch slice flags c from to n) same match))
    many counted enough (added ∙ ap (λ (c : ℕ). list ++ run_copy c from to n ∷ []) same) s
