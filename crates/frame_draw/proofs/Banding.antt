-- A band of rows that is copied to where it stands shows its rows there, and every other row stays.
use Rattle.std.proofs.Common.{◌≡◌, ℕ, ◌+◌, ◌-◌, ◌*◌, ◌/◌, ◌%◌, ◌^◌, ◌<◌, ◌≤◌, pos, List, [], ◌∷◌, ◌++◌, length, map, Bool, true, false, not, ◌&&◌, nat_le, nat_lt, if◌then◌else◌, refl, sym, ap, subst, ◌∙◌, append_assoc, arith}
use Rattle.std.specs.Prelude.{Some, None}
use Rattle.std.proofs.lemmas.Bool.Decides.{nat_tests}
use Rattle.std.proofs.lemmas.List.{length-map}
use Rattle.std.proofs.lemmas.Nat.{div-mul-add, mod-mul-add}
use Rattle.gate_model.specs.declared.instr.Instr.{Instr}
use Rattle.gate_model.specs.declared.key.Key.{Key}
use Rattle.gate_model.specs.picture.KeyGrid.{KeyGrid}
use Rattle.gate_model.specs.picture.Pictures.{key_at}
use Rattle.gate_model.specs.picture.Glyphs.{glyph}
use Rattle.gate_model.specs.picture.Layers.{Area, Layers, copied, draw, is_covered, play}
use Rattle.gate_model.specs.picture.Buffers.{Buffers}
use Rattle.gate_model.specs.picture.Shape.{Draws, IsInRange}
use Rattle.gate_model.specs.session.Cost.{changes, is_changed, old_key}
use Rattle.gate_model.specs.session.Steps.{IsScreenSize}
use Rattle.dirty_region.specs.declared.band.Band.{Band}
use Rattle.dirty_region.specs.Bands.{IsBand, band_row, is_left, left, moved_key}
use Rattle.dirty_region.specs.Places.{place_of}
use Rattle.frame_draw.specs.Strokes.{band_copy}
use Rattle.frame_draw.specs.Cells.{Places, AreDrawn, mixed}
use Rattle.frame_draw.specs.Along.{Along, Fits, count_below}
use Rattle.frame_draw.specs.Moved.{moved_places, old_places}
use Rattle.frame_draw.proofs.Allowed.{is_visible}
use Rattle.frame_draw.proofs.Copied.{below_row, both_true, covered_pixel, other_pixel, repainted, within}
use Rattle.frame_draw.proofs.Going.{mixed_all}
use Rattle.frame_draw.proofs.Leading.{knows_within}
use Rattle.frame_draw.proofs.Left.{count_all}
use Rattle.frame_draw.proofs.NewKeys.{same_is}

-- ---- what the copy leaves
abbrev area : ℕ → Band → Area
area cols b = record { x = 0; y = 16 * b.top; width = 8 * cols; height = 16 * b.height }

covers_rows : (px py w top height : ℕ) → px < w → is_covered (record { x = 0; y = 16 * top; width = w; height = 16 * height }) px py ≡ (nat_le top (py / 16) && nat_lt (py / 16) (top + height))
covers_rows px py w top height low = grind (arith, nat_tests)

inside_rows : (y top height : ℕ) → (nat_le top y && nat_lt y (top + height)) ≡ true → (top ≤ y) × (y < top + height)
inside_rows y top height e = (grind (arith, nat_tests), grind (arith, nat_tests))

chosen : (b c : Bool) (i j : ℕ) → b ≡ c → (if b then i else j) ≡ (if c then i else j)
chosen b c i j e = ap (λ (t : Bool). if t then i else j) e

module _ (m : Layers) (cols rows : ℕ) (at next : Places) (keys : Buffers) (b : Band) (on : IsBand rows b)
    (moved : (y x : ℕ) → x < cols → next (y * cols + x) ≡ at (band_row b y * cols + x)) (a : AreDrawn m cols rows at keys) where
  new_pixel : (px py : ℕ) (k : Key) → px < 8 * cols → py < 16 * rows → next ((py / 16) * cols + px / 8) ≡ Some k
      → (t : Bool) → (nat_le b.top (py / 16) && nat_lt (py / 16) (b.top + b.height)) ≡ t
      → (copied (m (pos 0)) 0 (16 * b.from) (m (pos 0)) (area cols b)).pixel px py ≡ Some (glyph k (px % 8) (py % 16))
  new_pixel px py k low high e true c =
      let rows_in = inside_rows (py / 16) b.top b.height c in
      let sy : ℕ = 16 * b.from + (py - 16 * b.top) in
      let row : band_row b (py / 16) ≡ b.from + (py / 16 - b.top) = chosen _ true (b.from + (py / 16 - b.top)) (py / 16) c in
      let row_is : sy / 16 ≡ b.from + (py / 16 - b.top) = omega (arith, rows_in.0) in
      let lower : sy % 16 ≡ py % 16 = omega (arith, rows_in.0) in
      let across : 0 + (px - 0) ≡ px = omega arith in
      let in_x : 0 + (px - 0) < 8 * cols = omega (arith, low) in
      let in_y : sy < 16 * rows = omega (arith, rows_in.0, rows_in.1, on.stood) in
      let was : at ((sy / 16) * cols + (0 + (px - 0)) / 8) ≡ Some k =
      ap (λ (i : ℕ). at (i * cols + (0 + (px - 0)) / 8)) (row_is ∙ sym row) ∙ (ap (λ (i : ℕ). at (band_row b (py / 16) * cols + i / 8)) across
      ∙ (sym (moved (py / 16) (px / 8) (below_row px cols low)) ∙ e)) in
      covered_pixel (m (pos 0)) (m (pos 0)) 0 (16 * b.from) (area cols b) px py (glyph k (px % 8) (py % 16))
      (both_true _ _ (within (m (pos 0)) (8 * cols) (16 * rows) px py a.width a.height low high) (covers_rows px py (8 * cols) b.top b.height low ∙ c))
      (ap (λ (t : Bool). if t then (m (pos 0)).pixel (0 + (px - 0)) sy else None) (within (m (pos 0)) (8 * cols) (16 * rows) (0 + (px - 0)) sy a.width a.height in_x in_y)
      ∙ (a.pixels (0 + (px - 0)) sy k in_x in_y was
      ∙ (ap (λ (i : ℕ). Some (glyph k (i % 8) (sy % 16))) across ∙ ap (λ (i : ℕ). Some (glyph k (px % 8) i)) lower)))
  new_pixel px py k low high e false c =
      let row : band_row b (py / 16) ≡ py / 16 = chosen _ false (b.from + (py / 16 - b.top)) (py / 16) c in
      other_pixel (m (pos 0)) (m (pos 0)) 0 (16 * b.from) (area cols b) px py (covers_rows px py (8 * cols) b.top b.height low ∙ c)
      ∙ a.pixels px py k low high (ap (λ (i : ℕ). at (i * cols + px / 8)) (sym row) ∙ (sym (moved (py / 16) (px / 8) (below_row px cols low)) ∙ e))

  pub band_copied : AreDrawn (play m (band_copy cols b)) cols rows next keys
  unfolding band_copy
  band_copied = repainted m cols rows at next keys (pos 0) 0 (16 * b.from) (area cols b) a
      (λ px py k low high e. new_pixel px py k low high e (nat_le b.top (py / 16) && nat_lt (py / 16) (b.top + b.height)) refl)

-- ---- it is allowed
band_draws : (cols rows across : ℕ) (b : Band) (more : List Instr) → Draws cols rows [] more → Draws cols rows [] (band_copy across b ∷ more)
unfolding band_copy
band_draws cols rows across b more d = d

below : (n : ℕ) → n ≤ 65536 → n < 2 ^ 32
below n le = omega arith

band_readable : (cols rows : ℕ) (b : Band) → cols ≤ 512 → rows ≤ 256 → IsBand rows b → IsInRange (band_copy cols b)
unfolding band_copy
band_readable cols rows b across down on =
    (is_visible, below 0 (omega arith), below (16 * b.from) (omega (arith, on.stood)), below (8 * cols) (omega arith), below (16 * b.height) (omega (arith, on.stood)), is_visible, below 0 (omega arith), below (16 * b.top) (omega (arith, on.stands)))

-- ---- the places over it
not_false : (b : Bool) → not b ≡ false → b ≡ true
not_false true e = refl
not_false false e = absurd (cc)

-- what isn't left has its key already
pub moved_fits : (old now : KeyGrid) (shift : ℕ) (b : Band) → Fits now (moved_places old shift b) (is_left old now shift b)
moved_fits old now shift b place e = ap (λ (k : Key). Some k) (sym (same_is (key_at now.keys place) (moved_key old shift b place) (not_false _ e)))

places_moved : (old : KeyGrid) (cols shift : ℕ) (b : Band) → old.cols ≡ cols → (y x : ℕ) → x < cols → moved_places old shift b (y * cols + x) ≡ old_places old shift (band_row b y * cols + x)
places_moved old cols shift b same y x lt =
    let row : (y * cols + x) / old.cols ≡ y = subst (λ (c : ℕ). (y * cols + x) / c ≡ y) (sym same) (div-mul-add y cols x lt) in
    let column : (y * cols + x) % old.cols ≡ x = subst (λ (c : ℕ). (y * cols + x) % c ≡ x) (sym same) (mod-mul-add y cols x lt) in
    ap (λ (p : ℕ). Some (old_key old shift p)) (ap (λ (q : ℕ). band_row b q * old.cols + (y * cols + x) % old.cols) row
    ∙ (ap (λ (r : ℕ). band_row b y * old.cols + r) column ∙ ap (λ (c : ℕ). band_row b y * c + x) same))

-- how many are left
counted : (test : ℕ → Bool) (cols total : ℕ) (told : List (ℕ × ℕ)) (places : List ℕ) → told ≡ map (place_of cols) places → length places ≡ count_below test total → length told ≡ count_below test total
counted test cols total told places e f = ap length e ∙ (length-map places (place_of cols) ∙ f)

pub fewer : (old now : KeyGrid) (shift : ℕ) (b : Band) (cols : ℕ) (rest places : List (ℕ × ℕ)) → rest ≡ map (place_of cols) (left old now shift b) → places ≡ map (place_of cols) (changes old now shift)
    → length rest < length places → count_below (is_left old now shift b) (length now.keys) + 1 ≤ count_below (is_changed old now shift) (length now.keys)
fewer old now shift b cols rest places e f lt =
    let n : length rest ≡ count_below (is_left old now shift b) (length now.keys) = counted (is_left old now shift b) cols (length now.keys) rest (left old now shift b) e (sym (count_all (is_left old now shift b) (length now.keys))) in
    let m : length places ≡ count_below (is_changed old now shift) (length now.keys) = counted (is_changed old now shift) cols (length now.keys) places (changes old now shift) f (sym (count_all (is_changed old now shift) (length now.keys))) in
    omega (arith, n, m, lt)

-- the band, and then the places that are left
pub along_banded : (old now : KeyGrid) (shift : ℕ) (b : Band) (cols : ℕ) (list between longer : List Instr) (before keys : Buffers)
    → IsScreenSize now.cols now.rows → length now.keys ≡ now.rows * now.cols → old.cols ≡ now.cols → cols ≡ now.cols → IsBand now.rows b → between ≡ list ++ band_copy cols b ∷ []
    → count_below (is_left old now shift b) (length now.keys) + 1 ≤ count_below (is_changed old now shift) (length now.keys)
    → Along now between before (moved_places old shift b) (is_left old now shift b) (length now.keys) (length now.keys) longer keys
    → Along now list before (old_places old shift) (is_changed old now shift) (length now.keys) (length now.keys) longer keys
along_banded old now shift b cols list between longer before keys size full same read on begun less a =
    let total : ℕ = length now.keys in
    let i : Instr = band_copy now.cols b in
    record {
      more = i ∷ a.more;
      added = a.added ∙ (ap (λ (xs : List Instr). xs ++ a.more) (begun ∙ ap (λ (c : ℕ). list ++ band_copy c b ∷ []) read) ∙ append_assoc list (i ∷ []) a.more);
      layers = λ m d. knows_within (draw (play m i) a.more) now.cols now.rows (mixed now (moved_places old shift b) total) (mixed now (old_places old shift) total) keys
          (λ p k lt e. mixed_all now (moved_places old shift b) total p (omega (arith, lt, full)) ∙ (sym (mixed_all now (old_places old shift) total p (omega (arith, lt, full))) ∙ e))
          (a.layers (play m i) (band_copied m now.cols now.rows (old_places old shift) (moved_places old shift b) before b on (places_moved old now.cols shift b same) d));
      draws = band_draws now.cols now.rows now.cols b a.more a.draws;
      readable = (band_readable now.cols now.rows b size.few_columns size.few_rows on, a.readable);
      stays = a.stays;
      exact = a.exact;
      short = λ few. omega (arith, a.short few, less);
    }
