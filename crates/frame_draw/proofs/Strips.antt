-- A strip of cells that is filled with the paper of its places shows them, and every other place and layer stays.
use Rattle.std.proofs.Common.{◌≡◌, ℕ, zero, suc, ◌+◌, ◌*◌, ◌/◌, ◌%◌, ◌<◌, ◌≤◌, ◌⊎◌, pos, negsuc, List, [], Bool, true, false, if◌then◌else◌, refl, sym, ap, subst, ◌∙◌, arith, inl, inr}
use Rattle.std.specs.Prelude.{Some, slice_get}
use Rattle.std.proofs.lemmas.Bool.{cases_lt}
use Rattle.std.proofs.lemmas.Bool.Decides.{nat_tests}
use Rattle.std.proofs.lemmas.Nat.{div-add-mod'}
use Rattle.std.proofs.Math.Nat.{mul-le-mul_left}
use Rattle.gate_model.specs.declared.colour.Colour.{Colour}
use Rattle.gate_model.specs.declared.instr.Instr.{Instr}
use Rattle.gate_model.specs.declared.key.Key.{Key}
use Rattle.gate_model.specs.picture.Glyphs.{glyph}
use Rattle.gate_model.specs.picture.Palette.{colour_of}
use Rattle.gate_model.specs.picture.Layers.{Area, Layer, Layers, HasNoPaths, IsAlike, draw, empty_layer, is_covered, open_path}
use Rattle.gate_model.specs.picture.Buffers.{Buffers, layer_of}
use Rattle.glyph_strokes.proofs.Filled.{AreFor, IsShowing, area_for, area_pixel, area_shows, blank_glyph, bounds, drawn_here, drawn_there}
use Rattle.frame_draw.specs.Strokes.{filling}
use Rattle.frame_draw.specs.Cells.{Places, AreDrawn}
use Rattle.frame_draw.specs.Leads.{IsStrip, is_blank}
use Rattle.frame_draw.proofs.Copied.{other_layer, place_below}

-- ---- the cells of a strip are the places that follow
covered_if : (a : Area) (px py : ℕ) → a.x ≤ px → px < a.x + a.width → a.y ≤ py → py < a.y + a.height → is_covered a px py ≡ true
covered_if a px py left right above below = grind (arith, nat_tests)

module _ (cols place w h : ℕ) (some : 1 ≤ cols) (strip : IsStrip cols place w h) where
  abbrev x : ℕ
  x = place % cols

  abbrev y : ℕ
  y = place / cols

  abbrev pub area : Area
  area = record { x = 8 * x; y = 16 * y; width = 8 * w; height = 16 * h }

  back : y * cols + x ≡ place
  back = div-add-mod' place cols

  -- columns and rows of the pixel
  pub record IsCell (px py : ℕ) : Type 0 where
    pub from_left : x ≤ px / 8
    pub to_right : px / 8 < x + w
    pub from_top : y ≤ py / 16
    pub to_bottom : py / 16 < y + h

  pub cell_of : (px py : ℕ) → is_covered area px py ≡ true → IsCell px py
  cell_of px py e =
      let b = bounds area px py e in
      record { from_left = omega (arith, b.left_of); to_right = omega (arith, b.right_of); from_top = omega (arith, b.above); to_bottom = omega (arith, b.below) }

  covered_cell : (px py : ℕ) → IsCell px py → is_covered area px py ≡ true
  covered_cell px py c =
      covered_if area px py (omega (arith, c.from_left)) (omega (arith, c.to_right)) (omega (arith, c.from_top)) (omega (arith, c.to_bottom))

  in_strip : (X Y : ℕ) → X < cols → x ≤ X → X < x + w → y ≤ Y → Y < y + h → (place ≤ Y * cols + X) × (Y * cols + X < place + w * h)
  in_strip X Y low a b c d = cases strip.form
    where
      cases : ((h ≡ 1) × (x + w ≤ cols)) ⊎ ((x ≡ 0) × (w ≡ cols)) → (place ≤ Y * cols + X) × (Y * cols + X < place + w * h)
      cases (inl one) =
          let same : Y ≡ y = omega (arith, c, d, one.0) in
          let there : Y * cols ≡ y * cols = ap (λ (n : ℕ). n * cols) same in
          let area_is : w * h ≡ w = ap (λ (n : ℕ). w * n) one.0 ∙ (let e : w * 1 ≡ w = omega arith in e) in
          (omega (arith, there, back, a), omega (arith, there, back, b, area_is))
      cases (inr whole) =
          let more : y * cols ≤ Y * cols = omega (arith, mul-le-mul_left cols c) in
          let less : Y * cols + X < (y + h) * cols = place_below Y X (y + h) cols d low in
          let area_is : w * h ≡ cols * h = ap (λ (n : ℕ). n * h) whole.1 in
          (omega (arith, more, back, whole.0), omega (arith, less, back, whole.0, area_is))

  out_strip : (X Y : ℕ) → X < cols → place ≤ Y * cols + X → Y * cols + X < place + w * h → (x ≤ X) × (X < x + w) × (y ≤ Y) × (Y < y + h)
  out_strip X Y low from to = cases strip.form
    where
      not_above : y ≤ Y
      not_above = elim (cases_lt Y y) as (λ _. y ≤ Y) [
        | inl lt ↦ absurd (omega (arith, place_below Y X y cols lt low, from, back))
        | inr le ↦ le
      ]

      cases : ((h ≡ 1) × (x + w ≤ cols)) ⊎ ((x ≡ 0) × (w ≡ cols)) → (x ≤ X) × (X < x + w) × (y ≤ Y) × (Y < y + h)
      cases (inl one) =
          let area_is : w * h ≡ w = ap (λ (n : ℕ). w * n) one.0 ∙ (let e : w * 1 ≡ w = omega arith in e) in
          let same : Y ≡ y = elim (cases_lt y Y) as (λ _. Y ≡ y) [
            | inl lt ↦ absurd (let far : cols * (y + 1) ≤ cols * Y = mul-le-mul_left cols (let e : y + 1 ≤ Y = omega (arith, lt) in e) in omega (arith, far, to, back, area_is, one.1))
            | inr le ↦ omega (arith, le, not_above)
          ] in
          let there : Y * cols ≡ y * cols = ap (λ (n : ℕ). n * cols) same in
          (omega (arith, there, from, back), omega (arith, there, to, back, area_is), not_above, omega (arith, same, one.0))
      cases (inr whole) =
          let area_is : w * h ≡ cols * h = ap (λ (n : ℕ). n * h) whole.1 in
          let above : Y < y + h = elim (cases_lt Y (y + h)) as (λ _. Y < y + h) [
            | inl lt ↦ lt
            | inr le ↦ absurd (let far : cols * (y + h) ≤ cols * Y = mul-le-mul_left cols le in omega (arith, far, to, back, area_is, whole.0))
          ] in
          (omega (arith, whole.0), omega (arith, low, whole.0, whole.1), not_above, above)

  inside : (px py : ℕ) → px < 8 * cols → is_covered area px py ≡ true → (place ≤ (py / 16) * cols + px / 8) × ((py / 16) * cols + px / 8 < place + w * h)
  inside px py low e = let c = cell_of px py e in in_strip (px / 8) (py / 16) (omega (arith, low)) c.from_left c.to_right c.from_top c.to_bottom

  pub outside : (px py : ℕ) → px < 8 * cols → is_covered area px py ≡ false → ((py / 16) * cols + px / 8 < place) ⊎ (place + w * h ≤ (py / 16) * cols + px / 8)
  outside px py low e = elim (cases_lt ((py / 16) * cols + px / 8) place) as (λ _. ((py / 16) * cols + px / 8 < place) ⊎ (place + w * h ≤ (py / 16) * cols + px / 8)) [
    | inl lt ↦ inl lt
    | inr from ↦ elim (cases_lt ((py / 16) * cols + px / 8) (place + w * h)) as (λ _. ((py / 16) * cols + px / 8 < place) ⊎ (place + w * h ≤ (py / 16) * cols + px / 8)) [
      | inl to ↦ absurd (
          let t = out_strip (px / 8) (py / 16) (omega (arith, low)) from to in
          let yes : is_covered area px py ≡ true = covered_cell px py record { from_left = t.0; to_right = t.1; from_top = t.2; to_bottom = t.3 } in
          let wrong : true ≡ false = sym yes ∙ e in cc)
      | inr le ↦ inr le
    ]
  ]

  -- ---- what the fill leaves
  module _ (m : Layers) (rows : ℕ) (at next : Places) (keys : Buffers) (paper : ℕ)
      (here : (p : ℕ) (k : Key) → place ≤ p → p < place + w * h → next p ≡ Some k → (is_blank k ≡ true) × (k.paper ≡ paper))
      (there : (p : ℕ) (k : Key) → (p < place) ⊎ (place + w * h ≤ p) → next p ≡ Some k → at p ≡ Some k)
      (a : AreDrawn m cols rows at keys) where
    abbrev is : List Instr
    is = filling cols place w h paper

    all_for : AreFor (pos 0) is
    unfolding filling
    all_for = area_for (pos 0) area paper

    painted_area : IsShowing (draw m is (pos 0)) (8 * cols) (16 * rows) (area_pixel area (colour_of paper) (m (pos 0)).pixel)
    unfolding filling
    painted_area =
        subst (λ (l : Layer). IsShowing l (8 * cols) (16 * rows) (area_pixel area (colour_of paper) (m (pos 0)).pixel)) (sym (drawn_here m (pos 0) is all_for))
        (area_shows (m (pos 0)) (pos 0) area paper (8 * cols) (16 * rows) (m (pos 0)).pixel
        record { width = a.width; height = a.height; no_path = a.no_paths (pos 0); pixels = λ px py low high. refl })

    new_pixel : (px py : ℕ) (k : Key) → px < 8 * cols → py < 16 * rows → next ((py / 16) * cols + px / 8) ≡ Some k
        → (b : Bool) → is_covered area px py ≡ b
        → area_pixel area (colour_of paper) (m (pos 0)).pixel px py ≡ Some (glyph k (px % 8) (py % 16))
    new_pixel px py k low high e true c =
        let t = inside px py low c in
        let blank = here ((py / 16) * cols + px / 8) k t.0 t.1 e in
        ap (λ (b : Bool). if b then Some (colour_of paper) else (m (pos 0)).pixel px py) c
        ∙ ap (λ (q : Colour). Some q) (ap colour_of (sym blank.1) ∙ sym (blank_glyph k (px % 8) (py % 16) blank.0 (omega arith) (omega arith)))
    new_pixel px py k low high e false c =
        ap (λ (b : Bool). if b then Some (colour_of paper) else (m (pos 0)).pixel px py) c
        ∙ a.pixels px py k low high (there ((py / 16) * cols + px / 8) k (outside px py low c) e)

    closed : HasNoPaths (draw m is)
    closed (pos zero) = painted_area.no_path
    closed (pos (suc j)) = subst (λ (l : Layer). open_path l ≡ []) (sym (drawn_there m (pos 0) is (pos (suc j)) all_for (other_layer j))) (a.no_paths (pos (suc j)))
    closed (negsuc j) = subst (λ (l : Layer). open_path l ≡ []) (sym (drawn_there m (pos 0) is (negsuc j) all_for refl)) (a.no_paths (negsuc j))

    pub strip_filled : AreDrawn (draw m is) cols rows next keys
    strip_filled = record {
      width = painted_area.width;
      height = painted_area.height;
      pixels = λ px py k low high e. painted_area.pixels px py low high ∙ new_pixel px py k low high e (is_covered area px py) refl;
      buffers = λ n. subst (λ (l : Layer). IsAlike l (layer_of (slice_get keys n))) (sym (drawn_there m (pos 0) is (negsuc n) all_for refl)) (a.buffers n);
      others = λ n. subst (λ (l : Layer). IsAlike l empty_layer) (sym (drawn_there m (pos 0) is (pos (suc n)) all_for (other_layer n))) (a.others n);
      no_paths = closed;
    }
