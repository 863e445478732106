-- The lists of a frame are of its shape, in range and short.
use Rattle.std.proofs.Common.{◌≡◌, ℕ, ◌-◌, ◌*◌, ◌/◌, ◌%◌, ◌^◌, ◌<◌, ◌≤◌, ℤ, pos, negsuc, [], ◌∷◌, length, refl, arith, rules}
use Rattle.std.proofs.lemmas.Int.{ints}
use Rattle.gate_model.specs.declared.key.Key.{Key}
use Rattle.gate_model.specs.picture.Shape.{AreReadable, Draws, IsInRange, IsLayer}
use Rattle.glyph_cache.specs.declared.slot.SlotKind.{SlotKind}
use Rattle.glyph_cache.specs.declared.slot.SlotKind.TheVariants.{Held, Made, Reused}
use Rattle.frame_draw.specs.Strokes.{cell_copy, filling, painting, run_copy, scroll}
use Rattle.glyph_strokes.proofs.Allowed.{area_draws, covering_draws, covering_length, covering_readable, fill_readable}

-- ---- what is traced is filled
module _ (cols rows : ℕ) where
  pub painting_draws : (kind : SlotKind) (n : ℕ) (key : Key) → Draws cols rows [] (painting kind (negsuc n) key)
  unfolding painting
  painting_draws Held n key = refl
  painting_draws Made n key = (refl, covering_draws cols rows (negsuc n) 0 0 key)
  painting_draws Reused n key = covering_draws cols rows (negsuc n) 0 0 key

  pub copy_draws : (k : ℤ) (x y : ℕ) → Draws cols rows [] (cell_copy k x y ∷ [])
  unfolding cell_copy
  copy_draws k x y = refl

  pub scroll_draws : (shift : ℕ) → Draws cols rows [] (scroll cols rows shift ∷ [])
  unfolding scroll
  scroll_draws shift = refl

  pub run_draws : (from to count : ℕ) → Draws cols rows [] (run_copy cols from to count ∷ [])
  unfolding run_copy
  run_draws from to count = refl

  pub filling_draws : (place width height paper : ℕ) → Draws cols rows [] (filling cols place width height paper)
  unfolding filling
  filling_draws place width height paper = area_draws cols rows (pos 0) (8 * (place % cols)) (16 * (place / cols)) (8 * width) (16 * height) paper

-- ---- layers and places
pub is_visible : IsLayer (pos 0)
is_visible = search (rules, ints)

pub is_buffer : (n : ℕ) → n < 1024 → IsLayer (negsuc n)
is_buffer n lt = search (rules, ints)

below : (n : ℕ) → n ≤ 65536 → n < 2 ^ 32
below n le = omega arith

pub painting_readable : (kind : SlotKind) (k : ℤ) (key : Key) → IsLayer k → AreReadable (painting kind k key)
unfolding painting
painting_readable Held k key layer = tt
painting_readable Made k key layer = ((layer, omega arith, omega arith), covering_readable k 0 0 key layer (omega arith) (omega arith))
painting_readable Reused k key layer = covering_readable k 0 0 key layer (omega arith) (omega arith)

pub copy_readable : (k : ℤ) (x y : ℕ) → IsLayer k → x ≤ 512 → y ≤ 256 → IsInRange (cell_copy k x y)
unfolding cell_copy
copy_readable k x y layer across down =
    (layer, below 0 (omega arith), below 0 (omega arith), below 8 (omega arith), below 16 (omega arith), is_visible, below (8 * x) (omega arith), below (16 * y) (omega arith))

pub scroll_readable : (cols rows shift : ℕ) → cols ≤ 512 → rows ≤ 256 → shift < rows → IsInRange (scroll cols rows shift)
unfolding scroll
scroll_readable cols rows shift across down some =
    (is_visible, below 0 (omega arith), below (16 * shift) (omega arith), below (8 * cols) (omega arith), below (16 * (rows - shift)) (omega arith), is_visible, below 0 (omega arith), below 0 (omega arith))

pub run_readable : (cols from to count : ℕ) → from % cols ≤ 512 → from / cols ≤ 256 → to % cols ≤ 512 → to / cols ≤ 256 → count ≤ 512 → IsInRange (run_copy cols from to count)
unfolding run_copy
run_readable cols from to count a b c d e =
    (is_visible, below (8 * (from % cols)) (omega (arith, a)), below (16 * (from / cols)) (omega (arith, b)), below (8 * count) (omega (arith, e)), below 16 (omega arith), is_visible, below (8 * (to % cols)) (omega (arith, c)), below (16 * (to / cols)) (omega (arith, d)))

pub filling_readable : (cols place width height paper : ℕ) → place % cols ≤ 512 → place / cols ≤ 256 → width ≤ 512 → height ≤ 131072 → AreReadable (filling cols place width height paper)
unfolding filling
filling_readable cols place width height paper across down wide high = (
  (is_visible, small (8 * (place % cols)) (omega (arith, across)), small (16 * (place / cols)) (omega (arith, down)), small (8 * width) (omega (arith, wide)), small (16 * height) (omega (arith, high))),
  (fill_readable (pos 0) paper is_visible, tt),
)
  where
    small : (n : ℕ) → n ≤ 2097152 → n < 2 ^ 32
    small n le = omega arith

-- ---- lengths
pub filling_length : (cols place width height paper : ℕ) → length (filling cols place width height paper) ≡ 2
unfolding filling
filling_length cols place width height paper = refl

pub painting_length : (kind : SlotKind) (k : ℤ) (key : Key) → length (painting kind k key) ≤ 25
unfolding painting
painting_length Held k key = omega arith
painting_length Made k key = omega (arith, covering_length k 0 0 key)
painting_length Reused k key = omega (arith, covering_length k 0 0 key)

pub held_is_painted : (k : ℤ) (key : Key) → painting Held k key ≡ []
unfolding painting
held_is_painted k key = refl
