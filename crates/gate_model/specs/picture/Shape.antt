-- What a frame may consist of (this project's own).
use Rattle.std.specs.Prelude.{◌≡◌, ℕ, ◌*◌, ◌<◌, ◌≤◌, ◌^◌, ℤ, pos, negsuc, ◌≤ℤ◌, List, [], ◌∷◌, ◌++◌, Bool, not, ◌&&◌, ◌||◌, ◌==◌, if◌then◌else◌, filter, IsTrue}
use Rattle.std.specs.List.{list_any}
use Rattle.std.specs.Ordering.{int_eq}
use Rattle.gate_model.specs.Limits.{most_extent}
use Rattle.gate_model.specs.declared.instr.Instr.{Instr}
use Rattle.gate_model.specs.declared.instr.Instr.TheVariants.{Size, Rect, Cfill, Copy, Sync, Disconnect, Error}

-- the visible layer, or a buffer
abbrev pub IsLayer : ℤ → Type 0
IsLayer k = (negsuc 1023 ≤ℤ k) × (k ≤ℤ pos 0)

-- the values of an instruction: those of their types, layers from -1,024 to 0, sizes to 4,096
abbrev pub IsInRange : Instr → Type 0
IsInRange (Size layer width height) = IsLayer layer × (width ≤ most_extent) × (height ≤ most_extent)
IsInRange (Rect layer x y width height) = IsLayer layer × (x < 2 ^ 32) × (y < 2 ^ 32) × (width < 2 ^ 32) × (height < 2 ^ 32)
IsInRange (Cfill layer red green blue) = IsLayer layer × (red < 2 ^ 8) × (green < 2 ^ 8) × (blue < 2 ^ 8)
IsInRange (Copy from x y width height to to_x to_y) = IsLayer from × (x < 2 ^ 32) × (y < 2 ^ 32) × (width < 2 ^ 32) × (height < 2 ^ 32) × IsLayer to × (to_x < 2 ^ 32) × (to_y < 2 ^ 32)
IsInRange (Sync stamp) = stamp < 2 ^ 64
IsInRange Disconnect = Unit {0}
IsInRange (Error status) = status < 2 ^ 16

-- each instruction is in range, so that it is read back as it was written
abbrev pub AreReadable : List Instr → Type 0
AreReadable [] = Unit {0}
AreReadable (i ∷ is) = IsInRange i × AreReadable is

-- the size of the whole screen for the visible layer and of one cell for a buffer; or nothing
abbrev pub is_size : ℕ → ℕ → ℤ → ℕ → ℕ → Bool
is_size cols rows k w h = (w == 0 && h == 0) || (if int_eq k (pos 0) then w == 8 * cols && h == 16 * rows else (w == 8 && h == 16))

-- the layers without this one
abbrev pub without_layer : ℤ → List ℤ → List ℤ
without_layer k unfilled = filter (λ j. not (int_eq j k)) unfilled

-- the list sizes, traces, fills and copies layers, and nothing else; a layer is filled only where it
-- has a rectangle since its last fill, and no rectangle is left unfilled. The second list has the
-- layers with a rectangle that isn't filled yet.
abbrev pub Draws : ℕ → ℕ → List ℤ → List Instr → Type 0
Draws cols rows unfilled [] = unfilled ≡ []
Draws cols rows unfilled (Size k w h ∷ is) = IsTrue (is_size cols rows k w h) × Draws cols rows unfilled is
Draws cols rows unfilled (Rect k x y w h ∷ is) = Draws cols rows (k ∷ unfilled) is
Draws cols rows unfilled (Cfill k red green blue ∷ is) = IsTrue (list_any (int_eq k) unfilled) × Draws cols rows (without_layer k unfilled) is
Draws cols rows unfilled (Copy k x y w h to to_x to_y ∷ is) = Draws cols rows unfilled is
Draws cols rows unfilled (Sync t ∷ is) = ⊥
Draws cols rows unfilled (Disconnect ∷ is) = ⊥
Draws cols rows unfilled (Error status ∷ is) = ⊥

-- a frame: instructions in range that draw, and then its only sync
pub record Shape (cols rows : ℕ) (is : List Instr) (t : ℕ) : Type 0 where
  pub body : List Instr
  pub ends : is ≡ body ++ Sync t ∷ []
  pub body_draws : Draws cols rows [] body
  pub in_range : AreReadable is

-- the list begins by sizing the visible layer
abbrev pub OpensScreen : List Instr → Type 0
OpensScreen (Size k w h ∷ is) = k ≡ pos 0
OpensScreen is = ⊥
