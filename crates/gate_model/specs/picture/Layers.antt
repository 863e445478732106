-- The drawing machine: what instructions draw (the Guacamole manual, "Guacamole protocol reference";
-- the rules on paths, clear pixels and sizes are this project's own).
use Rattle.std.specs.Prelude.{◌≡◌, ℕ, ◌+◌, ◌-◌, ◌*◌, ◌<◌, ℤ, pos, List, [], ◌∷◌, Bool, true, false, ◌&&◌, nat_le, nat_lt, if◌then◌else◌, Option, Some, None}
use Rattle.std.specs.List.{list_any}
use Rattle.std.specs.Ordering.{int_eq}
use Rattle.gate_model.specs.declared.colour.Colour.{Colour}
use Rattle.gate_model.specs.declared.instr.Instr.{Instr}
use Rattle.gate_model.specs.declared.instr.Instr.TheVariants.{Size, Rect, Cfill, Copy, Sync, Disconnect, Error}
use Rattle.gate_model.specs.picture.KeyGrid.{KeyGrid}
use Rattle.gate_model.specs.picture.Pictures.{picture}

-- a rectangle: its left and upper pixel, and its size
pub record Area : Type 0 where
  pub x : ℕ
  pub y : ℕ
  pub width : ℕ
  pub height : ℕ

-- a layer: its size, its pixels, of which None is clear, its path, and whether the path was filled
pub record Layer : Type 0 where
  pub width : ℕ
  pub height : ℕ
  pub pixel : ℕ → ℕ → Option Colour
  pub path : List Area
  pub filled : Bool

-- every layer, by its number
abbrev pub Layers : Type 0
Layers = ℤ → Layer

abbrev pub empty_layer : Layer
empty_layer = record { width = 0; height = 0; pixel = λ x y. None; path = []; filled = false }

-- no layer was ever named
abbrev pub nothing : Layers
nothing = λ k. empty_layer

abbrev pub with_layer : Layers → ℤ → Layer → Layers
with_layer m k l = λ j. if int_eq j k then l else m j

abbrev pub is_in : ℕ → ℕ → Layer → Bool
is_in x y l = nat_lt x l.width && nat_lt y l.height

abbrev pub is_covered : Area → ℕ → ℕ → Bool
is_covered a x y = nat_le a.x x && nat_lt x (a.x + a.width) && nat_le a.y y && nat_lt y (a.y + a.height)

-- the rectangles since the layer's last fill
abbrev pub open_path : Layer → List Area
open_path l = if l.filled then [] else l.path

-- no layer has a rectangle that isn't filled
abbrev pub HasNoPaths : Layers → Type 0
HasNoPaths m = (k : ℤ) → open_path (m k) ≡ []

-- the size is set, the common part stays and every other pixel is clear
abbrev pub sized : Layer → ℕ → ℕ → Layer
sized l w h = record l { width = w; height = h; pixel = λ x y. if is_in x y l && nat_lt x w && nat_lt y h then l.pixel x y else None }

-- the rectangle joins the path; after a fill it begins a new one
abbrev pub traced : Layer → Area → Layer
traced l a = record l { path = a ∷ open_path l; filled = false }

-- every pixel of the layer that a rectangle of the path covers has the colour
abbrev pub painted : Layer → Colour → Layer
painted l c = record l { pixel = λ x y. if is_in x y l && list_any (λ a. is_covered a x y) l.path then Some c else l.pixel x y; filled = true }

-- the new pixel, or the old one where the new one is clear
abbrev pub over : Option Colour → Option Colour → Option Colour
over None old = old
over (Some c) old = Some c

-- the pixel of a source; outside the source it is clear
abbrev pub source_pixel : Layer → ℕ → ℕ → Option Colour
source_pixel l x y = if is_in x y l then l.pixel x y else None

-- the pixels that the rectangle `target` covers come from `source`, whose left and upper pixel is x, y
abbrev pub copied : Layer → ℕ → ℕ → Layer → Area → Layer
copied source x y l target = record l { pixel = λ px py. if is_in px py l && is_covered target px py then over (source_pixel source (x + (px - target.x)) (y + (py - target.y))) (l.pixel px py) else l.pixel px py }

-- one instruction
abbrev pub play : Layers → Instr → Layers
play m (Size layer width height) = with_layer m layer (sized (m layer) width height)
play m (Rect layer x y width height) = with_layer m layer (traced (m layer) record { x = x; y = y; width = width; height = height })
play m (Cfill layer red green blue) = with_layer m layer (painted (m layer) record { red = red; green = green; blue = blue })
play m (Copy from x y width height to to_x to_y) = with_layer m to (copied (m from) x y (m to) record { x = to_x; y = to_y; width = width; height = height })
play m (Sync stamp) = m
play m Disconnect = m
play m (Error status) = m

-- a list of instructions, one after the other
abbrev pub draw : Layers → List Instr → Layers
draw m [] = m
draw m (i ∷ is) = draw (play m i) is

-- the layer that is seen
abbrev pub visible : ℤ
visible = pos 0

-- two layers look alike: equal sizes, and equal pixels within them
pub record IsAlike (l r : Layer) : Type 0 where
  pub width : l.width ≡ r.width
  pub height : l.height ≡ r.height
  pub pixels : (x y : ℕ) → x < l.width → y < l.height → l.pixel x y ≡ r.pixel x y

abbrev pub Same : Layers → Layers → Type 0
Same m n = (k : ℤ) → IsAlike (m k) (n k)

-- the layer has the size and the pixels of the picture, and none is clear
pub record ShowsPicture (l : Layer) (s : KeyGrid) : Type 0 where
  pub width : l.width ≡ 8 * s.cols
  pub height : l.height ≡ 16 * s.rows
  pub pixels : (x y : ℕ) → x < 8 * s.cols → y < 16 * s.rows → l.pixel x y ≡ Some (picture s x y)
