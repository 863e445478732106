-- How a canvas keeps its layers (this project's own).
use Rattle.std.specs.Prelude.{◌≡◌, ℕ, ◌+◌, ◌-◌, ◌*◌, ◌<◌, List, [], ◌∷◌, ◌++◌, Bool, true, false, ◌&&◌, nat_lt, if◌then◌else◌, Option, Some, None, get_or, length, take, drop}
use Rattle.std.specs.List.{list_any}
use Rattle.gate_model.specs.declared.colour.Colour.{Colour}
use Rattle.gate_model.specs.picture.Layers.{Area, is_covered, over}
use Rattle.canvas.specs.declared.rectangle.Rectangle.{Rectangle}
use Rattle.canvas.specs.declared.dot.Dot.{Dot}
use Rattle.canvas.specs.declared.dot.Dot.TheVariants.{Outside, Clear, Painted}

-- a layer: its size, its pixels row by row, of which None is clear, its path with the latest
-- rectangle last, and whether the path was filled
pub record KeptLayer : Type 0 where
  pub width : ℕ
  pub height : ℕ
  pub pixels : List (Option Colour)
  pub path : List Rectangle
  pub filled : Bool

-- a layer that was never named
abbrev pub kept_empty : KeptLayer
kept_empty = record { width = 0; height = 0; pixels = []; path = []; filled = false }

-- the pixel at x, y of pixels that are kept row by row
abbrev pub pixel_in : List (Option Colour) → ℕ → ℕ → ℕ → Option Colour
pixel_in pixels width x y = get_or pixels (y * width + x) None

abbrev pub area_of : Rectangle → Area
area_of r = record { x = r.x; y = r.y; width = r.width; height = r.height }

-- a rectangle of the path covers the place
abbrev pub covers : List Rectangle → ℕ → ℕ → Bool
covers path x y = list_any (λ r. is_covered (area_of r) x y) path

-- the columns from `left` and the rows from `top`, up to `right` and `bottom`, which aren't included
abbrev pub is_within : ℕ → ℕ → ℕ → ℕ → ℕ → ℕ → Bool
is_within left right top bottom x y = is_covered record { x = left; y = top; width = right - left; height = bottom - top } x y

-- a list with a run in place of the items from `from` up to `to`
abbrev pub with_part : ℕ → ℕ → List (Option Colour) → List (Option Colour) → List (Option Colour)
with_part from to run items = take from items ++ run ++ drop to items

-- a run came over the pixels from `to` on, and where the run is clear the old pixel stays
pub record IsOverlaid (to : ℕ) (run old new : List (Option Colour)) : Type 0 where
  pub part : List (Option Colour)
  pub long : length part ≡ length run
  pub each : (k : ℕ) → k < length run → get_or part k None ≡ over (get_or run k None) (get_or old (to + k) None)
  pub stands : new ≡ with_part to (to + length run) part old

-- pixels of this size, row by row, show what the function gives for each place
pub record Shows (pixels : List (Option Colour)) (width height : ℕ) (pixel : ℕ → ℕ → Option Colour) : Type 0 where
  pub size : length pixels ≡ height * width
  pub each : (x y : ℕ) → x < width → y < height → pixel_in pixels width x y ≡ pixel x y

-- the rectangle joins the path; after a fill it begins a new one
abbrev pub kept_traced : KeptLayer → Rectangle → KeptLayer
kept_traced k r = record k { path = (if k.filled then [] else k.path) ++ r ∷ []; filled = false }

-- every pixel that a rectangle of the path covers has the colour
pub record IsPainted (old : KeptLayer) (colour : Colour) (new : KeptLayer) : Type 0 where
  pub pixels : Shows new.pixels old.width old.height (λ x y. if covers old.path x y then Some colour else pixel_in old.pixels old.width x y)
  pub others : new ≡ record old { pixels = new.pixels; filled = true }

-- the size is set, the common part stays and every other pixel is clear
pub record IsSized (old : KeptLayer) (width height : ℕ) (new : KeptLayer) : Type 0 where
  pub pixels : Shows new.pixels width height (λ x y. if nat_lt x old.width && nat_lt y old.height then pixel_in old.pixels old.width x y else None)
  pub others : new ≡ record old { width = width; height = height; pixels = new.pixels }

-- the part comes over the pixels from x, y on, and where it is clear the old pixel stays
pub record HasPart (old : KeptLayer) (part : List (Option Colour)) (x y width height : ℕ) (new : KeptLayer) : Type 0 where
  pub pixels : Shows new.pixels old.width old.height (λ px py. if is_within x (x + width) y (y + height) px py then over (pixel_in part width (px - x) (py - y)) (pixel_in old.pixels old.width px py) else pixel_in old.pixels old.width px py)
  pub others : new ≡ record old { pixels = new.pixels }

-- equal sizes, and equal pixels within them
pub record IsKeptAlike (l r : KeptLayer) : Type 0 where
  pub width : l.width ≡ r.width
  pub height : l.height ≡ r.height
  pub pixels : (x y : ℕ) → x < l.width → y < l.height → pixel_in l.pixels l.width x y ≡ pixel_in r.pixels r.width x y

-- what a pixel shows
abbrev pub dot_of : Option Colour → Dot
dot_of None = Clear
dot_of (Some colour) = Painted colour

-- what a place of the layer shows
abbrev pub kept_dot : KeptLayer → ℕ → ℕ → Dot
kept_dot k x y = if nat_lt x k.width && nat_lt y k.height then dot_of (pixel_in k.pixels k.width x y) else Outside

-- the pixel of a source; outside the source it is clear
abbrev pub source_in : KeptLayer → ℕ → ℕ → Option Colour
source_in k x y = if nat_lt x k.width && nat_lt y k.height then pixel_in k.pixels k.width x y else None

-- the pixels from x, y on come from the source's rectangle, but where that is clear
pub record IsCopied (source : KeptLayer) (area : Rectangle) (old : KeptLayer) (x y : ℕ) (new : KeptLayer) : Type 0 where
  pub pixels : (px py : ℕ) → px < old.width → py < old.height
      → pixel_in new.pixels old.width px py ≡ (if is_covered record { x = x; y = y; width = area.width; height = area.height } px py then over (source_in source (area.x + (px - x)) (area.y + (py - y))) (pixel_in old.pixels old.width px py) else pixel_in old.pixels old.width px py)
  pub others : new ≡ record old { pixels = new.pixels }
