-- For which layers of the drawing machine a canvas stands (this project's own).
use Rattle.std.specs.Prelude.{◌≡◌, ◌≢◌, ℕ, ◌+◌, ◌<◌, ◌≤◌, ℤ, pos, negsuc, List, [], ◌∷◌, map, reverse, get_or, ◌==◌, if◌then◌else◌, ⊤}
use Rattle.gate_model.specs.declared.instr.Instr.{Instr}
use Rattle.gate_model.specs.declared.instr.Instr.TheVariants.{Size, Rect, Cfill, Copy, Sync, Disconnect, Error}
use Rattle.gate_model.specs.picture.Layers.{Area, Layer, Layers, is_in}
use Rattle.gate_model.specs.Limits.{most_extent}
use Rattle.gate_model.specs.picture.Shape.{IsLayer}
use Rattle.canvas.specs.declared.dot.Dot.{Dot}
use Rattle.canvas.specs.declared.dot.Dot.TheVariants.{Outside}
use Rattle.canvas.specs.declared.rectangle.Rectangle.{Rectangle}
use Rattle.canvas.specs.Kept.{KeptLayer, area_of, dot_of, kept_empty, pixel_in}

-- the rectangles of a path, the latest first
abbrev pub areas : List Rectangle → List Area
areas path = reverse (map area_of path)

-- the kept layer is this layer: its size, its pixels within it, its path, and whether that was filled
pub record Keeps (k : KeptLayer) (l : Layer) : Type 0 where
  pub width : l.width ≡ k.width
  pub height : l.height ≡ k.height
  pub pixels : (x y : ℕ) → x < l.width → y < l.height → l.pixel x y ≡ pixel_in k.pixels k.width x y
  pub path : l.path ≡ areas k.path
  pub filled : l.filled ≡ k.filled

-- the kept layer of a number: that of -n stands at place n, and one that doesn't stand there is empty
abbrev pub kept_at : List KeptLayer → ℤ → KeptLayer
kept_at layers (pos n) = if n == 0 then get_or layers 0 kept_empty else kept_empty
kept_at layers (negsuc n) = get_or layers (n + 1) kept_empty

-- every layer is kept
abbrev pub Stands : List KeptLayer → Layers → Type 0
Stands layers m = (k : ℤ) → Keeps (kept_at layers k) (m k)

-- what a place of a layer shows
abbrev pub dot_at : Layer → ℕ → ℕ → Dot
dot_at l x y = if is_in x y l then dot_of (l.pixel x y) else Outside

-- a canvas plays it: its layers lie from -1,024 to 0 and its size is at most 4,096 by 4,096
abbrev pub IsPlayable : Instr → Type 0
IsPlayable (Size k width height) = IsLayer k × (width ≤ most_extent) × (height ≤ most_extent)
IsPlayable (Rect k x y width height) = IsLayer k
IsPlayable (Cfill k red green blue) = IsLayer k
IsPlayable (Copy from x y width height to to_x to_y) = IsLayer from × IsLayer to
IsPlayable (Sync stamp) = ⊤
IsPlayable Disconnect = ⊤
IsPlayable (Error status) = ⊤

-- .. each of these
abbrev pub ArePlayable : List Instr → Type 0
ArePlayable [] = Unit {0}
ArePlayable (i ∷ is) = IsPlayable i × ArePlayable is

-- the layers but for one are as before
abbrev pub KeepsOthers : List KeptLayer → ℤ → List KeptLayer → Type 0
KeepsOthers old layer new = (j : ℤ) → j ≢ layer → kept_at new j ≡ kept_at old j

-- every layer is as before
abbrev pub KeepsAll : List KeptLayer → List KeptLayer → Type 0
KeepsAll old new = (j : ℤ) → kept_at new j ≡ kept_at old j
