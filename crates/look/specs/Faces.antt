-- Which face a cell of a picture shows (this project's own font).
use Rattle.std.specs.Prelude.{◌≡◌, ℕ, ◌+◌, ◌*◌, ◌<◌, Bool, if◌then◌else◌}
use Rattle.gate_model.specs.declared.colour.Colour.{Colour}
use Rattle.gate_model.specs.picture.Glyphs.{lit}
use Rattle.gate_model.specs.picture.Layers.{Layer}
use Rattle.canvas.specs.Standing.{dot_at}
use Rattle.canvas.specs.declared.dot.Dot.TheVariants.{Painted}

-- the pixel x, y of the cell in this column and row is the one of the glyph
abbrev pub HasPixel : Layer → ℕ → ℕ → ℕ → Bool → Colour → Colour → ℕ → ℕ → Type 0
HasPixel l column row face under ink paper x y = dot_at l (8 * column + x) (16 * row + y) ≡ Painted (if lit face under x y then ink else paper)

-- the cell is exactly the glyph of the face, underlined or not, in two colours
pub record ShowsFace (l : Layer) (column row face : ℕ) : Type 0 where
  pub under : Bool
  pub ink : Colour
  pub paper : Colour
  pub pixels : (x y : ℕ) → x < 8 → y < 16 → HasPixel l column row face under ink paper x y
