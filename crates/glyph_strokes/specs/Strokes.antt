-- The instructions that paint a key at a place of a layer (this project's own).
use Rattle.std.specs.Prelude.{ℕ, ◌+◌, ℤ, List, [], ◌∷◌, ◌++◌, map}
use Rattle.gate_model.specs.declared.instr.Instr.{Instr}
use Rattle.gate_model.specs.declared.instr.Instr.TheVariants.{Rect, Cfill}
use Rattle.gate_model.specs.declared.key.Key.{Key}
use Rattle.glyph_table.specs.declared.patch.Patch.{Patch}
use Rattle.glyph_table.specs.GlyphRects.{rects}
use Rattle.gate_model.specs.picture.Palette.{colour_of}

-- the layer's path is filled with a colour of the palette
unfoldable pub fill : ℤ → ℕ → Instr
fill layer index = Cfill layer (colour_of index).red (colour_of index).green (colour_of index).blue

-- a rectangle of a glyph whose cell begins at the pixel x, y
abbrev pub rect_at : ℤ → ℕ → ℕ → Patch → Instr
rect_at layer x y p = Rect layer (x + p.x) (y + p.y) p.width p.height

-- the glyph's rectangles in one ink; a glyph that has none takes no fill
unfoldable pub inked : ℤ → ℕ → ℕ → List Patch → ℕ → List Instr
inked layer x y [] ink = []
inked layer x y (p ∷ ps) ink = map (rect_at layer x y) (p ∷ ps) ++ fill layer ink ∷ []

-- a key's paper over the cell that begins at the pixel x, y, and its glyph in its ink
unfoldable pub covering : ℤ → ℕ → ℕ → Key → List Instr
covering layer x y key = Rect layer x y 8 16 ∷ fill layer key.paper ∷ inked layer x y (rects key.face key.under) key.ink
