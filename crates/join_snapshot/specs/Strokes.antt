-- The instructions that make a buffer anew (this project's own).
use Rattle.std.specs.Prelude.{ℤ, List, ◌∷◌}
use Rattle.gate_model.specs.declared.instr.Instr.{Instr}
use Rattle.gate_model.specs.declared.instr.Instr.TheVariants.{Size}
use Rattle.gate_model.specs.declared.key.Key.{Key}
use Rattle.glyph_strokes.specs.Strokes.{covering}

-- a buffer gets the size of a cell, and the key's glyph all over it
unfoldable pub buffer_of : ℤ → Key → List Instr
buffer_of layer key = Size layer 8 16 ∷ covering layer 0 0 key
