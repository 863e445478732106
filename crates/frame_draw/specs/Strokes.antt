-- The instructions of a frame: a glyph is painted into its buffer, and a cell is copied from there (this project's own).
use Rattle.std.specs.Prelude.{ℕ, ◌*◌, ◌/◌, ◌%◌, ◌-◌, ℤ, pos, List, [], ◌∷◌, ◌&&◌, nat_lt, if◌then◌else◌}
use Rattle.gate_model.specs.declared.instr.Instr.{Instr}
use Rattle.gate_model.specs.declared.instr.Instr.TheVariants.{Size, Rect, Copy}
use Rattle.gate_model.specs.declared.key.Key.{Key}
use Rattle.glyph_strokes.specs.Strokes.{covering, fill}
use Rattle.dirty_region.specs.declared.band.Band.{Band}
use Rattle.glyph_cache.specs.declared.slot.SlotKind.{SlotKind}
use Rattle.glyph_cache.specs.declared.slot.SlotKind.TheVariants.{Held, Made, Reused}

-- what a buffer takes to show its key: nothing where it shows it, and a size of its own where it is new
unfoldable pub painting : SlotKind → ℤ → Key → List Instr
painting Held layer key = []
painting Made layer key = Size layer 8 16 ∷ covering layer 0 0 key
painting Reused layer key = covering layer 0 0 key

-- a cell of the visible layer comes from a buffer
unfoldable pub cell_copy : ℤ → ℕ → ℕ → Instr
cell_copy layer x y = Copy layer 0 0 8 16 (pos 0) (8 * x) (16 * y)

-- the visible layer moves up by so many rows; what it doesn't reach stays
unfoldable pub scroll : ℕ → ℕ → ℕ → Instr
scroll cols rows shift = Copy (pos 0) 0 (16 * shift) (8 * cols) (16 * (rows - shift)) (pos 0) 0 0

-- where the whole screen moved up and something of it is left, it moves
unfoldable pub scrolling : ℕ → ℕ → ℕ → List Instr
scrolling cols rows shift = if nat_lt 0 shift && nat_lt shift rows then scroll cols rows shift ∷ [] else []

-- so many columns and rows of cells from a place on have a colour of the palette
unfoldable pub filling : ℕ → ℕ → ℕ → ℕ → ℕ → List Instr
filling cols place width height paper = Rect (pos 0) (8 * (place % cols)) (16 * (place / cols)) (8 * width) (16 * height) ∷ fill (pos 0) paper ∷ []

-- so many cells of the visible layer come from others of it
unfoldable pub run_copy : ℕ → ℕ → ℕ → ℕ → Instr
run_copy cols from to count = Copy (pos 0) (8 * (from % cols)) (16 * (from / cols)) (8 * count) 16 (pos 0) (8 * (to % cols)) (16 * (to / cols))

-- a band of whole rows of the visible layer comes from where it stood
unfoldable pub band_copy : ℕ → Band → Instr
band_copy cols b = Copy (pos 0) 0 (16 * b.from) (8 * cols) (16 * b.height) (pos 0) 0 (16 * b.top)
