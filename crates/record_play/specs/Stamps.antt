-- The stamp of an instruction (this project's own).
use Rattle.std.specs.Prelude.{ℕ, Option, Some, None}
use Rattle.gate_model.specs.declared.instr.Instr.{Instr}
use Rattle.gate_model.specs.declared.instr.Instr.TheVariants.{Size, Rect, Cfill, Copy, Sync, Disconnect, Error}

-- the stamp of a sync
abbrev pub stamp_of : Instr → Option ℕ
stamp_of (Size layer width height) = None
stamp_of (Rect layer x y width height) = None
stamp_of (Cfill layer red green blue) = None
stamp_of (Copy from x y width height to to_x to_y) = None
stamp_of (Sync stamp) = Some stamp
stamp_of Disconnect = None
stamp_of (Error status) = None
