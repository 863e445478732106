-- The keys that are remembered with their buffers while a frame is drawn (this project's own).
use Rattle.std.specs.Prelude.{ℕ, List, Option, Some, None, IfSome, All, replicate, slice_set}
use Rattle.gate_model.specs.picture.Buffers.{Buffers}
use Rattle.glyph_cache.specs.declared.slot.SlotKind.{SlotKind}
use Rattle.glyph_cache.specs.declared.slot.SlotKind.TheVariants.{Held as Known, Made, Reused}
use Rattle.frame_draw.specs.declared.drawer.Held.{Held}
use Rattle.frame_draw.specs.Along.{IsBufferOf}

-- each one that is remembered has that buffer
abbrev pub AreBuffers : Buffers → List (Option Held) → Type 0
AreBuffers keys recent = All (λ o. IfSome o (λ h. IsBufferOf keys h.key h.layer)) recent

-- one more; where it took the buffer of another key, it alone
abbrev pub remembered : SlotKind → List (Option Held) → ℕ → Held → List (Option Held)
remembered Known recent at held = slice_set recent at (Some held)
remembered Made recent at held = slice_set recent at (Some held)
remembered Reused recent at held = slice_set (replicate 1024 None) at (Some held)
