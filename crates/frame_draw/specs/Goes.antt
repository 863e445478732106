-- A screen is drawn place by place, and whole runs of places by one copy (this project's own).
use Rattle.std.specs.Prelude.{◌≡◌, ℕ, ◌+◌, ◌*◌, ◌<◌, ◌≤◌, List, [], ◌++◌, length, take, Bool, false}
use Rattle.gate_model.specs.declared.instr.Instr.{Instr}
use Rattle.gate_model.specs.picture.KeyGrid.{KeyGrid}
use Rattle.gate_model.specs.picture.Layers.{Layers, draw}
use Rattle.gate_model.specs.picture.Shape.{AreReadable, Draws}
use Rattle.gate_model.specs.picture.Buffers.{Buffers, new_keys}
use Rattle.frame_draw.specs.Cells.{AreDrawn}
use Rattle.frame_draw.specs.Along.{count_below, held_after, is_on}
use Rattle.frame_draw.specs.Leads.{known}

-- the first `seen` places have a buffer, and the first `drawn` aren't wanted any more; each place that is wanted no more
-- took one instruction at most
pub record Goes (now : KeyGrid) (first : List Instr) (before : Buffers) (wanted : List Bool) (drawn seen : ℕ) (list : List Instr) (later : List Bool) (keys : Buffers) : Type 0 where
  pub more : List Instr
  pub added : list ≡ first ++ more
  pub layers : (m : Layers) → AreDrawn m now.cols now.rows (known now wanted) before → AreDrawn (draw m more) now.cols now.rows (known now later) keys
  pub draws : Draws now.cols now.rows [] more
  pub readable : AreReadable more
  pub alike : length later ≡ length wanted
  pub done : (p : ℕ) → p < drawn → is_on later p ≡ false
  pub stays : length before ≤ length keys
  pub exact : length (held_after now before seen) ≤ 1024 → keys ≡ held_after now before seen
  pub short : length (held_after now before seen) ≤ 1024 → length more + count_below (is_on later) (length now.keys) ≤ count_below (is_on wanted) (length now.keys) + 25 * length (new_keys before (take seen now.keys))
