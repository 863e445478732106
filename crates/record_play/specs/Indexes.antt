-- What a reading of a recording keeps (this project's own).
use Rattle.std.specs.Prelude.{◌≡◌, ℕ, List, [], ◌∷◌, Bool, true, false, Option, Some, Result, Ok, Err}
use Rattle.gate_model.specs.declared.instr.Instr.{Instr}
use Rattle.record_play.specs.Recorded.{IsFault, IsRefused, MayFollow, Placed, is_closed, last_stamp, syncs_of}
use Rattle.record_play.specs.declared.fault.RecordFault.{RecordFault}
use Rattle.record_play.specs.declared.fault.RecordFault.TheVariants.{Bad, NoMemory}
use Rattle.record_play.specs.declared.index.Index.{Index}

-- it is what is known of these instructions
pub record IsAt (r : Index) (placed : List Placed) : Type 0 where
  pub syncs : r.syncs.items ≡ syncs_of placed
  pub last : r.last ≡ last_stamp placed
  pub closed : r.closed ≡ is_closed placed

-- one more was taken, or may not stand there; want of memory alone tells neither
abbrev pub IsTold : List Placed → Option Instr → ℕ → Index → Result Bool RecordFault → Type 0
IsTold placed meant end new (Ok true) = (i : Instr) × (meant ≡ Some i) × MayFollow placed i × IsAt new (record { instr = i; end = end } ∷ placed)
IsTold placed meant end new (Ok false) = IsRefused placed meant
IsTold placed meant end new (Err fault) = fault ≡ NoMemory

-- the first fault, or want of memory
abbrev pub IsFaultOf : List ℕ → RecordFault → Type 0
IsFaultOf bytes (Bad place) = IsFault bytes place
IsFaultOf bytes NoMemory = Unit {0}
