-- What the two sinks hold, where they tell it, and their counts of faults.
use Rattle.std.specs.Prelude.{◌≡◌, ℕ, ◌≤◌, List, [], Option, ◌⊎◌, Result, Ok, Err}
use Rattle.gate_model.specs.Sequences.{BeginsWith}
use Rattle.gate_outside.specs.Edge.{gained, Rose}
use Rattle.gate_script.specs.declared.stop.Stop.{Stop}
use Rattle.gate_script.specs.declared.stop.Stop.TheVariants.{WriteFault}

pub record Sinks : Type 0 where
  pub wrote : Option (List ℕ)
  pub wrote_faults : ℕ
  pub framed : Option (List ℕ)
  pub framed_faults : ℕ

abbrev pub held : Option (List ℕ) → ℕ → Option (List ℕ) → ℕ → Sinks
held wrote wrote_faults framed framed_faults = record { wrote = wrote; wrote_faults = wrote_faults; framed = framed; framed_faults = framed_faults }

-- the sinks gained answers and lines of the frames, and no count fell
pub record Gains (old new : Sinks) (answers framings : List ℕ) : Type 0 where
  pub answered : new.wrote ≡ gained old.wrote answers
  pub framed : new.framed ≡ gained old.framed framings
  pub later_answers : old.wrote_faults ≤ new.wrote_faults
  pub later_frames : old.framed_faults ≤ new.framed_faults

-- the count of a sink rose
abbrev pub HaveFailed : Sinks → Sinks → Type 0
HaveFailed old new = Rose old.wrote_faults new.wrote_faults ⊎ Rose old.framed_faults new.framed_faults

-- a sink failed: a front of the frames was written, and after all of them a front of the answer
pub record GainsFronts (old new : Sinks) (answer framing : List ℕ) : Type 0 where
  pub own_a : List ℕ
  pub own_f : List ℕ
  pub answer_begins : BeginsWith answer own_a
  pub framing_begins : BeginsWith framing own_f
  pub in_order : (own_a ≡ []) ⊎ (own_f ≡ framing)
  pub gains : Gains old new own_a own_f
  pub failed : HaveFailed old new

-- the frames and the answer were written, or fronts of them
abbrev pub Wrote : Result (Unit {0}) Stop → Sinks → Sinks → List ℕ → List ℕ → Type 0
Wrote (Ok done) old new answer framing = Gains old new answer framing
Wrote (Err WriteFault) old new answer framing = GainsFronts old new answer framing
Wrote (Err stop) old new answer framing = ⊥
