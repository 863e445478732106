-- What an outlet did (this project's own).
use Rattle.std.specs.Prelude.{◌≡◌, ℕ, true, false, List, [], ◌∷◌, ◌++◌, None, Result, Ok, Err}
use Rattle.gate_model.specs.declared.entry.Entry.{Entry}
use Rattle.gate_model.specs.declared.event.Event.TheVariants.{Read as read}
use Rattle.gate_model.specs.declared.instr.Instr.{Instr}
use Rattle.gate_model.specs.declared.read_answer.ReadAnswer.{ReadAnswer}
use Rattle.gate_model.specs.declared.read_answer.ReadAnswer.TheVariants.{Frames, Fresh, Ended as read_ended, Empty, Hold}
use Rattle.gate_model.specs.declared.read_refusal.ReadRefusal.{ReadRefusal}
use Rattle.gate_model.specs.declared.read_refusal.ReadRefusal.TheVariants.{NoViewer as read_no_viewer, Worn as read_worn, NoMemory as read_no_memory}
use Rattle.gate_model.specs.session.Calls.{stop_of}
use Rattle.gate_model.specs.session.Delivered.{delivered, ended}
use Rattle.gate_model.specs.session.History.{History, is_full}
use Rattle.gate_model.specs.text.Text.{texts}
use Rattle.gate_model.specs.Sequences.{BeginsWith, IsLater}
use Rattle.turn_lock.specs.declared.view.View.{View}
use Rattle.shared_desk.specs.Members.{IsSound}
use Rattle.shared_desk.specs.Own.{AreReads, own_entries}
use Rattle.viewer_acts.specs.Leaving.{HasLeft}
use Rattle.user_serve.specs.declared.ends.OutletEnd.{OutletEnd}
use Rattle.user_serve.specs.declared.ends.OutletEnd.TheVariants.{Ended, Left, WriteFault, Worn, NoMemory}
use Rattle.user_serve.specs.declared.showing.Step.{Step}
use Rattle.user_serve.specs.declared.showing.Step.TheVariants.{Gave, Waits}

-- what was written of a text: all of it, or at a fault of the sink a front
abbrev pub HasWritten : OutletEnd → List ℕ → List ℕ → Type 0
HasWritten WriteFault text written = BeginsWith text written
HasWritten Ended text written = written ≡ text
HasWritten Left text written = written ≡ text
HasWritten Worn text written = written ≡ text
HasWritten NoMemory text written = written ≡ text

-- why it ended, by what its pass has seen: at want of memory nothing else stops a read
abbrev pub OutletCause : OutletEnd → ℕ → History → Type 0
OutletCause Ended viewer seen = ended seen viewer ≡ true
OutletCause Left viewer seen = HasLeft viewer seen
OutletCause WriteFault viewer seen = Unit {0}
OutletCause Worn viewer seen = is_full seen ≡ true
OutletCause NoMemory viewer seen = stop_of seen (read viewer) ≡ None

-- its pass, which knew v before and knows w now, gained Reads, and the text of all that the viewer was given was
-- written. What it has seen is sound, so what it was given draws the screen
pub record OutletRun (viewer : ℕ) (v w : View Entry) (written : List ℕ) (end : OutletEnd) : Type 0 where
  pub later : IsLater v.seen w.seen
  pub reads : List Entry
  pub are_reads : AreReads viewer reads
  pub own : own_entries w ≡ reads ++ own_entries v
  pub wrote : HasWritten end (texts (delivered w.seen viewer)) written
  pub cause : OutletCause end viewer w.seen
  pub sound : IsSound w.seen

-- ---- before its end

-- all that the viewer was given so far was written
pub record HasShown (viewer : ℕ) (v w : View Entry) (written : List ℕ) : Type 0 where
  pub later : IsLater v.seen w.seen
  pub reads : List Entry
  pub are_reads : AreReads viewer reads
  pub own : own_entries w ≡ reads ++ own_entries v
  pub wrote : written ≡ texts (delivered w.seen viewer)

-- ---- one step

abbrev pub step_of : Result ReadAnswer ReadRefusal → Result Step OutletEnd
step_of (Ok (Frames count stamp true)) = Err Ended
step_of (Ok (Frames count stamp false)) = Ok Gave
step_of (Ok (Fresh stamp true)) = Err Ended
step_of (Ok (Fresh stamp false)) = Ok Gave
step_of (Ok read_ended) = Err Ended
step_of (Ok Empty) = Ok Waits
step_of (Ok (Hold waiting)) = Ok Waits
step_of (Err read_no_viewer) = Err Left
step_of (Err (read_worn entries)) = Err Worn
step_of (Err read_no_memory) = Err NoMemory

abbrev pub StepWrote : Result Step OutletEnd → List ℕ → List ℕ → Type 0
StepWrote (Ok step) text written = written ≡ text
StepWrote (Err end) text written = HasWritten end text written

abbrev pub StepCause : Result Step OutletEnd → ℕ → History → Type 0
StepCause (Ok step) viewer seen = Unit {0}
StepCause (Err end) viewer seen = OutletCause end viewer seen

-- the viewer was given more, and its text was written
pub record StepRun (viewer : ℕ) (v w : View Entry) (written : List ℕ) (result : Result Step OutletEnd) : Type 0 where
  pub later : IsLater v.seen w.seen
  pub reads : List Entry
  pub are_reads : AreReads viewer reads
  pub own : own_entries w ≡ reads ++ own_entries v
  pub more : List Instr
  pub given : delivered w.seen viewer ≡ delivered v.seen viewer ++ more
  pub wrote : StepWrote result (texts more) written
  pub cause : StepCause result viewer w.seen
  pub sound : IsSound w.seen
