-- How each call of a desk ends that stood for a history (this project's own).
use Rattle.std.specs.Prelude.{◌≡◌, ◌⊎◌, ℕ, List, [], ◌∷◌, ◌++◌, None, Result, Ok, Err}
use Rattle.gate_model.specs.declared.answer.Answer.{Answer}
use Rattle.gate_model.specs.declared.answer.Answer.TheVariants.{Feed as fed, Join as joined_as, Read as was_read, Write as was_written, Resize as was_resized}
use Rattle.gate_model.specs.declared.event.Event.{Event}
use Rattle.gate_model.specs.declared.instr.Instr.{Instr}
use Rattle.gate_model.specs.declared.entry.Entry.{Entry}
use Rattle.gate_model.specs.declared.setup.Setup.{Setup}
use Rattle.gate_model.specs.declared.joined.Joined.{Joined}
use Rattle.gate_model.specs.declared.memory.NoMemory.{NoMemory}
use Rattle.gate_model.specs.declared.written.Written.{Written}
use Rattle.gate_model.specs.declared.feed_refusal.FeedRefusal.{FeedRefusal}
use Rattle.gate_model.specs.declared.feed_refusal.FeedRefusal.TheVariants.{NoMemory as feed_no_memory}
use Rattle.gate_model.specs.declared.join_refusal.JoinRefusal.{JoinRefusal}
use Rattle.gate_model.specs.declared.join_refusal.JoinRefusal.TheVariants.{NoMemory as join_no_memory}
use Rattle.gate_model.specs.declared.read_answer.ReadAnswer.{ReadAnswer}
use Rattle.gate_model.specs.declared.read_answer.ReadAnswer.TheVariants.{Frames, Fresh}
use Rattle.gate_model.specs.declared.read_refusal.ReadRefusal.{ReadRefusal}
use Rattle.gate_model.specs.declared.read_refusal.ReadRefusal.TheVariants.{NoMemory as read_no_memory}
use Rattle.gate_model.specs.declared.write_refusal.WriteRefusal.{WriteRefusal}
use Rattle.gate_model.specs.declared.write_refusal.WriteRefusal.TheVariants.{NoMemory as write_no_memory}
use Rattle.gate_model.specs.declared.resize_refusal.ResizeRefusal.{ResizeRefusal}
use Rattle.gate_model.specs.declared.resize_refusal.ResizeRefusal.TheVariants.{NoMemory as resize_no_memory}
use Rattle.gate_model.specs.text.Text.{texts}
use Rattle.gate_model.specs.session.History.{History}
use Rattle.gate_model.specs.session.Calls.{Step, stop_of}
use Rattle.gate_model.specs.session.Steps.{StartStep}
use Rattle.gate_model.specs.session.Runs.{Runs, handed_out}
use Rattle.desk_core.specs.Desk.{DeskState, Stands}

-- a desk that was opened
pub record Opened (setup : Setup) (now : ℕ) (d : DeskState) : Type 0 where
  pub entry : Entry
  pub step : StartStep setup now entry
  pub stands : Stands d (entry ∷ [])

-- ---- the answer to a call, where memory didn't run short

abbrev pub feed_answer : Result ℕ FeedRefusal → Result Answer NoMemory
feed_answer (Err feed_no_memory) = Err record {}
feed_answer result = Ok (fed result)

abbrev pub join_answer : Result Joined JoinRefusal → Result Answer NoMemory
join_answer (Err join_no_memory) = Err record {}
join_answer result = Ok (joined_as result)

abbrev pub read_answer : Result ReadAnswer ReadRefusal → Result Answer NoMemory
read_answer (Err read_no_memory) = Err record {}
read_answer result = Ok (was_read result)

abbrev pub write_answer : Result Written WriteRefusal → Result Answer NoMemory
write_answer (Err write_no_memory) = Err record {}
write_answer result = Ok (was_written result)

abbrev pub resize_answer : Result ℕ ResizeRefusal → Result Answer NoMemory
resize_answer (Err resize_no_memory) = Err record {}
resize_answer result = Ok (was_resized result)

-- ---- how a call ends

-- it answered by its rule and added these entries, none or one: the desk stands for the history with them,
-- and the buffer gained the text of what they hand out
pub record Answered (h : History) (event : Event) (answer : Answer) (new : DeskState) (before after : List ℕ) : Type 0 where
  pub added : List Entry
  pub step : Step h event answer added
  pub stands : Stands new (added ++ h)
  pub appended : after ≡ before ++ texts (handed_out h event answer added)

-- memory ran short where nothing else stopped the call: it changed nothing
pub record RanShort (h : History) (event : Event) (old new : DeskState) (before after : List ℕ) : Type 0 where
  pub unstopped : stop_of h event ≡ None
  pub desk : new ≡ old
  pub buffer : after ≡ before

abbrev pub Ended : History → Event → Result Answer NoMemory → DeskState → DeskState → List ℕ → List ℕ → Type 0
Ended h event (Ok answer) old new before after = Answered h event answer new before after
Ended h event (Err refused) old new before after = RanShort h event old new before after

-- P holds where a read gave nothing
abbrev pub OnNothing : Result ReadAnswer ReadRefusal → Type 0 → Type 0
OnNothing (Ok (Frames count stamp closed)) P = Unit {0}
OnNothing (Ok (Fresh stamp closed)) P = Unit {0}
OnNothing result P = P

-- P holds where a read gave something
abbrev pub OnGiven : Result ReadAnswer ReadRefusal → Type 0 → Type 0
OnGiven (Ok (Frames count stamp closed)) P = P
OnGiven (Ok (Fresh stamp closed)) P = P
OnGiven result P = Unit {0}

-- ---- how a list of calls ends

-- these calls were made, and the buffer gained the text of what they hand out
pub record HasRun (h : History) (events : List Event) (answers : List Answer) (new : DeskState) (before after : List ℕ) : Type 0 where
  pub longer : History
  pub out : List Instr
  pub runs : Runs h events answers longer out
  pub stands : Stands new longer
  pub appended : after ≡ before ++ texts out

-- memory ran short at one of these calls, where nothing else stopped it: those before it were made, what they did
-- stands, and it did nothing
pub record StoppedShort (h : History) (events : List Event) (new : DeskState) (before after : List ℕ) : Type 0 where
  pub front : List Event
  pub event : Event
  pub others : List Event
  pub split : events ≡ front ++ event ∷ others
  pub answers : List Answer
  pub made : HasRun h front answers new before after
  pub unstopped : stop_of made.longer event ≡ None

-- all the calls were made; or memory ran short, for the answers before the first was made, or at one
abbrev pub RunEnds : History → List Event → Result (List Answer) NoMemory → DeskState → DeskState → List ℕ → List ℕ → Type 0
RunEnds h events (Ok answers) old new before after = HasRun h events answers new before after
RunEnds h events (Err refused) old new before after = ((new ≡ old) × (after ≡ before)) ⊎ StoppedShort h events new before after
