-- Where a run stands, and how each of its calls ends. What the sinks held when the run began comes first,
-- and then what they hold.
use Rattle.std.specs.Prelude.{◌≡◌, ℕ, ◌+◌, ◌*◌, ◌≤◌, Bool, List, [], ◌∷◌, ◌++◌, length, take, reverse, true, false, Result, Ok, Err, Option, Some, None, ◌⊎◌}
use Rattle.std.specs.List.{list_any}
use Rattle.std.specs.Option.{is_some}
use Rattle.gate_model.specs.Sequences.{IsLater, BeginsWith}
use Rattle.gate_model.specs.text.Reading.{read as read_stream}
use Rattle.gate_outside.specs.Edge.{AtEnd, came, gained, GainedFront}
use Rattle.script_grammar.specs.declared.text_form.TextForm.{TextForm}
use Rattle.script_grammar.specs.declared.text_form.TextForm.TheVariants.{Draw, Script}
use Rattle.script_grammar.specs.declared.line.Line.{Line}
use Rattle.script_grammar.specs.declared.line.Line.TheVariants.{Start, Server, Join, Read, Acknowledge}
use Rattle.script_grammar.specs.declared.order.Order.{Order}
use Rattle.script_grammar.specs.Words.{IsTextForm}
use Rattle.script_grammar.specs.Pieces.{first_piece}
use Rattle.script_grammar.specs.Lines.{line_in, told_by}
use Rattle.script_grammar.specs.Grammar.{most_script, total, starts, lines_of, most_of, whole_lines, all_lines}
use Rattle.gate_script.specs.declared.halt.Halt.{Halt}
use Rattle.gate_script.specs.declared.halt.Halt.TheVariants.{NoMemory as no_memory, OutsideGrammar, Worn as is_worn}
use Rattle.gate_script.specs.declared.refused.Refused.{Refused as Refusal}
use Rattle.gate_script.specs.declared.refused.Refused.TheVariants.{BadLine, Worn}
use Rattle.gate_script.specs.declared.reply.Reply.{Reply}
use Rattle.gate_script.specs.declared.stop.Stop.{Stop}
use Rattle.gate_script.specs.declared.stop.Stop.TheVariants.{ReadFault, WriteFault, NoMemory, Refused}
use Rattle.gate_script.specs.declared.session.Session.{Session}
use Rattle.gate_script.specs.declared.sight.Sight.{Sight}
use Rattle.gate_script.specs.declared.sight.Sight.TheVariants.{Played, Unplayed}
use Rattle.gate_script.specs.declared.state.State.{State}
use Rattle.gate_script.specs.declared.run.Run.{Run}
use Rattle.gate_script.specs.Plays.{Play, Does, Plays, IsLawful, Tells}
use Rattle.gate_script.specs.Outcomes.{EndsInNewest, IsRefused, last_line}
use Rattle.gate_script.specs.Calls.{play, IsAt, Appends, Halts, IsOpenDesk}
use Rattle.gate_script.specs.Sinks.{Sinks, Gains, HaveFailed}

-- ---- in memory

-- the lines of `draw` never ask what viewers see
abbrev pub sight_of : TextForm → Sight
sight_of (Draw size) = Unplayed
sight_of (Script entries) = Played

-- the session stands for the play's history, if it has started, at the play's moment
abbrev pub StandsAt : Sight → Play → ℕ → Option Session → Type 0
StandsAt sight p now None = p ≡ play now []
StandsAt sight p now (Some session) = (p.now ≡ now) × IsAt sight session p.history

-- a line was done, and what it tells was appended
pub record LineIsDone (sight : Sight) (line : Line) (p : Play) (s : State) (old new : Reply) : Type 0 where
  pub after : Play
  pub answer : List ℕ
  pub framing : List ℕ
  pub does : Does line p after answer framing
  pub stands : StandsAt sight after s.moment s.session
  pub appends : Appends old new answer framing

abbrev pub LineEnds : Sight → Line → Play → Result (Unit {0}) Halt → State → Reply → Reply → Type 0
LineEnds sight line p (Ok done) s old new = LineIsDone sight line p s old new
LineEnds sight line p (Err halt) s old new = Halts line p halt

-- an order was done, and the reply is what it tells
pub record OrderDone (sight : Sight) (order : Order) (p : Play) (s : State) : Type 0 where
  pub after : Play
  pub answer : List ℕ
  pub framing : List ℕ
  pub does : Does (line_in order) p after answer framing
  pub stands : StandsAt sight after s.moment s.session
  pub answer_is : s.reply.answer.items ≡ told_by order answer
  pub frame_is : s.reply.frame.items ≡ framing

abbrev pub OrderEnds : Sight → Order → Play → Result (Unit {0}) Halt → State → Type 0
OrderEnds sight order p (Ok done) s = OrderDone sight order p s
OrderEnds sight order p (Err halt) s = Halts (line_in order) p halt

-- the session has started, and is open
abbrev pub IsOpen : Option Session → Type 0
IsOpen None = ⊥
IsOpen (Some session) = IsOpenDesk session.desk

abbrev pub entries_in : Option Session → ℕ
entries_in None = 0
entries_in (Some session) = session.desk.entries

-- an open session stays open, and has at least so many entries more
abbrev pub KeepsOpen : ℕ → Option Session → Option Session → Type 0
KeepsOpen more old new = IsOpen old → IsOpen new × (entries_in old + more ≤ entries_in new)

-- the lines of `draw` leave a session open, and each feed adds an entry
abbrev pub LeavesOpen : Line → Option Session → Option Session → Type 0
LeavesOpen (Start size mode entries) old new = IsOpen new
LeavesOpen (Server bytes) old new = KeepsOpen 1 old new
LeavesOpen (Join asked) old new = KeepsOpen 0 old new
LeavesOpen (Read viewer) old new = KeepsOpen 0 old new
LeavesOpen (Acknowledge viewer) old new = KeepsOpen 0 old new
LeavesOpen line old new = Unit {0}

-- ---- with the sinks

-- the orders were done, and the sinks gained all that they tell
pub record Told (orders : List Order) (p : Play) (began now : Sinks) : Type 0 where
  pub answers : List ℕ
  pub framings : List ℕ
  pub bytes : List ℕ
  pub plays : Plays orders p answers framings bytes
  pub gains : Gains began now answers framings

-- besides, the run stands there, and the history is legal, true and whole
pub record At (sight : Sight) (orders : List Order) (r : Run) (began now : Sinks) : Type 0 where
  pub play : Play
  pub told : Told orders play began now
  pub lawful : IsLawful play.history
  pub stands : StandsAt sight play r.state.moment r.state.session
  pub opened : list_any starts orders ≡ is_some r.state.session
  pub count : r.lines ≡ length orders

-- the order was done after this play, and the run stands behind it
pub record Goes (sight : Sight) (order : Order) (orders : List Order) (p : Play) (r : Run) (began now : Sinks) : Type 0 where
  pub next : At sight (order ∷ orders) r began now
  pub answer : List ℕ
  pub framing : List ℕ
  pub does : Does (line_in order) p next.play answer framing

-- every order was done, and the history is legal, true and whole
pub record AllDone (orders : List Order) (began now : Sinks) : Type 0 where
  pub play : Play
  pub told : Told orders play began now
  pub lawful : IsLawful play.history

-- some first orders were done
pub record SomeDone (all : List Order) (began now : Sinks) : Type 0 where
  pub orders : List Order
  pub first : IsLater orders all
  pub done : AllDone orders began now

-- a sink failed in the newest of some first orders
pub record ShortOf (all : List Order) (began now : Sinks) : Type 0 where
  pub orders : List Order
  pub play : Play
  pub answers : List ℕ
  pub framings : List ℕ
  pub own_a : List ℕ
  pub own_f : List ℕ
  pub first : IsLater orders all
  pub tells : Tells orders play answers framings
  pub answers_begin : BeginsWith answers own_a
  pub framings_begin : BeginsWith framings own_f
  pub newest : EndsInNewest orders play own_a own_f
  pub gains : Gains began now own_a own_f
  pub failed : HaveFailed began now

-- the next order was refused, after all was told of those before it
pub record RefusedOf (all : List Order) (refused : Refusal) (began now : Sinks) : Type 0 where
  pub orders : List Order
  pub next : Order
  pub first : IsLater (next ∷ orders) all
  pub done : AllDone orders began now
  pub is_refused : IsRefused refused next orders done.play

-- why a call stopped before all the orders were done
abbrev pub StoppedIn : List Order → Stop → Sinks → Sinks → Type 0
StoppedIn all ReadFault began now = ⊥
StoppedIn all WriteFault began now = ShortOf all began now
StoppedIn all NoMemory began now = SomeDone all began now
StoppedIn all (Refused refused) began now = RefusedOf all refused began now

-- the stop of a run that was halted at the line with this number
abbrev pub stop_of : Halt → ℕ → Stop
stop_of no_memory number = NoMemory
stop_of OutsideGrammar number = Refused (BadLine number)
stop_of (is_worn entries) number = Refused (Worn entries)

-- all the orders were done, or the call stopped in them
abbrev pub Ends : Sight → List Order → Result (Unit {0}) Stop → Run → Sinks → Sinks → Type 0
Ends sight all (Ok done) r began now = At sight all r began now
Ends sight all (Err stop) r began now = StoppedIn all stop began now

-- ---- the pieces of the input

-- the run has done the orders of these pieces, the newest first
pub record HasDone (form : TextForm) (pieces : List (List ℕ)) (r : Run) (began now : Sinks) : Type 0 where
  pub at : At (sight_of form) (lines_of form pieces) r began now
  pub read : r.read ≡ total pieces

-- `draw` has started, and what a run keeps is small, so that its numbers fit and its input ends
abbrev pub IsReadyFor : TextForm → Option Session → ℕ → Type 0
IsReadyFor (Draw size) session read = IsOpen session × (read ≤ 65536 * entries_in session)
IsReadyFor (Script entries) session read = IsTextForm (Script entries) × (read ≤ most_script)

pub record IsReady (r : Run) : Type 0 where
  pub few : r.lines ≤ 3 * r.read + 2
  pub form : IsReadyFor r.form r.state.session r.read

-- how a call ends that did one more piece
abbrev pub PieceEnds : TextForm → List (List ℕ) → Result (Unit {0}) Stop → Run → Sinks → Sinks → Type 0
PieceEnds form pieces (Ok done) r began now = HasDone form pieces r began now
PieceEnds form pieces (Err stop) r began now = StoppedIn (lines_of form pieces) stop began now

-- the bytes so far are some pieces, the newest first, and the piece that has begun; the run has done
-- the pieces
pub record HasCut (form : TextForm) (bytes piece : List ℕ) (r : Run) (began now : Sinks) : Type 0 where
  pub pieces : List (List ℕ)
  pub cut : read_stream (first_piece (most_of form)) bytes ≡ (reverse pieces, piece)
  pub begun : first_piece (most_of form) piece ≡ None
  pub has_done : HasDone form pieces r began now

-- how a call ends that took a part of the bytes at hand, after the bytes `before`
abbrev pub PartEnds : TextForm → List ℕ → List ℕ → Result ℕ Stop → List ℕ → Run → Sinks → Sinks → Type 0
PartEnds form before bytes (Ok n) piece r began now = HasCut form (before ++ take n bytes) piece r began now
PartEnds form before bytes (Err stop) piece r began now = StoppedIn (whole_lines form (before ++ bytes)) stop began now

-- how a call ends that took all the bytes
abbrev pub BytesEnd : TextForm → List ℕ → Result (Unit {0}) Stop → List ℕ → Run → Sinks → Sinks → Type 0
BytesEnd form bytes (Ok done) piece r began now = HasCut form bytes piece r began now
BytesEnd form bytes (Err stop) piece r began now = StoppedIn (whole_lines form bytes) stop began now

-- how the last order ends
abbrev pub LastEnds : List Order → Result (Unit {0}) Stop → Sinks → Sinks → Type 0
LastEnds orders (Ok done) began now = AllDone orders began now
LastEnds orders (Err stop) began now = StoppedIn orders stop began now

-- how a run ends, where `Fault` says that the source failed
abbrev pub RunEnds : TextForm → List ℕ → Option (List ℕ) → Type 0 → Result (Unit {0}) Stop → Sinks → Sinks → Type 0
RunEnds form bytes left Fault (Ok done) began now = AtEnd left × AllDone (all_lines form bytes) began now
RunEnds form bytes left Fault (Err ReadFault) began now = Fault × AllDone (whole_lines form bytes) began now
RunEnds form bytes left Fault (Err stop) began now = StoppedIn (whole_lines form bytes) stop began now ⊎ (AtEnd left × StoppedIn (all_lines form bytes) stop began now)

-- where no bytes came, the source is at its end
abbrev pub AtEndUnless : Bool → Option (List ℕ) → Type 0
AtEndUnless true left = Unit {0}
AtEndUnless false left = AtEnd left

-- how a call ends that read once
abbrev pub StepEnds : TextForm → List ℕ → Option (List ℕ) → Type 0 → Result Bool Stop → List ℕ → Run → Sinks → Sinks → Type 0
StepEnds form bytes left Fault (Ok some) piece r began now = AtEndUnless some left × HasCut form bytes piece r began now
StepEnds form bytes left Fault (Err stop) piece r began now = RunEnds form bytes left Fault (Err stop) began now

-- these bytes were read so far
pub record HasRead (left0 left : Option (List ℕ)) (P : List ℕ → Type 0) : Type 0 where
  pub bytes : List ℕ
  pub came_is : left0 ≡ came bytes left
  pub holds : P bytes

-- the status, where the last answer could be written
abbrev pub status_after : Result (Unit {0}) Stop → ℕ → ℕ
status_after (Ok done) status = status
status_after (Err WriteFault) status = 5
status_after (Err stop) status = 6

abbrev pub refused_status : Refusal → ℕ
refused_status (BadLine number) = 3
refused_status (Worn entries) = 7

-- one line was written to a sink, or a front of it, or for want of memory nothing
abbrev pub Put : Result (Unit {0}) Stop → List ℕ → Option (List ℕ) → Option (List ℕ) → Type 0
Put (Ok done) text old new = new ≡ gained old text
Put (Err WriteFault) text old new = GainedFront old new text
Put (Err NoMemory) text old new = new ≡ old
Put (Err stop) text old new = ⊥

-- a fault has its cause: the count of the sink rose
abbrev pub HasCause : Stop → Type 0 → Type 0
HasCause WriteFault sink = sink
HasCause stop sink = Unit {0}

-- the last answer was written and the status is its own; or its sink failed, or no memory was found
abbrev pub LastSaid : Refusal → ℕ → Type 0 → Option (List ℕ) → Option (List ℕ) → Type 0
LastSaid refused status Fault old new = ((status ≡ refused_status refused) × (new ≡ gained old (last_line refused))) ⊎ (((status ≡ 5) × Fault × GainedFront old new (last_line refused)) ⊎ ((status ≡ 6) × (new ≡ old)))

-- the status that a run ends with, and what its last answer wrote
abbrev pub Ended : Result (Unit {0}) Stop → ℕ → Type 0 → Option (List ℕ) → Option (List ℕ) → Type 0
Ended (Ok done) status Fault old new = (status ≡ 0) × (new ≡ old)
Ended (Err ReadFault) status Fault old new = (status ≡ 4) × (new ≡ old)
Ended (Err WriteFault) status Fault old new = (status ≡ 5) × (new ≡ old)
Ended (Err NoMemory) status Fault old new = (status ≡ 6) × (new ≡ old)
Ended (Err (Refused refused)) status Fault old new = LastSaid refused status Fault old new
