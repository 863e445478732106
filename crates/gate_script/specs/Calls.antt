-- What each call of a session does, in memory: the line is done, and what it tells is appended to a reply.
use Rattle.std.specs.Prelude.{◌≡◌, ℕ, ◌+◌, ◌≤◌, List, [], ◌++◌, ◌⊎◌, Result, Ok, Err, Some, None}
use Rattle.gate_model.specs.Limits.{most_entries}
use Rattle.gate_model.specs.declared.act.Act.{Act}
use Rattle.gate_model.specs.declared.answer.Answer.{Answer}
use Rattle.gate_model.specs.declared.answer.Answer.TheVariants.{Write as was_written}
use Rattle.gate_model.specs.declared.event.Event.TheVariants.{Write as write_acts}
use Rattle.gate_model.specs.declared.read_answer.ReadAnswer.{ReadAnswer}
use Rattle.gate_model.specs.declared.read_answer.ReadAnswer.TheVariants.{Frames, Fresh}
use Rattle.gate_model.specs.declared.write_refusal.WriteRefusal.TheVariants.{Worn as write_worn}
use Rattle.gate_model.specs.session.Calls.{Step}
use Rattle.gate_model.specs.session.History.{History}
use Rattle.desk_core.specs.Desk.{DeskState, IsKept, Stands}
use Rattle.script_grammar.specs.declared.line.Line.{Line}
use Rattle.script_grammar.specs.declared.line.Line.TheVariants.{Blank, Bad, At, Start, Server, Join, Read, Pixel, Same, Acknowledge, Totals}
use Rattle.gate_script.specs.declared.halt.Halt.{Halt}
use Rattle.gate_script.specs.declared.halt.Halt.TheVariants.{NoMemory, OutsideGrammar, Worn}
use Rattle.gate_script.specs.declared.reply.Reply.{Reply}
use Rattle.gate_script.specs.declared.session.Session.{Session}
use Rattle.gate_script.specs.declared.sight.Sight.{Sight}
use Rattle.gate_script.specs.declared.sight.Sight.TheVariants.{Played, Unplayed}
use Rattle.gate_script.specs.Told.{frames_line, worn_by}
use Rattle.gate_script.specs.Plays.{Play, Does, Writes}
use Rattle.gate_script.specs.Outcomes.{Answered, IsTooLong}
use Rattle.gate_script.specs.Seeing.{AreSeen}

-- an answer and lines of the frames were appended
pub record Appends (old new : Reply) (answer framing : List ℕ) : Type 0 where
  pub answered : new.answer.items ≡ old.answer.items ++ answer
  pub framed : new.frame.items ≡ old.frame.items ++ framing

-- they were appended, or no memory was found
abbrev pub Adds : Result (Unit {0}) Halt → Reply → Reply → List ℕ → List ℕ → Type 0
Adds (Ok done) old new answer framing = Appends old new answer framing
Adds (Err NoMemory) old new answer framing = Unit {0}
Adds (Err halt) old new answer framing = ⊥

-- the line of the frames of a read, where the viewer was given this text
abbrev pub read_shown : ℕ → List ℕ → ReadAnswer → List ℕ
read_shown viewer text (Frames count stamp closed) = frames_line viewer text
read_shown viewer text (Fresh stamp closed) = frames_line viewer text
read_shown viewer text answer = []

-- the session stands for the history: its desk does, and its canvases show it where what viewers see is played
pub record IsAt (sight : Sight) (s : Session) (h : History) : Type 0 where
  pub stands : Stands s.desk h
  pub shown : AreSeen sight s.canvases.items h

abbrev pub play : ℕ → History → Play
play now h = record { now = now; history = h }

-- the line was done by the session, which told it
pub record LineDone (sight : Sight) (line : Line) (p : Play) (s : Session) (old new : Reply) : Type 0 where
  pub history : History
  pub answer : List ℕ
  pub framing : List ℕ
  pub does : Does line p (play p.now history) answer framing
  pub at : IsAt sight s history
  pub appends : Appends old new answer framing

-- why the line wasn't done: want of memory, it is outside the grammar, or the session is full
abbrev pub Halts : Line → Play → Halt → Type 0
Halts line p NoMemory = Unit {0}
Halts line p OutsideGrammar = (line ≡ Bad) ⊎ IsTooLong line
Halts line p (Worn entries) = (result : Answer) × Answered line p result × (worn_by result ≡ Some entries)

-- how a session's call ends
abbrev pub CallEnds : Sight → Line → Play → Result (Unit {0}) Halt → Session → Reply → Reply → Type 0
CallEnds sight line p (Ok done) s old new = LineDone sight line p s old new
CallEnds sight line p (Err halt) s old new = Halts line p halt

-- how the opening of a session ends
abbrev pub StartEnds : Sight → Line → Play → Result Session Halt → Reply → Reply → Type 0
StartEnds sight line p (Ok s) old new = LineDone sight line p s old new
StartEnds sight line p (Err halt) old new = Halts line p halt

-- acts were written, or refused
pub record ActsDone (sight : Sight) (viewer : ℕ) (acts : List Act) (passed : ℕ) (p : Play) (s : Session) (old new : Reply) : Type 0 where
  pub history : History
  pub answer : List ℕ
  pub framing : List ℕ
  pub writes : Writes viewer acts passed p (play p.now history) answer framing
  pub at : IsAt sight s history
  pub appends : Appends old new answer framing

-- how a write of acts ends
abbrev pub WriteEnds : Sight → ℕ → List Act → ℕ → Play → Result (Unit {0}) Halt → Session → Reply → Reply → Type 0
WriteEnds sight viewer acts passed p (Ok done) s old new = ActsDone sight viewer acts passed p s old new
WriteEnds sight viewer acts passed p (Err NoMemory) s old new = Unit {0}
WriteEnds sight viewer acts passed p (Err OutsideGrammar) s old new = ⊥
WriteEnds sight viewer acts passed p (Err (Worn entries)) s old new = Step p.history (write_acts viewer acts) (was_written (Err (write_worn entries))) []

-- a line that a session does
abbrev pub IsCall : Line → Type 0
IsCall Blank = ⊥
IsCall Bad = ⊥
IsCall (At now) = ⊥
IsCall (Start size mode entries) = ⊥
IsCall line = Unit {0}

-- a line that asks what viewers see is done where it is played
abbrev pub MaySee : Sight → Line → Type 0
MaySee Played line = Unit {0}
MaySee Unplayed (Pixel viewer x y) = ⊥
MaySee Unplayed (Same one other) = ⊥
MaySee Unplayed (Totals totals) = ⊥
MaySee Unplayed line = Unit {0}

-- a desk whose session is open, with no more entries than a session may have
pub record IsOpenDesk (d : DeskState) : Type 0 where
  pub kept : IsKept d
  pub not_closed : d.cause ≡ None
  pub few : d.entries ≤ most_entries

-- a session that is open stays open, and has at least so many entries more
abbrev pub StaysOpen : ℕ → DeskState → DeskState → Type 0
StaysOpen more d n = IsOpenDesk d → IsOpenDesk n × (d.entries + more ≤ n.entries)

-- the lines of `draw` leave a session open, and each feed adds an entry
abbrev pub LeavesOpen : Line → DeskState → DeskState → Type 0
LeavesOpen (Server bytes) d n = StaysOpen 1 d n
LeavesOpen (Join asked) d n = StaysOpen 0 d n
LeavesOpen (Read viewer) d n = StaysOpen 0 d n
LeavesOpen (Acknowledge viewer) d n = StaysOpen 0 d n
LeavesOpen line d n = Unit {0}
