-- What a read of a tunnel did (this project's own).
use Rattle.std.specs.Prelude.{◌≡◌, ◌⊎◌, ◌≤◌, ℕ, true, false, if◌then◌else◌, List, [], ◌∷◌, ◌++◌, length, Option, Some, None, Result, Ok, Err, codes}
use Rattle.gate_model.specs.declared.answer.Answer.TheVariants.{Read as was_read}
use Rattle.gate_model.specs.declared.entry.Entry.{Entry}
use Rattle.gate_model.specs.declared.entry.Entry.TheVariants.{Read}
use Rattle.gate_model.specs.declared.event.Event.TheVariants.{Read as read}
use Rattle.gate_model.specs.declared.how.How.{How}
use Rattle.gate_model.specs.declared.instr.Instr.{Instr}
use Rattle.gate_model.specs.declared.read_answer.ReadAnswer.{ReadAnswer}
use Rattle.gate_model.specs.declared.read_answer.ReadAnswer.TheVariants.{Frames, Fresh, Ended as read_ended, Empty, Hold}
use Rattle.gate_model.specs.declared.read_refusal.ReadRefusal.{ReadRefusal}
use Rattle.gate_model.specs.declared.read_refusal.ReadRefusal.TheVariants.{NoViewer as read_no_viewer, Worn as read_worn, NoMemory as read_no_memory}
use Rattle.gate_model.specs.session.Calls.{stop_of}
use Rattle.gate_model.specs.session.Delivered.{delivered, ended}
use Rattle.gate_model.specs.session.History.{History}
use Rattle.gate_model.specs.text.Text.{texts}
use Rattle.gate_model.specs.Sequences.{IsLater}
use Rattle.turn_lock.specs.declared.view.View.{View}
use Rattle.shared_desk.specs.Members.{IsSound}
use Rattle.shared_desk.specs.Own.{own_entries}
use Rattle.http_tunnel.specs.declared.reading.TunnelEnd.{TunnelEnd}
use Rattle.http_tunnel.specs.declared.reading.TunnelEnd.TheVariants.{Open, Ended}
use Rattle.http_tunnel.specs.declared.reading.TunnelRefusal.{TunnelRefusal}
use Rattle.http_tunnel.specs.declared.reading.TunnelRefusal.TheVariants.{NoViewer, Worn, NoMemory}

-- a read of the viewer after these entries gives nothing, and its viewer isn't at its end
abbrev pub IsIdle : History → ℕ → Type 0
IsIdle seen viewer = (stop_of seen (read viewer) ≡ Some (was_read (Ok Empty))) ⊎ ((waiting : ℕ) × (stop_of seen (read viewer) ≡ Some (was_read (Ok (Hold waiting)))))

-- none or one Read of the viewer
abbrev pub IsOneRead : ℕ → List Entry → Type 0
IsOneRead viewer reads = (reads ≡ []) ⊎ ((how : How) × (reads ≡ Read viewer how ∷ []))

-- why it ended so, by what its pass has seen and what was delivered
abbrev pub EndCause : TunnelEnd → ℕ → History → List Instr → Type 0
EndCause Ended viewer seen more = ended seen viewer ≡ true
EndCause Open viewer seen more = (ended seen viewer ≡ false) × (more ≡ [] → IsIdle seen viewer)

-- where memory was wanting: in the turn of a read that nothing else stopped, which gave nothing; or in the buffer for the
-- mark, behind what a read gave that ended so
abbrev pub IsWanting : ℕ → History → List Instr → Type 0
IsWanting viewer seen more = ((texts more ≡ []) × (stop_of seen (read viewer) ≡ None)) ⊎ ((end : TunnelEnd) × EndCause end viewer seen more)

-- .. or was refused
abbrev pub TunnelCause : Result TunnelEnd TunnelRefusal → ℕ → History → List Instr → Type 0
TunnelCause (Ok end) viewer seen more = EndCause end viewer seen more
TunnelCause (Err NoViewer) viewer seen more = stop_of seen (read viewer) ≡ Some (was_read (Err read_no_viewer))
TunnelCause (Err (Worn entries)) viewer seen more = stop_of seen (read viewer) ≡ Some (was_read (Err (read_worn entries)))
TunnelCause (Err NoMemory) viewer seen more = IsWanting viewer seen more

-- what stands behind the text: the mark of the end where nothing is refused
abbrev pub mark_of : Result TunnelEnd TunnelRefusal → List ℕ
mark_of (Ok end) = codes "0.;"
mark_of (Err refused) = []

-- refused for another cause than want of memory, a read added no entry and gave nothing
abbrev pub GivesNothing : Result TunnelEnd TunnelRefusal → List Entry → List ℕ → Type 0
GivesNothing (Ok end) reads text = Unit {0}
GivesNothing (Err NoViewer) reads text = (reads ≡ []) × (text ≡ [])
GivesNothing (Err (Worn entries)) reads text = (reads ≡ []) × (text ≡ [])
GivesNothing (Err NoMemory) reads text = Unit {0}

-- its pass, which knew v before and knows w now, gained none or one Read, after all that it had known, and this is
-- the text of what the viewer was given more. What it has seen is sound, so what it was given draws the screen
pub record HasRead (viewer : ℕ) (v w : View Entry) (text : List ℕ) (result : Result TunnelEnd TunnelRefusal) : Type 0 where
  pub later : IsLater v.seen w.seen
  pub known : v.known ≤ length w.seen
  pub reads : List Entry
  pub few : IsOneRead viewer reads
  pub own : own_entries w ≡ reads ++ own_entries v
  pub more : List Instr
  pub given : delivered w.seen viewer ≡ delivered v.seen viewer ++ more
  pub wrote : text ≡ texts more
  pub cause : TunnelCause result viewer w.seen more
  pub refused : GivesNothing result reads text
  pub sound : IsSound w.seen

-- ---- one look

abbrev pub end_of : ReadAnswer → Option TunnelEnd
end_of (Frames count stamp closed) = Some (if closed then Ended else Open)
end_of (Fresh stamp closed) = Some (if closed then Ended else Open)
end_of read_ended = Some Ended
end_of Empty = None
end_of (Hold waiting) = None

abbrev pub refusal_of : ReadRefusal → TunnelRefusal
refusal_of read_no_viewer = NoViewer
refusal_of (read_worn entries) = Worn entries
refusal_of read_no_memory = NoMemory

-- .. None where nothing was there
abbrev pub look_of : Result ReadAnswer ReadRefusal → Result (Option TunnelEnd) TunnelRefusal
look_of (Ok answer) = Ok (end_of answer)
look_of (Err refused) = Err (refusal_of refused)

abbrev pub LookCause : Result (Option TunnelEnd) TunnelRefusal → ℕ → History → List Instr → List Entry → Type 0
LookCause (Ok None) viewer seen more reads = (reads ≡ []) × (ended seen viewer ≡ false) × IsIdle seen viewer
LookCause (Ok (Some end)) viewer seen more reads = TunnelCause (Ok end) viewer seen more
LookCause (Err refused) viewer seen more reads = TunnelCause (Err refused) viewer seen more

abbrev pub LooksNothing : Result (Option TunnelEnd) TunnelRefusal → List Entry → List ℕ → Type 0
LooksNothing (Ok None) reads text = (reads ≡ []) × (text ≡ [])
LooksNothing (Ok (Some end)) reads text = Unit {0}
LooksNothing (Err refused) reads text = GivesNothing (Err refused) reads text

pub record HasLooked (viewer : ℕ) (v w : View Entry) (text : List ℕ) (result : Result (Option TunnelEnd) TunnelRefusal) : Type 0 where
  pub later : IsLater v.seen w.seen
  pub known : v.known ≤ length w.seen
  pub same_known : w.known ≡ v.known
  pub reads : List Entry
  pub few : IsOneRead viewer reads
  pub own : own_entries w ≡ reads ++ own_entries v
  pub more : List Instr
  pub given : delivered w.seen viewer ≡ delivered v.seen viewer ++ more
  pub wrote : text ≡ texts more
  pub cause : LookCause result viewer w.seen more reads
  pub nothing : LooksNothing result reads text
  pub sound : IsSound w.seen

-- .. how a read ends whose first look found nothing
abbrev pub second : Result (Option TunnelEnd) TunnelRefusal → Result TunnelEnd TunnelRefusal
second (Ok None) = Ok Open
second (Ok (Some end)) = Ok end
second (Err refused) = Err refused
