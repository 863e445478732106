-- What a pump did (this project's own).
use Rattle.std.specs.Prelude.{◌≡◌, ◌≤◌, true, false, List, [], ◌∷◌, ◌++◌, ℕ, length, Contains, Result, Ok, Err}
use Rattle.gate_model.specs.declared.cause.Cause.TheVariants as cause
use Rattle.gate_model.specs.declared.entry.Entry.{Entry}
use Rattle.gate_model.specs.declared.entry.Entry.TheVariants.{Feed, Close}
use Rattle.gate_model.specs.declared.instr.Instr.{Instr}
use Rattle.gate_model.specs.Limits.{most_piece}
use Rattle.gate_model.specs.session.History.{History, bytes, is_closed, is_full}
use Rattle.gate_model.specs.session.Steps.{Legal}
use Rattle.gate_model.specs.Sequences.{IsLater}
use Rattle.turn_lock.specs.declared.view.View.{View}
use Rattle.shared_desk.specs.Own.{own_entries}
use Rattle.session_link.specs.Closings.{MayClose}
use Rattle.session_link.specs.declared.ends.PumpEnd.{PumpEnd}
use Rattle.session_link.specs.declared.ends.PumpEnd.TheVariants.{LinkEnded, ReadFault, Closed, Worn, NoMemory}

-- entries that are all Feeds
abbrev pub AreFeeds : List Entry → Type 0
AreFeeds [] = Unit {0}
AreFeeds (Feed piece stamp frame ∷ es) = AreFeeds es
AreFeeds (e ∷ es) = ⊥

-- the bytes read that were not fed: those of one piece that was refused, at three ends alone
abbrev pub MayLose : PumpEnd → List ℕ → Type 0
MayLose LinkEnded lost = lost ≡ []
MayLose ReadFault lost = lost ≡ []
MayLose (Closed cause) lost = length lost ≤ most_piece
MayLose Worn lost = length lost ≤ most_piece
MayLose NoMemory lost = length lost ≤ most_piece

-- the Close that a pump may add as its last entry, by its end
abbrev pub MayEnd : PumpEnd → List Entry → Type 0
MayEnd LinkEnded closes = MayClose cause.ServerEnd closes
MayEnd ReadFault closes = MayClose cause.LinkFault closes
MayEnd Worn closes = MayClose cause.Worn closes
MayEnd (Closed cause) closes = closes ≡ []
MayEnd NoMemory closes = closes ≡ []

-- nothing but want of memory stops a feed
abbrev pub TakesFeeds : History → Type 0
TakesFeeds seen = (is_closed seen ≡ false) × (is_full seen ≡ false)

-- why a pump ended, by what its pass has seen then
abbrev pub PumpCause : PumpEnd → History → Type 0
PumpCause LinkEnded seen = is_closed seen ≡ true
PumpCause ReadFault seen = is_closed seen ≡ true
PumpCause (Closed cause) seen = Contains seen (Close cause)
PumpCause Worn seen = (is_full seen ≡ true) × (is_closed seen ≡ true)
PumpCause NoMemory seen = TakesFeeds seen

-- its pass, which knew v before and knows w now, gained Feeds and last a Close at most. The Feeds are, joined,
-- the bytes read, but for a last piece that was refused
pub record PumpRun (v w : View Entry) (read : List ℕ) (end : PumpEnd) : Type 0 where
  pub later : IsLater v.seen w.seen
  pub feeds : List Entry
  pub closes : List Entry
  pub fed : AreFeeds feeds
  pub last : MayEnd end closes
  pub own : own_entries w ≡ closes ++ (feeds ++ own_entries v)
  pub lost : List ℕ
  pub joined : read ≡ bytes feeds ++ lost
  pub loses : MayLose end lost
  pub cause : PumpCause end w.seen

-- ---- before its end

-- what was read so far was fed
pub record HasPumped (v w : View Entry) (read : List ℕ) : Type 0 where
  pub later : IsLater v.seen w.seen
  pub feeds : List Entry
  pub fed : AreFeeds feeds
  pub own : own_entries w ≡ feeds ++ own_entries v
  pub joined : read ≡ bytes feeds

-- why it stops, before the session is closed for that
abbrev pub StopCause : PumpEnd → History → Type 0
StopCause (Closed cause) seen = Contains seen (Close cause)
StopCause Worn seen = (is_full seen ≡ true) × Legal seen
StopCause LinkEnded seen = Unit {0}
StopCause ReadFault seen = Unit {0}
StopCause NoMemory seen = TakesFeeds seen

pub record HasStopped (v w : View Entry) (read : List ℕ) (end : PumpEnd) : Type 0 where
  pub later : IsLater v.seen w.seen
  pub feeds : List Entry
  pub fed : AreFeeds feeds
  pub own : own_entries w ≡ feeds ++ own_entries v
  pub lost : List ℕ
  pub joined : read ≡ bytes feeds ++ lost
  pub loses : MayLose end lost
  pub cause : StopCause end w.seen

-- one piece was fed, or refused
pub record IsFed (v w : View Entry) (piece : List ℕ) : Type 0 where
  pub later : IsLater v.seen w.seen
  pub stamp : ℕ
  pub frame : List Instr
  pub own : own_entries w ≡ Feed piece stamp frame ∷ own_entries v

pub record IsStopped (v w : View Entry) (lost : List ℕ) (end : PumpEnd) : Type 0 where
  pub later : IsLater v.seen w.seen
  pub own : own_entries w ≡ own_entries v
  pub loses : MayLose end lost
  pub cause : StopCause end w.seen

abbrev pub HasFed : View Entry → View Entry → List ℕ → Result (Unit {0}) PumpEnd → Type 0
HasFed v w piece (Ok done) = IsFed v w piece
HasFed v w piece (Err end) = IsStopped v w piece end

-- the ends with which the session refuses a piece
abbrev pub IsRefusal : PumpEnd → Type 0
IsRefusal (Closed cause) = Unit {0}
IsRefusal Worn = Unit {0}
IsRefusal NoMemory = Unit {0}
IsRefusal LinkEnded = ⊥
IsRefusal ReadFault = ⊥
