-- What a sender did (this project's own).
use Rattle.std.specs.Prelude.{◌≡◌, ◌⊎◌, ◌+◌, Bool, true, List, [], ◌∷◌, ◌++◌, ℕ, length, take, drop, Result, Ok, Err}
use Rattle.gate_model.specs.declared.cause.Cause.TheVariants as cause
use Rattle.gate_model.specs.declared.entry.Entry.{Entry}
use Rattle.gate_model.specs.declared.entry.Entry.TheVariants.{Take}
use Rattle.gate_model.specs.session.History.{History, is_closed}
use Rattle.gate_model.specs.session.Output.{out, taken, untaken}
use Rattle.gate_model.specs.Sequences.{BeginsWith, IsLater}
use Rattle.turn_lock.specs.declared.view.View.{View}
use Rattle.shared_desk.specs.Own.{own_entries}
use Rattle.session_link.specs.Closings.{HasClosed, MayClose}
use Rattle.session_link.specs.declared.ends.SenderEnd.{SenderEnd}
use Rattle.session_link.specs.declared.ends.SenderEnd.TheVariants.{Ended, WriteFault}

-- entries that are all Takes
abbrev pub AreTakes : List Entry → Type 0
AreTakes [] = Unit {0}
AreTakes (Take count ∷ es) = AreTakes es
AreTakes (e ∷ es) = ⊥

-- Takes hand out the bytes of what the session sends that follow those that were taken before
pub record HandsOut (v w : View Entry) (takes : List Entry) (handed : List ℕ) : Type 0 where
  pub are_takes : AreTakes takes
  pub count : taken takes ≡ length handed
  pub next : handed ≡ take (length handed) (drop (taken v.seen) (out w.seen))
  pub total : taken w.seen ≡ taken v.seen + length handed

-- what was written of what was handed out: all of it, or at a fault of the sink a front
abbrev pub HasWritten : SenderEnd → List ℕ → List ℕ → Type 0
HasWritten Ended handed written = written ≡ handed
HasWritten WriteFault handed written = BeginsWith handed written

-- the Close that a sender may add as its last entry
abbrev pub MayEnd : SenderEnd → List Entry → Type 0
MayEnd Ended closes = closes ≡ []
MayEnd WriteFault closes = MayClose cause.LinkFault closes

-- the session is closed; and at its end nothing waits for the host
abbrev pub SenderCause : SenderEnd → History → Type 0
SenderCause Ended seen = (is_closed seen ≡ true) × (untaken seen ≡ [])
SenderCause WriteFault seen = is_closed seen ≡ true

-- its pass, which knew v before and knows w now, gained Takes and last a Close at most, and what they handed out
-- was written
pub record SenderRun (v w : View Entry) (written : List ℕ) (end : SenderEnd) : Type 0 where
  pub later : IsLater v.seen w.seen
  pub takes : List Entry
  pub closes : List Entry
  pub last : MayEnd end closes
  pub own : own_entries w ≡ closes ++ (takes ++ own_entries v)
  pub handed : List ℕ
  pub hands : HandsOut v w takes handed
  pub wrote : HasWritten end handed written
  pub cause : SenderCause end w.seen

-- ---- before its end

-- what was handed out so far was written
pub record HasSentAll (v w : View Entry) (written : List ℕ) : Type 0 where
  pub later : IsLater v.seen w.seen
  pub takes : List Entry
  pub own : own_entries w ≡ takes ++ own_entries v
  pub sent : BeginsWith (out w.seen) (out v.seen)
  pub hands : HandsOut v w takes written

abbrev pub HaltCause : SenderEnd → History → Type 0
HaltCause Ended seen = (is_closed seen ≡ true) × (untaken seen ≡ [])
HaltCause WriteFault seen = Unit {0}

pub record HasHalted (v w : View Entry) (written : List ℕ) (end : SenderEnd) : Type 0 where
  pub later : IsLater v.seen w.seen
  pub takes : List Entry
  pub own : own_entries w ≡ takes ++ own_entries v
  pub sent : BeginsWith (out w.seen) (out v.seen)
  pub handed : List ℕ
  pub hands : HandsOut v w takes handed
  pub wrote : HasWritten end handed written
  pub cause : HaltCause end w.seen

-- after one take
abbrev pub HasSent : View Entry → View Entry → List ℕ → Result Bool SenderEnd → Type 0
HasSent v w written (Ok more) = HasSentAll v w written
HasSent v w written (Err end) = HasHalted v w written end

-- the session is closed after a fault, which changes nothing of what was taken
pub record HasClosedSending (v w : View Entry) : Type 0 where
  pub closed : HasClosed cause.LinkFault v w
  pub same : taken w.seen ≡ taken v.seen
  pub sent : BeginsWith (out w.seen) (out v.seen)

abbrev pub HasShut : SenderEnd → View Entry → View Entry → Type 0
HasShut Ended v w = w ≡ v
HasShut WriteFault v w = HasClosedSending v w
