-- What the calls of the service's door leave of the table (this project's own).
use Rattle.std.specs.Prelude.{◌≡◌, ◌≢◌, ℕ, true, false, List, Option, Some, None, Result, Ok, Err}
use Rattle.gate_model.specs.Sequences.{IsLater}
use Rattle.gate_model.specs.session.History.{is_closed}
use Rattle.gate_model.specs.session.Rights.{is_live}
use Rattle.gate_model.specs.declared.answer.Answer.TheVariants.{Close as closed, Leave as left}
use Rattle.gate_model.specs.declared.cause.Cause.{Cause}
use Rattle.gate_model.specs.declared.cause.Cause.TheVariants.{Stopped}
use Rattle.gate_model.specs.declared.closed.Closed.{Closed}
use Rattle.gate_model.specs.declared.entry.Entry.{Entry}
use Rattle.gate_model.specs.declared.event.Event.TheVariants.{Close, Leave}
use Rattle.gate_model.specs.declared.no_viewer.NoViewer.{NoViewer}
use Rattle.gate_model.specs.declared.sharing.Asked.{Asked}
use Rattle.guac_handshake.specs.declared.refused.Refused.{Refused}
use Rattle.guac_handshake.specs.declared.welcome.Welcome.{Welcome}
use Rattle.id_table.specs.Maps.{Shelved}
use Rattle.shared_desk.specs.Called.{Called}
use Rattle.shared_desk.specs.declared.place.Place.{Place}
use Rattle.turn_lock.specs.declared.view.View.{View}
use Rattle.service_door.specs.Begun.{HasJoinedLast}
use Rattle.service_door.specs.Sessions.{SessionState, one_less, one_more}

abbrev pub Table : Type 0
Table = Shelved SessionState

-- what is under each other ID is as it was
abbrev pub OthersStay : Option (List ℕ) → Table → Table → Type 0
OthersStay name m n = (k : List ℕ) → name ≢ Some k → n k ≡ m k

-- the session that was here is still here: the same, with a history that begins with what it was
pub record GoesOn (s t : SessionState) : Type 0 where
  pub session : t.host.session ≡ s.host.session
  pub seen : IsLater s.host.view.seen t.host.view.seen

-- how a join leaves the session: it went on, and at Ok the Join is its last entry and one place more is out
abbrev pub JoinLeaves : Asked → Result (Welcome Place) Refused → SessionState → SessionState → Type 0
JoinLeaves asked (Ok welcome) s t = GoesOn s t × HasJoinedLast asked welcome.place t.host × (t.places ≡ one_more s.places)
JoinLeaves asked (Err refused) s t = GoesOn s t × (t.places ≡ s.places)

-- what was under an ID and what is there now are so related; without a session there it stays without
abbrev pub Both : (SessionState → SessionState → Type 0) → Option (Option SessionState) → Option (Option SessionState) → Type 0
Both P None after = after ≡ None
Both P (Some None) after = Unit {0}
Both P (Some (Some s)) after = (t : SessionState) × (after ≡ Some (Some t)) × P s t

-- a join changes the session of its name alone
abbrev pub JoinChanges : Option (List ℕ) → Asked → Result (Welcome Place) Refused → Table → Table → Type 0
JoinChanges name asked result m n = ((id : List ℕ) → name ≡ Some id → Both (JoinLeaves asked result) (m id) (n id)) × OthersStay name m n

-- a viewer left by a turn of its own pass, which knew v before, or wasn't there
pub record HasLeft (viewer : ℕ) (v : View Entry) : Type 0 where
  pub now : View Entry
  pub result : Result (Unit {0}) NoViewer
  pub called : Called v (Leave viewer) (Ok (left result)) now
  pub gone : is_live now.seen viewer ≡ false

-- a place that is given back changes the number of places of the session of its name alone
abbrev pub IsCounted : SessionState → SessionState → Type 0
IsCounted s t = t ≡ record s { places = one_less s.places }

abbrev pub GiveChanges : Option (List ℕ) → Table → Table → Type 0
GiveChanges name m n = ((id : List ℕ) → name ≡ Some id → Both IsCounted (m id) (n id)) × OthersStay name m n

-- the session was closed for this cause, or was closed before
pub record IsClosed (cause : Cause) (result : Result (Unit {0}) Closed) (s t : SessionState) : Type 0 where
  pub goes_on : GoesOn s t
  pub called : Called s.host.view (Close cause) (Ok (closed result)) t.host.view
  pub shut : is_closed t.host.view.seen ≡ true
  pub places : t.places ≡ s.places

abbrev pub IsStopped : SessionState → SessionState → Type 0
IsStopped s t = (result : Result (Unit {0}) Closed) × IsClosed Stopped result s t

-- the session that was under this name was stopped
abbrev pub StopsUnder : Option (List ℕ) → Table → Type 0
StopsUnder name m = (id : List ℕ) → name ≡ Some id → (s : SessionState) → m id ≡ Some (Some s) → (t : SessionState) × IsStopped s t
