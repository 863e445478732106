-- What one viewer's connection read and wrote, by its end (this project's own).
use Rattle.std.specs.Prelude.{◌≡◌, ◌⊎◌, ℕ, List, [], ◌++◌, Option}
use Rattle.gate_outside.specs.Edge.{came, gained}
use Rattle.guac_handshake.specs.declared.greeted.Greeted.{Greeted}
use Rattle.guac_handshake.specs.declared.greeted.Greeted.TheVariants as greeted
use Rattle.guac_handshake.specs.declared.request.Request.{Request}
use Rattle.guac_handshake.specs.declared.welcome.Welcome.{Welcome}
use Rattle.guac_handshake.specs.Greetings.{Touches}
use Rattle.guac_handshake.specs.Greetings as door
use Rattle.guac_handshake.specs.Views.{DoorView}
use Rattle.shared_desk.specs.declared.place.Place.{Place}
use Rattle.shared_desk.specs.Hosts.{IsFresh}
use Rattle.user_serve.specs.Greets.{GreetRun}
use Rattle.user_serve.specs.Intakes.{IntakeRun}
use Rattle.user_serve.specs.Outlets.{OutletRun}
use Rattle.user_serve.specs.declared.ends.IntakeEnd.TheVariants as intakes
use Rattle.user_serve.specs.declared.ends.OutletEnd.TheVariants as outlets
use Rattle.user_serve.specs.declared.ends.UserEnd.{UserEnd}
use Rattle.user_serve.specs.declared.ends.UserEnd.TheVariants.{Served, Refused, Ended, ReadFault, WriteFault, NoMemory}
use Rattle.user_serve.specs.declared.ends.Visit.{Visit}

-- a place that was fresh was served: its passes stay of one session and of one viewer, and its two loops ran
-- on them. The bytes behind the greeting begin with those that it left unread
pub record VisitRun (welcome : Welcome Place) (visit : Visit) (heard shown : List ℕ) (left : Option (List ℕ)) : Type 0 where
  pub id : visit.id ≡ welcome.id
  pub fresh : IsFresh welcome.place welcome.first
  pub role : visit.place.role ≡ welcome.place.role
  pub sessions : (visit.place.reader.session ≡ welcome.place.reader.session) × (visit.place.writer.session ≡ welcome.place.reader.session)
  pub viewers : (visit.place.reader.viewer ≡ welcome.place.reader.viewer) × (visit.place.writer.viewer ≡ welcome.place.reader.viewer)
  pub unread : List ℕ
  pub intake : IntakeRun welcome.place.reader.viewer welcome.place.writer.view visit.place.writer.view heard unread left visit.intake
  pub outlet : OutletRun welcome.place.reader.viewer welcome.place.reader.view visit.place.reader.view shown visit.outlet

-- the greeting let the viewer in, and what follows it is the visit's
pub record IsServed (visit : Visit) (read written : List ℕ) (left : Option (List ℕ)) : Type 0 where
  pub welcome : Welcome Place
  pub greeting : List ℕ
  pub behind : List ℕ
  pub rest : List ℕ
  pub replies : List ℕ
  pub shown : List ℕ
  pub reads : read ≡ greeting ++ behind
  pub writes : written ≡ replies ++ shown
  pub greets : GreetRun greeting rest replies (greeted.Ready welcome)
  pub visits : VisitRun welcome visit (rest ++ behind) shown left

-- at every other end the bytes are those of one greeting; or none, where memory was wanting before it
abbrev pub Greets : Greeted Place → List ℕ → List ℕ → Type 0
Greets end read written = (rest : List ℕ) × GreetRun read rest written end

abbrev pub UserRun : Option (List ℕ) → UserEnd → List ℕ → List ℕ → Type 0
UserRun left (Served visit) read written = IsServed visit read written left
UserRun left (Refused status) read written = Greets (greeted.Refused status) read written
UserRun left Ended read written = Greets greeted.Ended read written
UserRun left ReadFault read written = Greets greeted.ReadFault read written
UserRun left WriteFault read written = Greets greeted.WriteFault read written
UserRun left NoMemory read written = ((read ≡ []) × (written ≡ [])) ⊎ Greets greeted.NoMemory read written

-- a read failed: the greeting's, or the visit's; and the same of a write
abbrev pub HasReadFault : UserEnd → Type 0
HasReadFault (Served visit) = visit.intake ≡ intakes.ReadFault
HasReadFault (Refused code) = ⊥
HasReadFault Ended = ⊥
HasReadFault ReadFault = Unit {0}
HasReadFault WriteFault = ⊥
HasReadFault NoMemory = ⊥

abbrev pub HasWriteFault : UserEnd → Type 0
HasWriteFault (Served visit) = visit.outlet ≡ outlets.WriteFault
HasWriteFault (Refused code) = ⊥
HasWriteFault Ended = ⊥
HasWriteFault ReadFault = ⊥
HasWriteFault WriteFault = Unit {0}
HasWriteFault NoMemory = ⊥

-- a fact of the code of a viewer that was refused
abbrev pub IfRefused : UserEnd → (ℕ → Type 0) → Type 0
IfRefused (Served visit) F = Unit {0}
IfRefused (Refused code) F = F code
IfRefused Ended F = Unit {0}
IfRefused ReadFault F = Unit {0}
IfRefused WriteFault F = Unit {0}
IfRefused NoMemory F = Unit {0}

-- ---- by the words of the greeting's own contract

-- a greeting let the viewer in, and what was read and written behind it is the visit's, of the place that it gave
pub record HasLetIn (is_greeting : List ℕ → Option (List ℕ) → Option (List ℕ) → Greeted Place → Type 0) (left_new written_new : Option (List ℕ)) (visit : Visit) : Type 0 where
  pub welcome : Welcome Place
  pub rest : List ℕ
  pub left : Option (List ℕ)
  pub behind : List ℕ
  pub reads : left ≡ came behind left_new
  pub written : Option (List ℕ)
  pub shown : List ℕ
  pub writes : written_new ≡ gained written shown
  pub greets : is_greeting rest left written (greeted.Ready welcome)
  pub visits : VisitRun welcome visit (rest ++ behind) shown left_new

-- a greeting ended so, whatever it left unread
abbrev pub SomeGreeting : (List ℕ → Option (List ℕ) → Option (List ℕ) → Greeted Place → Type 0) → Option (List ℕ) → Option (List ℕ) → Greeted Place → Type 0
SomeGreeting is_greeting left written g = (rest : List ℕ) × is_greeting rest left written g

-- at every other end a greeting ended so; or memory was wanting before it, and nothing was done
abbrev pub Greeting : (List ℕ → Option (List ℕ) → Option (List ℕ) → Greeted Place → Type 0) → Type 0 → Option (List ℕ) → Option (List ℕ) → UserEnd → Type 0
Greeting is_greeting nothing left written (Served visit) = HasLetIn is_greeting left written visit
Greeting is_greeting nothing left written (Refused status) = SomeGreeting is_greeting left written (greeted.Refused status)
Greeting is_greeting nothing left written Ended = SomeGreeting is_greeting left written greeted.Ended
Greeting is_greeting nothing left written ReadFault = SomeGreeting is_greeting left written greeted.ReadFault
Greeting is_greeting nothing left written WriteFault = SomeGreeting is_greeting left written greeted.WriteFault
Greeting is_greeting nothing left written NoMemory = nothing ⊎ SomeGreeting is_greeting left written greeted.NoMemory

-- .. so the door was asked by the greeting alone, and where a viewer was let in it has given just what was wished
abbrev pub HasGreeted : (List ℕ → Option (List ℕ)) → (Request → Welcome Place → Type 0) → DoorView → DoorView → Option (List ℕ) → Option (List ℕ) → Option (List ℕ) → Option (List ℕ) → UserEnd → Type 0
HasGreeted id_of gives before after left_old left_new written_old written_new end =
    Greeting (λ rest left written g. door.IsGreeting id_of gives before after left_old left written_old written rest g)
    ((left_new ≡ left_old) × (written_new ≡ written_old) × (after.asked ≡ before.asked)) left_new written_new end

-- the greeting that stands behind an end
abbrev pub IsEndOf : Greeted Place → UserEnd → Type 0
IsEndOf g (Served visit) = (welcome : Welcome Place) × (g ≡ greeted.Ready welcome) × (visit.id ≡ welcome.id)
IsEndOf g (Refused status) = g ≡ greeted.Refused status
IsEndOf g Ended = g ≡ greeted.Ended
IsEndOf g ReadFault = g ≡ greeted.ReadFault
IsEndOf g WriteFault = g ≡ greeted.WriteFault
IsEndOf g NoMemory = g ≡ greeted.NoMemory

-- the door is as that greeting left it: its places that are out, and its sessions
pub record LeavesDoor (id_of : List ℕ → Option (List ℕ)) (before after : DoorView) (end : UserEnd) : Type 0 where
  pub greeting : Greeted Place
  pub is_end : IsEndOf greeting end
  pub touches : Touches id_of greeting before after
