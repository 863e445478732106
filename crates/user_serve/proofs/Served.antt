-- How a greeting and the two loops behind it make one connection.
use Rattle.std.proofs.Common.{◌≡◌, ℕ, List, [], ◌++◌, Option, Some, None, refl, ap, sym, ◌∙◌, subst, inl, inr}
use Rattle.gate_outside.specs.Edge.{came, gained}
use Rattle.gate_outside.proofs.Moved.{came-came, came-none, gained-gained, gained-none}
use Rattle.guac_handshake.specs.declared.greeted.Greeted.{Greeted}
use Rattle.guac_handshake.specs.declared.greeted.Greeted.TheVariants as greeted
use Rattle.guac_handshake.specs.declared.request.Request.{Request}
use Rattle.guac_handshake.specs.declared.welcome.Welcome.{Welcome}
use Rattle.guac_handshake.specs.Doors.{Sessions}
use Rattle.guac_handshake.specs.Greetings as door
use Rattle.guac_handshake.specs.Views.{DoorView}
use Rattle.guac_handshake.proofs.Touching.{touched_none}
use Rattle.id_table.specs.Maps.{Same, Told}
use Rattle.shared_desk.specs.declared.place.Place.{Place}
use Rattle.user_serve.specs.Users.{Greets, HasGreeted, LeavesDoor, UserRun, VisitRun}
use Rattle.user_serve.specs.declared.ends.UserEnd.TheVariants.{Served, NoMemory}
use Rattle.user_serve.specs.declared.ends.Visit.{Visit}
use Rattle.user_serve.proofs.Greeted.{Greeted_by}

-- these bytes were read and written, where the ends tell, and this is told of them
abbrev pub Exchanges : Option (List ℕ) → Option (List ℕ) → Option (List ℕ) → Option (List ℕ) → (List ℕ → List ℕ → Type 0) → Type 0
Exchanges left_old left_new written_old written_new told = (read : List ℕ) × (written : List ℕ) × (left_old ≡ came read left_new) × (written_new ≡ gained written_old written) × told read written

-- nothing was
pub untouched : (left written : Option (List ℕ)) → Exchanges left left written written (λ r w. UserRun left NoMemory r w)
untouched left written = ([], [], sym (came-none left), sym (gained-none written), inl (refl, refl))

-- those of a greeting alone
pub greets : (left_old left_new written_old written_new : Option (List ℕ)) (rest : List ℕ) (end : Greeted Place) → Greeted_by left_old left_new written_old written_new rest end → Exchanges left_old left_new written_old written_new (λ r w. Greets end r w)
greets left_old left_new written_old written_new rest end g = (g.read, g.written, g.came_is, g.gained_is, (rest, g.ran))

pub greets_memory : (left_old left_new written_old written_new : Option (List ℕ)) (rest : List ℕ) → Greeted_by {P = Place} left_old left_new written_old written_new rest greeted.NoMemory → Exchanges left_old left_new written_old written_new (λ r w. UserRun left_new NoMemory r w)
greets_memory left_old left_new written_old written_new rest g = (g.read, g.written, g.came_is, g.gained_is, inr (rest, g.ran))

-- those of a greeting, and then of a visit
pub served : (left_old left left_new written_old written written_new : Option (List ℕ)) (rest : List ℕ) (welcome : Welcome Place) (visit : Visit) → Greeted_by left_old left written_old written rest (greeted.Ready welcome)
    → Exchanges left left_new written written_new (λ r w. VisitRun welcome visit (rest ++ r) w left_new) → Exchanges left_old left_new written_old written_new (λ r w. UserRun left_new (Served visit) r w)
served left_old left left_new written_old written written_new rest welcome visit g v = (
  g.read ++ v.0,
  g.written ++ v.1,
  g.came_is ∙ (ap (came g.read) v.2 ∙ came-came g.read v.0 left_new),
  v.3 ∙ (ap (λ (o : Option (List ℕ)). gained o v.1) g.gained_is ∙ gained-gained written_old g.written v.1),
  record { welcome = welcome; greeting = g.read; behind = v.0; rest = rest; replies = g.written; shown = v.1; reads = refl; writes = refl; greets = g.ran; visits = v.4 },
)

-- a loop of the writer's viewer is one of the reader's
pub same_viewer : (one other : ℕ) (P : ℕ → Type 0) → one ≡ other → P other → P one
same_viewer one other P is p = subst P (sym is) p

-- a greeting let the viewer in, and a visit followed
pub let_in : (id_of : List ℕ → Option (List ℕ)) (gives : Request → Welcome Place → Type 0) (before after : DoorView) (left_old left left_new written_old written written_new : Option (List ℕ)) (rest : List ℕ) (welcome : Welcome Place) (visit : Visit)
    → door.IsGreeting id_of gives before after left_old left written_old written rest (greeted.Ready welcome) → Exchanges left left_new written written_new (λ r w. VisitRun welcome visit (rest ++ r) w left_new)
    → HasGreeted id_of gives before after left_old left_new written_old written_new (Served visit)
let_in id_of gives before after left_old left left_new written_old written written_new rest welcome visit g v =
    record { welcome = welcome; rest = rest; left = left; behind = v.0; reads = v.2; written = written; shown = v.1; writes = v.3; greets = g; visits = v.4 }

-- ---- the door

same_told : (o : Option Sessions) → Told o o Same
same_told None = tt
same_told (Some m) = λ k. refl

-- it is as it was, where no greeting began
pub door_kept : (id_of : List ℕ → Option (List ℕ)) (view : DoorView) → LeavesDoor id_of view view NoMemory
door_kept id_of view = record { greeting = greeted.NoMemory; is_end = refl; touches = record { out = refl; sessions = touched_none view.sessions view.sessions (same_told view.sessions) } }
