-- What a request for a tunnel does (this project's own).
use Rattle.std.specs.Prelude.{◌≡◌, ◌⊎◌, ℕ, ◌+◌, false, List, Option, Some, None, IfSome, Result, Ok, Err, OnOk}
use Rattle.std.specs.Option.{option_map}
use Rattle.guac_handshake.specs.Opening.{HasMoved, HasOpened}
use Rattle.guac_handshake.specs.Views.{DoorView}
use Rattle.guac_handshake.specs.declared.form_refusal.FormRefusal.{FormRefusal}
use Rattle.guac_handshake.specs.declared.form_refusal.FormRefusal.TheVariants as form
use Rattle.guac_handshake.specs.declared.refused.Refused.{Refused}
use Rattle.guac_handshake.specs.declared.refused.Refused.TheVariants as door
use Rattle.guac_handshake.specs.declared.request.Request.{Request}
use Rattle.guac_handshake.specs.declared.welcome.Welcome.{Welcome}
use Rattle.id_table.specs.Draws.{AreNext, AreThere, IsFirstAbsent}
use Rattle.id_table.specs.Maps.{Changed, Same, Shelved, Told}
use Rattle.shared_desk.specs.Hosts.{IsFresh}
use Rattle.shared_desk.specs.declared.place.Place.{Place}
use Rattle.uuid.specs.Text.{hyphenated_text, lower}
use Rattle.http_front.specs.declared.refusal.Refusal.{Refusal}
use Rattle.http_front.specs.declared.refusal.Refusal.TheVariants.{NotFound, Form, Dial, Busy, Conflict, Forbidden, TooMany, Closed, NoMemory}
use Rattle.http_tunnel.specs.declared.tunnel.Tunnel.{Tunnel}

-- the tunnel of a viewer that was let in, whose first read hands out what its Join gave
abbrev pub tunnel_of : Welcome Place → Tunnel
tunnel_of welcome = record { id = welcome.id; reader = Some welcome.place.reader; writer = welcome.place.writer; role = welcome.place.role; kept = welcome.first; gone = false }

abbrev pub refused_by_door : Refused → Refusal
refused_by_door door.Absent = NotFound
refused_by_door door.Conflict = Conflict
refused_by_door door.Dial = Dial
refused_by_door door.Busy = Busy
refused_by_door door.Closed = Closed
refused_by_door door.Forbidden = Forbidden
refused_by_door door.TooMany = TooMany
refused_by_door door.Worn = Closed
refused_by_door door.NoMemory = NoMemory

abbrev pub refused_form : FormRefusal → Refusal
refused_form form.Form = Form
refused_form (form.Door refused) = refused_by_door refused
refused_form form.NoMemory = NoMemory

-- four IDs are there: those of the next four draws, where the dice tell them
abbrev pub FourAreThere : Option (ℕ → List ℕ) → Shelved Tunnel → Type 0
FourAreThere drawn m = (ids : List (List ℕ)) × AreThere m 4 ids × IfSome drawn (λ draws. AreNext draws 4 ids)

-- the tunnel was added under an ID that was absent, the first of those that are drawn where the dice tell; or nothing
-- was, since four IDs were there or memory was wanting
abbrev pub IsAdded : {I : Type 0} → (I → List ℕ → Type 0) → Option (ℕ → List ℕ) → Welcome Place → Result I Refusal → Shelved Tunnel → Shelved Tunnel → Type 0
IsAdded Names drawn welcome (Ok named) m n = (id : List ℕ) × Names named id × (m id ≡ None) × IfSome drawn (λ draws. IsFirstAbsent m draws id) × Changed id (Some (Some (tunnel_of welcome))) m n
IsAdded Names drawn welcome (Err refused) m n = Same m n × (refused ≡ Conflict → FourAreThere drawn m)

abbrev pub IsText : List ℕ → List ℕ → Type 0
IsText text id = text ≡ hyphenated_text lower id

abbrev pub IsId : List ℕ → List ℕ → Type 0
IsId named id = named ≡ id

-- what is answered, by what the door gave
abbrev pub AnswersOpened : Result (Welcome Place) FormRefusal → Result (List ℕ) Refusal → Type 0
AnswersOpened (Err refusal) result = result ≡ Err (refused_form refusal)
AnswersOpened (Ok welcome) (Ok text) = IsFresh welcome.place welcome.first
AnswersOpened (Ok welcome) (Err refused) = (refused ≡ Conflict) ⊎ (refused ≡ NoMemory)

-- what is done to the tunnels
abbrev pub ConnectOf : Option (ℕ → List ℕ) → Result (Welcome Place) FormRefusal → Result (List ℕ) Refusal → Shelved Tunnel → Shelved Tunnel → Type 0
ConnectOf drawn (Err refusal) result m n = Same m n
ConnectOf drawn (Ok welcome) result m n = IsAdded IsText drawn welcome result m n

-- a place more is out where a tunnel was added; else the place, if one was given, went back
abbrev pub out_after : {A : Type 0} → Result A Refusal → Option ℕ → Option ℕ
out_after (Ok text) out = option_map (λ n. n + 1) out
out_after (Err refused) out = out

-- the door was asked what the body asks, and the tunnel of its welcome was added, or its place went back. What it says of
-- itself where it gave a place is said where an ID is answered
pub record OpensTunnel (id_of : List ℕ → Option (List ℕ)) (gives : Request → Welcome Place → Type 0) (before after : DoorView) (drawn : Option (ℕ → List ℕ)) (told told_new : Option (Shelved Tunnel)) (body : List ℕ) (answered : Result (List ℕ) Refusal) : Type 0 where
  pub opened : Result (Welcome Place) FormRefusal
  pub asked : HasOpened id_of (λ request welcome. OnOk answered (gives request welcome)) before after body opened
  pub answers : AnswersOpened opened answered
  pub sessions : Told before.sessions after.sessions (HasMoved id_of opened)
  pub out : after.out ≡ out_after answered before.out
  pub tunnels : Told told told_new (ConnectOf drawn opened answered)
