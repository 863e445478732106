-- What `ws_serve` received and sent, what it asked of the door, and the place that it answers (this project's own).
use Rattle.std.specs.Prelude.{◌≡◌, ◌⊎◌, ℕ, List, [], ◌∷◌, ◌++◌, Option, Some, None, Result, Ok, Err}
use Rattle.gate_model.specs.declared.entry.Entry.{Entry}
use Rattle.gate_model.specs.session.History.{History}
use Rattle.gate_model.specs.Sequences.{IsLater}
use Rattle.turn_lock.specs.declared.view.View.{View}
use Rattle.guac_handshake.specs.Opening.{AnswersForm}
use Rattle.guac_handshake.specs.Views.{DoorView}
use Rattle.gate_model.specs.text.Statuses.{bad_request}
use Rattle.guac_handshake.specs.Statuses.{status_of}
use Rattle.guac_handshake.specs.Texts.{error_text, ready_text}
use Rattle.guac_handshake.specs.declared.form_refusal.FormRefusal.{FormRefusal}
use Rattle.guac_handshake.specs.declared.form_refusal.FormRefusal.TheVariants as refusal
use Rattle.guac_handshake.specs.declared.refused.Refused.TheVariants as refused
use Rattle.guac_handshake.specs.declared.request.Request.{Request}
use Rattle.guac_handshake.specs.declared.welcome.Welcome.{Welcome}
use Rattle.shared_desk.specs.Hosts.{IsFresh}
use Rattle.shared_desk.specs.Members.{Stays}
use Rattle.shared_desk.specs.declared.place.Place.{Place}
use Rattle.ws_tunnel.specs.Links.{NoneLeft, came_messages, sent_messages}
use Rattle.ws_tunnel.specs.Runs.{HasRun, MessagesRun}
use Rattle.ws_tunnel.specs.declared.ends.WsEnd.{WsEnd}
use Rattle.ws_tunnel.specs.declared.ends.WsEnd.TheVariants.{Disconnected, Refused, LinkFault, NoMemory}
use Rattle.ws_tunnel.specs.declared.ends.WsRun.{WsRun}

-- ---- one text

-- the end of a link, or want of memory
abbrev pub IsLinkEnd : WsEnd → Type 0
IsLinkEnd LinkFault = Unit {0}
IsLinkEnd NoMemory = Unit {0}
IsLinkEnd end = ⊥

-- no message came, and why
abbrev pub NoMessage : Option (List (List ℕ)) → WsEnd → Type 0
NoMessage left Disconnected = NoneLeft left
NoMessage left LinkFault = Unit {0}
NoMessage left NoMemory = Unit {0}
NoMessage left end = ⊥

-- ---- a viewer that was let in

-- `ready` with its ID and what it was given first was sent, and then these answers; or that couldn't be sent, and no
-- message came
abbrev pub IsReadySent : List ℕ → List ℕ → List (List ℕ) → List (List ℕ) → List (List ℕ) → WsEnd → Type 0
IsReadySent id first received sent answers end = ((sent ≡ []) × (answers ≡ []) × (received ≡ []) × IsLinkEnd end) ⊎ (sent ≡ (ready_text id ++ first) ∷ answers)

-- .. and its messages were answered up to an end, at which it has left or not
abbrev pub HasAnsweredAll : ℕ → History → List ℕ → List ℕ → View Entry → View Entry → Option (List (List ℕ)) → List (List ℕ) → List (List ℕ) → WsEnd → Type 0
HasAnsweredAll viewer start id first r w left received sent end = (answers : List (List ℕ)) × IsReadySent id first received sent answers end × HasRun viewer start r w first left received answers end

abbrev pub HasVisited : ℕ → History → List ℕ → List ℕ → View Entry → View Entry → Option (List (List ℕ)) → List (List ℕ) → List (List ℕ) → WsEnd → Type 0
HasVisited viewer start id first r w left received sent end = (answers : List (List ℕ)) × IsReadySent id first received sent answers end × MessagesRun viewer start r w first left received answers end

-- the place is the one that the welcome gave, which was fresh then: it is of the same session, viewer and role, and what it
-- has seen begins with what it had seen then
pub record IsPlaceOf (welcome : Welcome Place) (place : Place) : Type 0 where
  pub fresh : IsFresh welcome.place welcome.first
  pub stays : Stays welcome.place.reader place.reader × Stays welcome.place.writer place.writer
  pub role : place.role ≡ welcome.place.role
  pub later : IsLater welcome.place.reader.view.seen place.writer.view.seen

-- it is answered with the ID that it was told
pub record IsLetIn (welcome : Welcome Place) (id : List ℕ) (place : Place) (left : Option (List (List ℕ))) (received sent : List (List ℕ)) (end : WsEnd) : Type 0 where
  pub id_is : id ≡ welcome.id
  pub place_is : IsPlaceOf welcome place
  pub ran : HasVisited welcome.place.reader.viewer welcome.place.reader.view.seen welcome.id welcome.first place.reader.view place.writer.view left received sent end

abbrev pub IsAdmitted : Welcome Place → Option (List ℕ × Place) → Option (List (List ℕ)) → List (List ℕ) → List (List ℕ) → WsEnd → Type 0
IsAdmitted welcome None left received sent end = ⊥
IsAdmitted welcome (Some placed) left received sent end = IsLetIn welcome placed.0 placed.1 left received sent end

-- without a place, at most a form came, and at Refused `error` with the status was sent
abbrev pub NoPlace : Option (List (List ℕ)) → WsEnd → List (List ℕ) → List (List ℕ) → Type 0
NoPlace left (Refused status) received sent = (form : List ℕ) × (received ≡ form ∷ []) × (sent ≡ error_text status ∷ [])
NoPlace left Disconnected received sent = (received ≡ []) × (sent ≡ []) × NoneLeft left
NoPlace left LinkFault received sent = ((received ≡ []) ⊎ ((form : List ℕ) × (received ≡ form ∷ []))) × (sent ≡ [])
NoPlace left NoMemory received sent = ((received ≡ []) ⊎ ((form : List ℕ) × (received ≡ form ∷ []))) × (sent ≡ [])
NoPlace left end received sent = ⊥

-- these messages came, these are left, and these texts were sent
abbrev pub ServesPlace : Option (List ℕ × Place) → WsEnd → Option (List (List ℕ)) → List (List ℕ) → List (List ℕ) → Type 0
ServesPlace None end left received sent = NoPlace left end received sent
ServesPlace (Some placed) end left received sent = (welcome : Welcome Place) × (form : List ℕ) × (messages : List (List ℕ)) × (received ≡ form ∷ messages) × IsLetIn welcome placed.0 placed.1 left messages sent end

abbrev pub HasServed : WsRun → Option (List (List ℕ)) → List (List ℕ) → List (List ℕ) → Type 0
HasServed run left received sent = ServesPlace run.place run.end left received sent

-- ---- the door

-- the status that a form's refusal is told with
abbrev pub status_for : FormRefusal → ℕ
status_for refusal.Form = bad_request
status_for (refusal.Door r) = status_of r
status_for refusal.NoMemory = status_of refused.NoMemory

-- `error` was sent, or it couldn't be
abbrev pub HasRefused : ℕ → Option (List (List ℕ)) → Option (List (List ℕ)) → WsEnd → Type 0
HasRefused status sent sent_new (Refused told) = (told ≡ status) × (sent_new ≡ sent_messages sent (error_text status ∷ []))
HasRefused status sent sent_new LinkFault = sent_new ≡ sent
HasRefused status sent sent_new NoMemory = sent_new ≡ sent
HasRefused status sent sent_new end = ⊥

-- what the door answered a form is answered; or it refused, which the viewer was told
abbrev pub IsOpenEnd : Result (Welcome Place) FormRefusal → Option (List (List ℕ)) → Option (List (List ℕ)) → Result (Welcome Place) WsEnd → Type 0
IsOpenEnd (Ok welcome) sent sent_new result = (result ≡ Ok welcome) × (sent_new ≡ sent)
IsOpenEnd (Err r) sent sent_new result = (end : WsEnd) × (result ≡ Err end) × HasRefused (status_for r) sent sent_new end

-- a door's answer to a form, as `open_form` says it, and what the viewer was told of it
pub record HasAnsweredForm (id_of : List ℕ → Option (List ℕ)) (gives : Request → Welcome Place → Type 0) (before after : DoorView) (form : List ℕ) (sent sent_new : Option (List (List ℕ))) (result : Result (Welcome Place) WsEnd) : Type 0 where
  pub answer : Result (Welcome Place) FormRefusal
  pub door : AnswersForm id_of gives before after form answer
  pub is_end : IsOpenEnd answer sent sent_new result

-- a form came, and was answered
abbrev pub FormCame : (List ℕ → Option (List ℕ)) → (Request → Welcome Place → Type 0) → (before after : DoorView) → (left left_new sent sent_new : Option (List (List ℕ))) → Result (Welcome Place) WsEnd → Type 0
FormCame id_of gives before after left left_new sent sent_new result = (form : List ℕ) × (left ≡ came_messages (form ∷ []) left_new) × HasAnsweredForm id_of gives before after form sent sent_new result

pub record NoFormCame (before after : DoorView) (left left_new sent sent_new : Option (List (List ℕ))) (result : Result (Welcome Place) WsEnd) : Type 0 where
  pub end : WsEnd
  pub is : result ≡ Err end
  pub none : NoMessage left end
  pub came : left_new ≡ left
  pub told : sent_new ≡ sent
  pub same : after ≡ before

abbrev pub OpensDoor : (List ℕ → Option (List ℕ)) → (Request → Welcome Place → Type 0) → (before after : DoorView) → (left left_new sent sent_new : Option (List (List ℕ))) → Result (Welcome Place) WsEnd → Type 0
OpensDoor id_of gives before after left left_new sent sent_new result = NoFormCame before after left left_new sent sent_new result ⊎ FormCame id_of gives before after left left_new sent sent_new result

-- what the door answered a form: the place of this very welcome; or it refused, which the viewer was told, unless the link
-- failed or memory was wanting
abbrev pub IsEndOf : Result (Welcome Place) FormRefusal → Option (List ℕ × Place) → WsEnd → Type 0
IsEndOf (Ok welcome) place end = (own : Place) × (place ≡ Some (welcome.id, own)) × IsPlaceOf welcome own
IsEndOf (Err r) place end = (place ≡ None) × ((end ≡ Refused (status_for r)) ⊎ IsLinkEnd end)

-- the door was asked what the first message asks
pub record HasAsked (id_of : List ℕ → Option (List ℕ)) (gives : Request → Welcome Place → Type 0) (before after : DoorView) (left : Option (List (List ℕ))) (place : Option (List ℕ × Place)) (end : WsEnd) : Type 0 where
  pub form : List ℕ
  pub rest : Option (List (List ℕ))
  pub came : left ≡ came_messages (form ∷ []) rest
  pub answer : Result (Welcome Place) FormRefusal
  pub door : AnswersForm id_of gives before after form answer
  pub is_end : IsEndOf answer place end

-- .. or no message came, and it wasn't
pub record NotAsked (before after : DoorView) (left : Option (List (List ℕ))) (place : Option (List ℕ × Place)) (end : WsEnd) : Type 0 where
  pub none : NoMessage left end
  pub no_place : place ≡ None
  pub same : after ≡ before

-- so a place more is out where one is answered, and else none
abbrev pub AsksDoor : (List ℕ → Option (List ℕ)) → (Request → Welcome Place → Type 0) → (before after : DoorView) → Option (List (List ℕ)) → WsRun → Type 0
AsksDoor id_of gives before after left run = NotAsked before after left run.place run.end ⊎ HasAsked id_of gives before after left run.place run.end
