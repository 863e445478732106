-- The link's messages and texts, the texts of the handshake, and what the door was asked.
use Rattle.std.proofs.Common.{◌≡◌, ◌⊎◌, inl, inr, ℕ, List, [], ◌∷◌, ◌++◌, refl, ap, sym, ◌∙◌, subst, append-nil, append_assoc}
use Rattle.std.specs.Prelude.{Option, Some, None, Result, Ok, Err}
use Rattle.gate_model.specs.session.History.{History}
use Rattle.gate_model.specs.declared.entry.Entry.{Entry}
use Rattle.guac_handshake.specs.Texts.{error_text, ready_text}
use Rattle.guac_handshake.specs.Views.{DoorView}
use Rattle.guac_handshake.specs.declared.form_refusal.FormRefusal.{FormRefusal}
use Rattle.guac_handshake.specs.declared.request.Request.{Request}
use Rattle.guac_handshake.specs.declared.welcome.Welcome.{Welcome}
use Rattle.turn_lock.specs.declared.view.View.{View}
use Rattle.shared_desk.specs.declared.place.Place.{Place}
use Rattle.ws_tunnel.specs.Links.{Exchanges, NoneLeft, came_messages, sent_messages}
use Rattle.ws_tunnel.specs.Runs.{HasRun, IsStart}
use Rattle.ws_tunnel.specs.Served.{HasAnsweredAll, HasAnsweredForm, HasAsked, HasRefused, IsAdmitted, IsEndOf, IsLinkEnd, IsOpenEnd, NoMessage, NoPlace, NotAsked, OpensDoor, ServesPlace, status_for}
use Rattle.ws_tunnel.specs.declared.ends.WsEnd.{WsEnd}
use Rattle.ws_tunnel.specs.declared.ends.WsEnd.TheVariants.{Ended, Disconnected, Refused, Bad, Cut, TooLong, LinkFault, Left, Worn, NoMemory}
use Rattle.ws_tunnel.proofs.Replies.{none_came}
use Rattle.ws_tunnel.proofs.Going.{far_none}

-- ---- messages and texts, one after the other

pub came_none : (o : Option (List (List ℕ))) → came_messages [] o ≡ o
came_none None = refl
came_none (Some rest) = refl

pub came_twice : (a b : List (List ℕ)) (o : Option (List (List ℕ))) → came_messages a (came_messages b o) ≡ came_messages (a ++ b) o
came_twice a b None = refl
came_twice a b (Some rest) = ap Some (sym (append_assoc a b rest))

pub sent_none : (o : Option (List (List ℕ))) → sent_messages o [] ≡ o
sent_none None = refl
sent_none (Some sent) = ap Some (append-nil sent)

pub sent_twice : (o : Option (List (List ℕ))) (a b : List (List ℕ)) → sent_messages (sent_messages o a) b ≡ sent_messages o (a ++ b)
sent_twice None a b = refl
sent_twice (Some sent) a b = ap Some (append_assoc sent a b)

-- ---- `ready`

link_none : (left : Option (List (List ℕ))) (end : WsEnd) → IsLinkEnd end → NoMessage left end
link_none left LinkFault k = tt
link_none left NoMemory k = tt
link_none left Ended k = absurd k
link_none left Disconnected k = absurd k
link_none left (Refused status) k = absurd k
link_none left (Bad at) k = absurd k
link_none left (Cut place) k = absurd k
link_none left TooLong k = absurd k
link_none left Left k = absurd k
link_none left Worn k = absurd k

-- it couldn't be sent
pub unready : (viewer : ℕ) (r w : View Entry) (id first : List ℕ) (left left_new sent sent_new : Option (List (List ℕ))) (end : WsEnd) → IsStart viewer r w first → IsLinkEnd end → left_new ≡ left → sent_new ≡ sent
    → Exchanges left left_new sent sent_new (λ received texts. HasAnsweredAll viewer r.seen id first r w left_new received texts end)
unready viewer r w id first left left_new sent sent_new end start kind same told = (
  [],
  [],
  sym same ∙ sym (came_none left_new),
  told ∙ sym (sent_none sent),
  (
    [],
    inl (refl, refl, refl, kind),
    record { r_then = r; w_then = w; answered = []; texts_then = []; so_far = far_none viewer r w first start; last = None; texts_last = []; stopped = none_came viewer r w left_new end (link_none left_new end kind); received_are = refl; sent_are = refl },
  ),
)

-- it was, and then answers
pub readied : (viewer : ℕ) (start : History) (id first ready : List ℕ) (r w : View Entry) (left left_mid left_new sent sent_mid sent_new : Option (List (List ℕ))) (end : WsEnd) → ready ≡ ready_text id ++ first → left_mid ≡ left → sent_mid ≡ sent_messages sent (ready ∷ [])
    → Exchanges left_mid left_new sent_mid sent_new (λ received texts. HasRun viewer start r w first left_new received texts end) → Exchanges left left_new sent sent_new (λ received texts. HasAnsweredAll viewer start id first r w left_new received texts end)
readied viewer start id first ready r w left left_mid left_new sent sent_mid sent_new end is same told k = (
  k.0,
  ready ∷ k.1,
  sym same ∙ k.2,
  k.3 ∙ (ap (λ (o : Option (List (List ℕ))). sent_messages o k.1) told ∙ sent_twice sent (ready ∷ []) k.1),
  (k.1, inr (ap (λ (bs : List ℕ). bs ∷ k.1) is), k.4),
)

-- ---- a place was given

admitted : (welcome : Welcome Place) (place : Option (List ℕ × Place)) (left : Option (List (List ℕ))) (received sent : List (List ℕ)) (end : WsEnd) → IsAdmitted welcome place left received sent end → IsEndOf (Ok welcome) place end
admitted welcome None left received sent end k = absurd k
admitted welcome (Some placed) left received sent end k = (placed.1, ap (λ (id : List ℕ). Some (id, placed.1)) k.id_is, k.place_is)

served_in : (welcome : Welcome Place) (place : Option (List ℕ × Place)) (left : Option (List (List ℕ))) (form : List ℕ) (received sent : List (List ℕ)) (end : WsEnd) → IsAdmitted welcome place left received sent end → ServesPlace place end left (form ∷ received) sent
served_in welcome None left form received sent end k = absurd k
served_in welcome (Some placed) left form received sent end k = (welcome, form, received, refl, k)

same_welcome : (r : Result (Welcome Place) WsEnd) (a b : Welcome Place) → r ≡ Ok a → r ≡ Ok b → a ≡ b
same_welcome r a b e f = let z : Ok a ≡ Ok b = sym e ∙ f in cc

-- .. for a form, which the door answered by it
record IsGiven (answer : Result (Welcome Place) FormRefusal) (sent sent_new : Option (List (List ℕ))) (welcome : Welcome Place) : Type 0 where
  answer_is : answer ≡ Ok welcome
  told : sent_new ≡ sent

given_by : (answer : Result (Welcome Place) FormRefusal) (sent sent_new : Option (List (List ℕ))) (welcome : Welcome Place) → IsOpenEnd answer sent sent_new (Ok welcome) → IsGiven answer sent sent_new welcome
given_by (Ok own) sent sent_new welcome k = record { answer_is = ap Ok (sym (same_welcome (Ok welcome) welcome own refl k.0)); told = k.1 }
given_by (Err r) sent sent_new welcome k = absurd (let z : Ok welcome ≡ Err k.0 = k.1 in cc)

-- ---- no place was given

pub same_end : {A : Type 0} (r : Result A WsEnd) (a b : WsEnd) → r ≡ Err a → r ≡ Err b → a ≡ b
same_end {A} r a b e f = let z : Err a ≡ Err b = sym e ∙ f in cc

record IsDenied (answer : Result (Welcome Place) FormRefusal) (sent sent_new : Option (List (List ℕ))) (end : WsEnd) : Type 0 where
  refusal : FormRefusal
  answer_is : answer ≡ Err refusal
  refused : HasRefused (status_for refusal) sent sent_new end

denied_by : (answer : Result (Welcome Place) FormRefusal) (sent sent_new : Option (List (List ℕ))) (end : WsEnd) → IsOpenEnd answer sent sent_new (Err end) → IsDenied answer sent sent_new end
denied_by (Ok own) sent sent_new end k = absurd (let z : Err end ≡ Ok own = k.0 in cc)
denied_by (Err r) sent sent_new end k = record { refusal = r; answer_is = refl; refused = subst (λ (x : WsEnd). HasRefused (status_for r) sent sent_new x) (sym (same_end (Err end) end k.0 refl k.1)) k.2 }

told_end : (status : ℕ) (sent sent_new : Option (List (List ℕ))) (end : WsEnd) → HasRefused status sent sent_new end → (end ≡ Refused status) ⊎ IsLinkEnd end
told_end status sent sent_new (Refused told) k = inl (ap Refused k.0)
told_end status sent sent_new LinkFault k = inr tt
told_end status sent sent_new NoMemory k = inr tt
told_end status sent sent_new Ended k = absurd k
told_end status sent sent_new Disconnected k = absurd k
told_end status sent sent_new (Bad at) k = absurd k
told_end status sent sent_new (Cut place) k = absurd k
told_end status sent sent_new TooLong k = absurd k
told_end status sent sent_new Left k = absurd k
told_end status sent sent_new Worn k = absurd k

told_none : (form : List ℕ) (status : ℕ) (left sent sent_new : Option (List (List ℕ))) (end : WsEnd) → HasRefused status sent sent_new end → (texts : List (List ℕ)) × (sent_new ≡ sent_messages sent texts) × NoPlace left end (form ∷ []) texts
told_none form status left sent sent_new (Refused told) k = (error_text told ∷ [], k.1 ∙ ap (λ (n : ℕ). sent_messages sent (error_text n ∷ [])) (sym k.0), (form, refl, refl))
told_none form status left sent sent_new LinkFault k = ([], k ∙ sym (sent_none sent), (inr (form, refl), refl))
told_none form status left sent sent_new NoMemory k = ([], k ∙ sym (sent_none sent), (inr (form, refl), refl))
told_none form status left sent sent_new Ended k = absurd k
told_none form status left sent sent_new Disconnected k = absurd k
told_none form status left sent sent_new (Bad at) k = absurd k
told_none form status left sent sent_new (Cut place) k = absurd k
told_none form status left sent sent_new TooLong k = absurd k
told_none form status left sent sent_new Left k = absurd k
told_none form status left sent sent_new Worn k = absurd k

came_not : (left left_new : Option (List (List ℕ))) (end : WsEnd) → left_new ≡ left → NoMessage left end → NoPlace left_new end [] []
came_not left left_new Disconnected same k = (refl, refl, subst NoneLeft (sym same) k)
came_not left left_new LinkFault same k = (inl refl, refl)
came_not left left_new NoMemory same k = (inl refl, refl)
came_not left left_new Ended same k = absurd k
came_not left left_new (Refused status) same k = absurd k
came_not left left_new (Bad at) same k = absurd k
came_not left left_new (Cut place) same k = absurd k
came_not left left_new TooLong same k = absurd k
came_not left left_new Left same k = absurd k
came_not left left_new Worn same k = absurd k

-- ---- the whole call

module _ (id_of : List ℕ → Option (List ℕ)) (gives : Request → Welcome Place → Type 0) (before after : DoorView) (left left_mid sent sent_mid : Option (List (List ℕ))) where
  abbrev Opens : Result (Welcome Place) WsEnd → Type 0
  Opens result = OpensDoor id_of gives before after left left_mid sent sent_mid result

  abbrev Asks : Option (List ℕ × Place) → WsEnd → Type 0
  Asks place end = NotAsked before after left place end ⊎ HasAsked id_of gives before after left place end

  -- a form came, and was answered over the link as it was then
  pub form_came : (form given : List ℕ) (left_then sent_then : Option (List (List ℕ))) (result : Result (Welcome Place) WsEnd) → given ≡ form → sent_then ≡ sent → left ≡ came_messages (form ∷ []) left_then → left_mid ≡ left_then
      → HasAnsweredForm id_of gives before after given sent_then sent_mid result → Opens result
  form_came form given left_then sent_then result is told came same k = inr (
    form,
    came ∙ ap (λ (o : Option (List (List ℕ))). came_messages (form ∷ []) o) (sym same),
    subst (λ (f : List ℕ). HasAnsweredForm id_of gives before after f sent sent_mid result) is
        (subst (λ (s : Option (List (List ℕ))). HasAnsweredForm id_of gives before after given s sent_mid result) told k),
  )

  module _ (welcome : Welcome Place) (left_new sent_new : Option (List (List ℕ))) (place : Option (List ℕ × Place)) (end : WsEnd) (k : Exchanges left_mid left_new sent_mid sent_new (λ received texts. IsAdmitted welcome place left_new received texts end)) where
    pub let_in : Opens (Ok welcome) → Exchanges left left_new sent sent_new (λ received texts. ServesPlace place end left_new received texts)
    let_in (inl n) = absurd (let z : Ok welcome ≡ Err n.end = n.is in cc)
    let_in (inr f) =
        let g = given_by f.2.answer sent sent_mid welcome f.2.is_end in (
          f.0 ∷ k.0,
          k.1,
          f.1 ∙ (ap (λ (o : Option (List (List ℕ))). came_messages (f.0 ∷ []) o) k.2 ∙ came_twice (f.0 ∷ []) k.0 left_new),
          k.3 ∙ ap (λ (o : Option (List (List ℕ))). sent_messages o k.1) g.told,
          served_in welcome place left_new f.0 k.0 k.1 end k.4,
        )

    pub asks_in : Opens (Ok welcome) → Asks place end
    asks_in (inl n) = absurd (let z : Ok welcome ≡ Err n.end = n.is in cc)
    asks_in (inr f) =
        let g = given_by f.2.answer sent sent_mid welcome f.2.is_end in
        let own = admitted welcome place left_new k.0 k.1 end k.4 in
        inr record { form = f.0; rest = left_mid; came = f.1; answer = f.2.answer; door = f.2.door; is_end = subst (λ (a : Result (Welcome Place) FormRefusal). IsEndOf a place end) (sym g.answer_is) own }

  module _ (end : WsEnd) where
    pub denied : Opens (Err end) → Exchanges left left_mid sent sent_mid (λ received texts. NoPlace left_mid end received texts)
    denied (inl n) = ([], [], sym n.came ∙ sym (came_none left_mid), n.told ∙ sym (sent_none sent), came_not left left_mid end n.came (subst (NoMessage left) (sym (same_end (Err end) end n.end refl n.is)) n.none))
    denied (inr f) =
        let d = denied_by f.2.answer sent sent_mid end f.2.is_end in
        let t = told_none f.0 (status_for d.refusal) left_mid sent sent_mid end d.refused in
        (f.0 ∷ [], t.0, f.1, t.1, t.2)

    pub asks_denied : Opens (Err end) → Asks None end
    asks_denied (inl n) = inl record { none = subst (NoMessage left) (sym (same_end (Err end) end n.end refl n.is)) n.none; no_place = refl; same = n.same }
    asks_denied (inr f) =
        let d = denied_by f.2.answer sent sent_mid end f.2.is_end in
        inr record { form = f.0; rest = left_mid; came = f.1; answer = f.2.answer; door = f.2.door; is_end = subst (λ (a : Result (Welcome Place) FormRefusal). IsEndOf a None end) (sym d.answer_is) (refl, told_end (status_for d.refusal) sent sent_mid end d.refused) }
