-- Which refusal of a door a status tells, and what the door tells of it.
use Rattle.std.proofs.Common.{◌≡◌, ℕ, List, [], ◌∷◌, Option, Some, None, Bool, true, false, refl, ap, sym, subst, inl, inr, ◌⊎◌, drop, length, arith}
use Rattle.std.specs.Prelude.{IfSome, find, if◌then◌else◌, nat_lt}
use Rattle.gate_model.specs.session.History.{History}
use Rattle.gate_model.specs.text.HelloMeaning.{Greeting, Selects, HasSize, Connects, SaysOther, greeting_of}
use Rattle.gate_model.specs.session.Refusals.{join_refusal}
use Rattle.gate_model.specs.declared.sharing.Asked.{Asked}
use Rattle.std.specs.Option.{option_map}
use Rattle.guac_handshake.specs.declared.ask.Ask.{Ask}
use Rattle.guac_handshake.specs.declared.greeted.Greeted.{Greeted}
use Rattle.guac_handshake.specs.declared.greeted.Greeted.TheVariants as greeted
use Rattle.guac_handshake.specs.declared.refused.Refused.{Refused}
use Rattle.guac_handshake.specs.declared.refused.Refused.TheVariants.{Absent, Conflict, Dial, Busy, Closed, Forbidden, TooMany, Worn, NoMemory}
use Rattle.guac_handshake.specs.declared.request.Request.{Request}
use Rattle.guac_handshake.specs.declared.request.Request.TheVariants.{Begin, Join}
use Rattle.guac_handshake.specs.declared.request.Selected.{Selected}
use Rattle.guac_handshake.specs.declared.request.Selected.TheVariants.{Telnet, Known}
use Rattle.guac_handshake.specs.declared.welcome.Welcome.{Welcome}
use Rattle.guac_handshake.specs.Asks.{Wish, Refuses, asks, asks_behind, asks_first, asks_selected, before_connect, begin_wish, beginning, connect_wish, connects_as, is_connect, join_wish, joining, last_size, most_between, selected_by, selected}
use Rattle.gate_outside.specs.Edge.{Rose}
use Rattle.guac_handshake.specs.Views.{DoorView, MayRefuse, Names}
use Rattle.guac_handshake.specs.Causes.{HasCause, IfRefused}
use Rattle.guac_handshake.specs.Doors.{AreTaken, HasConflict, HasRefused, IsBeginRefusal, IsJoinRefusal, RefusesAt, Sessions, at_name, refused_of}
use Rattle.guac_handshake.specs.Greetings.{Broken, ByDoor, ByForm, Ends, IsGreeting, OutOfForm, RefusedEarly, RefusedFor}
use Rattle.gate_model.specs.text.Statuses.{bad_request}
use Rattle.guac_handshake.specs.Statuses.{status_of}
use Rattle.guac_handshake.specs.Texts.{args_for}

-- the statuses of an unknown name and of a bad form are all that instructions are refused with
abbrev IsFormStatus : ℕ → Type 0
IsFormStatus s = (s ≡ 516) ⊎ (s ≡ 768)

refuses_begin : (o : Option Ask) (s : ℕ) → begin_wish o ≡ Refuses s → 768 ≡ s
refuses_begin None s e = cc
refuses_begin (Some ask) s e = cc

refuses_join : (id : List ℕ) (o : Option Asked) (s : ℕ) → join_wish id o ≡ Refuses s → 768 ≡ s
refuses_join id None s e = cc
refuses_join id (Some asked) s e = cc

refuses_connect : (chosen : Selected) (values : List (List ℕ)) (size : Option (ℕ × ℕ)) (s : ℕ) → connects_as chosen values size ≡ Refuses s → 768 ≡ s
refuses_connect Telnet values size s e = refuses_begin (beginning (drop 1 values) size) s e
refuses_connect (Known id) values size s e = refuses_join id (joining (drop 1 values)) s e

refuses_wish : (chosen : Selected) (o : Option (List (List ℕ))) (size : Option (ℕ × ℕ)) (s : ℕ) → connect_wish chosen o size ≡ Refuses s → 768 ≡ s
refuses_wish chosen None size s e = cc
refuses_wish chosen (Some values) size s e = refuses_connect chosen values size s e

refuses_many : (many : Bool) (wish : Wish) (s : ℕ) → (wish ≡ Refuses s → 768 ≡ s) → (if many then Refuses bad_request else wish) ≡ Refuses s → 768 ≡ s
refuses_many true wish s f e = cc
refuses_many false wish s f e = f e

refuses_behind : (chosen : Selected) (others : List (List (List ℕ))) (s : ℕ) → asks_behind chosen others ≡ Refuses s → 768 ≡ s
refuses_behind chosen others s e =
    refuses_many (nat_lt most_between (length (before_connect others))) (connect_wish chosen (find is_connect others) (last_size (before_connect others))) s
    (refuses_wish chosen (find is_connect others) (last_size (before_connect others)) s) e

refuses_selected : (o : Option Selected) (others : List (List (List ℕ))) (s : ℕ) → asks_selected o others ≡ Refuses s → IsFormStatus s
refuses_selected None others s e = inl (let same : 516 ≡ s = cc in sym same)
refuses_selected (Some chosen) others s e = inr (sym (refuses_behind chosen others s e))

refuses_first : (known : Bool) (g : Greeting) (others : List (List (List ℕ))) (s : ℕ) → asks_first known g others ≡ Refuses s → IsFormStatus s
refuses_first known (Selects name) others s e = refuses_selected (selected_by known name) others s e
refuses_first known (HasSize w h) others s e = inr (let same : 768 ≡ s = cc in sym same)
refuses_first known Connects others s e = inr (let same : 768 ≡ s = cc in sym same)
refuses_first known SaysOther others s e = inr (let same : 768 ≡ s = cc in sym same)

refuses : (known : Bool) (instructions : List (List (List ℕ))) (s : ℕ) → asks known instructions ≡ Refuses s → IsFormStatus s
refuses known [] s e = absurd (cc)
refuses known (first ∷ others) s e = refuses_first known (greeting_of first) others s e

early_status : (wish : Wish) (rest : List ℕ) (s : ℕ) → (wish ≡ Refuses s → IsFormStatus s) → RefusedEarly wish rest s → IsFormStatus s
early_status wish rest s f (OutOfForm e) = f e
early_status wish rest s f (Broken e is at) = inr is

-- another status is that of a refusal of the door
module _ (May : Request → Refused → Type 0) (wish : Wish) (rest : List ℕ) (s : ℕ) (p q : Option (List Request)) (other : IsFormStatus s → ⊥) (f : wish ≡ Refuses s → IsFormStatus s) where
  by_door : RefusedFor May wish rest s p q → (request : Request) × (refusal : Refused) × May request refusal × (s ≡ status_of refusal)
  by_door (ByForm early same) = absurd (other (early_status wish rest s f early))
  by_door (ByDoor request refusal wished may is asked) = (request, refusal, may, is)

conflict_status : (r : Refused) → status_of r ≡ 517 → r ≡ Conflict
conflict_status NoMemory e = absurd (omega arith)
conflict_status Busy e = absurd (omega arith)
conflict_status Absent e = absurd (omega arith)
conflict_status Conflict e = refl
conflict_status Dial e = absurd (omega arith)
conflict_status Closed e = absurd (omega arith)
conflict_status Worn e = absurd (omega arith)
conflict_status Forbidden e = absurd (omega arith)
conflict_status TooMany e = absurd (omega arith)

closed_status : (r : Refused) → status_of r ≡ 523 → (r ≡ Closed) ⊎ (r ≡ Worn)
closed_status NoMemory e = absurd (omega arith)
closed_status Busy e = absurd (omega arith)
closed_status Absent e = absurd (omega arith)
closed_status Conflict e = absurd (omega arith)
closed_status Dial e = absurd (omega arith)
closed_status Closed e = inl refl
closed_status Worn e = inr refl
closed_status Forbidden e = absurd (omega arith)
closed_status TooMany e = absurd (omega arith)

forbidden_status : (r : Refused) → status_of r ≡ 771 → r ≡ Forbidden
forbidden_status NoMemory e = absurd (omega arith)
forbidden_status Busy e = absurd (omega arith)
forbidden_status Absent e = absurd (omega arith)
forbidden_status Conflict e = absurd (omega arith)
forbidden_status Dial e = absurd (omega arith)
forbidden_status Closed e = absurd (omega arith)
forbidden_status Worn e = absurd (omega arith)
forbidden_status Forbidden e = refl
forbidden_status TooMany e = absurd (omega arith)

many_status : (r : Refused) → status_of r ≡ 797 → r ≡ TooMany
many_status NoMemory e = absurd (omega arith)
many_status Busy e = absurd (omega arith)
many_status Absent e = absurd (omega arith)
many_status Conflict e = absurd (omega arith)
many_status Dial e = absurd (omega arith)
many_status Closed e = absurd (omega arith)
many_status Worn e = absurd (omega arith)
many_status Forbidden e = absurd (omega arith)
many_status TooMany e = refl

-- a session that refused a joiner is there
there_at : (o : Option (Option History)) (role : Asked) (r : Refused) → (r ≡ Absent → ⊥) → (r ≡ NoMemory → ⊥) → RefusesAt o role r → (told : Option History) × (o ≡ Some told) × IfSome told (λ h. option_map refused_of (join_refusal h role) ≡ Some r)
there_at None role r na ns e = absurd (na e)
there_at (Some None) role r na ns is = (None, refl, tt)
there_at (Some (Some h)) role r na ns (inl e) = absurd (ns e.0)
there_at (Some (Some h)) role r na ns (inr e) = (Some h, refl, e)

has_refused : (id : Option (List ℕ)) (after : Option Sessions) (role : Asked) (r : Refused) → (r ≡ Absent → ⊥) → (r ≡ NoMemory → ⊥) → IfSome after (λ n. RefusesAt (at_name id n) role r) → HasRefused after r
has_refused id None role r na ns is = tt
has_refused None (Some n) role r na ns e = absurd (na e)
has_refused (Some id) (Some n) role r na ns is = let t = there_at (n id) role r na ns is in (id, t.0, role, t.1, t.2)

module _ (id_of : List ℕ → Option (List ℕ)) (before after : DoorView) where
  conflict_of : (request : Request) (r : Refused) → r ≡ Conflict → MayRefuse id_of before after request r → HasConflict before.sessions × AreTaken before.sessions before.helper.draws
  conflict_of (Begin ask) r is may = may.conflict is
  conflict_of (Join name role) r is may = absurd (subst IsJoinRefusal is may.0)

  refused_as : (request : Request) (r : Refused) → (IsBeginRefusal r → ⊥) → (r ≡ Absent → ⊥) → (r ≡ NoMemory → ⊥) → MayRefuse id_of before after request r → HasRefused after.sessions r
  refused_as (Begin ask) r nb na ns may = absurd (nb may.kind)
  refused_as (Join name role) r nb na ns may = has_refused (id_of name) after.sessions role r na ns may.2

  closed_of : (request : Request) (r : Refused) → r ≡ Closed → MayRefuse id_of before after request r → HasRefused after.sessions Closed
  closed_of request r is may = refused_as request Closed (λ x. x) (λ e. cc) (λ e. cc) (subst (MayRefuse id_of before after request) is may)

  worn_of : (request : Request) (r : Refused) → r ≡ Worn → MayRefuse id_of before after request r → HasRefused after.sessions Worn
  worn_of request r is may = refused_as request Worn (λ x. x) (λ e. cc) (λ e. cc) (subst (MayRefuse id_of before after request) is may)

  forbidden_of : (request : Request) (r : Refused) → r ≡ Forbidden → MayRefuse id_of before after request r → HasRefused after.sessions Forbidden
  forbidden_of request r is may = refused_as request Forbidden (λ x. x) (λ e. cc) (λ e. cc) (subst (MayRefuse id_of before after request) is may)

  many_of : (request : Request) (r : Refused) → r ≡ TooMany → MayRefuse id_of before after request r → HasRefused after.sessions TooMany
  many_of request r is may = refused_as request TooMany (λ x. x) (λ e. cc) (λ e. cc) (subst (MayRefuse id_of before after request) is may)

  module _ {P : Type 0} (gives : Request → Welcome P → Type 0) (a b w v : Option (List ℕ)) (rest : List ℕ) (result : Greeted P) (g : IsGreeting id_of gives before after a b w v rest result) where
    door_told : (s : ℕ) → (IsFormStatus s → ⊥) → result ≡ greeted.Refused s → (request : Request) × (refusal : Refused) × MayRefuse id_of before after request refusal × (s ≡ status_of refusal)
    door_told s other is =
        let ends = subst (λ (r : Greeted P). Ends (MayRefuse id_of before after) (Names id_of before after) gives (asks g.known g.instructions) (args_for (selected g.known g.instructions)) rest b w v before.asked after.asked r) is g.ends in
        by_door (MayRefuse id_of before after) (asks g.known g.instructions) rest s before.asked after.asked other (refuses g.known g.instructions s) ends.1

    not_form : (s : ℕ) → (s ≡ 516 → ⊥) → (s ≡ 768 → ⊥) → IsFormStatus s → ⊥
    not_form s n f (inl e) = n e
    not_form s n f (inr e) = f e

    told_conflict : result ≡ greeted.Refused 517 → HasConflict before.sessions × AreTaken before.sessions before.helper.draws
    told_conflict is = let d = door_told 517 (not_form 517 (λ e. absurd (omega arith)) (λ e. absurd (omega arith))) is in conflict_of d.0 d.1 (conflict_status d.1 (sym d.3)) d.2

    told_closed : result ≡ greeted.Refused 523 → HasRefused after.sessions Closed ⊎ HasRefused after.sessions Worn
    told_closed is =
        let d = door_told 523 (not_form 523 (λ e. absurd (omega arith)) (λ e. absurd (omega arith))) is in
        elim (closed_status d.1 (sym d.3)) [
          | inl e ↦ inl (closed_of d.0 d.1 e d.2)
          | inr e ↦ inr (worn_of d.0 d.1 e d.2)
        ]

    told_forbidden : result ≡ greeted.Refused 771 → HasRefused after.sessions Forbidden
    told_forbidden is = let d = door_told 771 (not_form 771 (λ e. absurd (omega arith)) (λ e. absurd (omega arith))) is in forbidden_of d.0 d.1 (forbidden_status d.1 (sym d.3)) d.2

    told_many : result ≡ greeted.Refused 797 → HasRefused after.sessions TooMany
    told_many is = let d = door_told 797 (not_form 797 (λ e. absurd (omega arith)) (λ e. absurd (omega arith))) is in many_of d.0 d.1 (many_status d.1 (sym d.3)) d.2

-- what stands behind the code of a refusal, by the greeting and the counts
pub caused : {P : Type 0} (id_of : List ℕ → Option (List ℕ)) (gives : Request → Welcome P → Type 0) (before after : DoorView) (a b w v : Option (List ℕ)) (rest : List ℕ) (result : Greeted P) → IsGreeting id_of gives before after a b w v rest result
    → (result ≡ greeted.Refused 519 → Rose before.helper.dial_faults after.helper.dial_faults) → (result ≡ greeted.Refused 513 → Rose before.helper.start_faults after.helper.start_faults) → IfRefused result (HasCause before after)
caused id_of gives before after a b w v rest (greeted.Ready welcome) g d s = tt
caused id_of gives before after a b w v rest (greeted.Refused code) g d s = record {
  dial = λ e. d (ap (λ (n : ℕ). greeted.Refused n) e);
  busy = λ e. s (ap (λ (n : ℕ). greeted.Refused n) e);
  conflict = λ e. told_conflict id_of before after gives a b w v rest (greeted.Refused code) g (ap (λ (n : ℕ). greeted.Refused n) e);
  closed = λ e. told_closed id_of before after gives a b w v rest (greeted.Refused code) g (ap (λ (n : ℕ). greeted.Refused n) e);
  forbidden = λ e. told_forbidden id_of before after gives a b w v rest (greeted.Refused code) g (ap (λ (n : ℕ). greeted.Refused n) e);
  too_many = λ e. told_many id_of before after gives a b w v rest (greeted.Refused code) g (ap (λ (n : ℕ). greeted.Refused n) e);
}
caused id_of gives before after a b w v rest greeted.Ended g d s = tt
caused id_of gives before after a b w v rest greeted.ReadFault g d s = tt
caused id_of gives before after a b w v rest greeted.WriteFault g d s = tt
caused id_of gives before after a b w v rest greeted.NoMemory g d s = tt
