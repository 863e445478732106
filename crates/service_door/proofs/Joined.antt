-- How a session's host lets a viewer join, and what its history tells of the answer.
use Rattle.std.proofs.Common.{◌≡◌, true, ℕ, List, [], ◌∷◌, ◌++◌, Option, Some, None, refl, ap, sym, ◌∙◌, subst}
use Rattle.std.specs.Prelude.{Ok, Err}
use Rattle.std.specs.Option.{option_map}
use Rattle.gate_model.specs.Sequences.{IsLater}
use Rattle.gate_model.specs.session.Calls.{Step}
use Rattle.gate_model.specs.session.History.{History}
use Rattle.gate_model.specs.session.Refusals.{join_refusal}
use Rattle.gate_model.specs.declared.answer.Answer.TheVariants.{Join as joined_as}
use Rattle.gate_model.specs.declared.entry.Entry.{Entry}
use Rattle.gate_model.specs.declared.entry.Entry.TheVariants.{Join}
use Rattle.gate_model.specs.declared.event.Event.TheVariants.{Join as join}
use Rattle.gate_model.specs.declared.join_refusal.JoinRefusal.{JoinRefusal}
use Rattle.gate_model.specs.declared.join_refusal.JoinRefusal.TheVariants.{Closed, Forbidden, TooMany, Worn, NoMemory}
use Rattle.gate_model.specs.declared.sharing.Asked.{Asked}
use Rattle.gate_model.specs.declared.sharing.Role.{Role}
use Rattle.turn_lock.specs.declared.view.View.{View}
use Rattle.guac_handshake.specs.Doors.{IsAbsent, MeetsTold, refused_of}
use Rattle.guac_handshake.specs.declared.refused.Refused.{Refused}
use Rattle.shared_desk.specs.Called.{Gives, Turned}
use Rattle.shared_desk.specs.Hosts.{HasJoined, HostState, JoinEnds}
use Rattle.shared_desk.specs.declared.place.Place.{Place}
use Rattle.service_door.specs.Begun.{HasJoinedLast}
use Rattle.service_door.proofs.Owned.{join_adds}

-- a turn finds a history after what was seen, and what is seen then begins with that
pub later_turn : (v w : View Entry) (did : History → List Entry → Type 0) → Turned v w did → IsLater v.seen w.seen
later_turn v w did t =
    (t.added ++ t.later.0, ap (λ (u : View Entry). u.seen) t.after ∙ (ap (λ (h : History). t.added ++ h) t.later.1 ∙ assoc t.added t.later.0 v.seen))
  where
    assoc : (xs ys zs : List Entry) → xs ++ (ys ++ zs) ≡ (xs ++ ys) ++ zs
    assoc [] ys zs = refl
    assoc (x ∷ xs) ys zs = ap (λ (es : List Entry). x ∷ es) (assoc xs ys zs)

-- ---- at Ok

pub joined_last : (v w : View Entry) (asked : Asked) (place : Place) (old new : HostState) (before after : List ℕ) → HasJoined v asked place w before after → new.view ≡ w → new.session ≡ old.session
    → (place.reader.session ≡ old.session) × (place.writer.session ≡ old.session) → HasJoinedLast asked place new
joined_last v w asked place old new before after j view session seats =
    let a = join_adds j.called.before asked j.answer j.called.added j.called.did_it.0 in
    let seen : w.seen ≡ Join j.answer.viewer j.answer.role a.first ∷ j.called.before =
    ap (λ (u : View Entry). u.seen) j.view ∙ (ap (λ (u : View Entry). u.seen) j.called.after ∙ ap (λ (es : List Entry). es ++ j.called.before) a.adds) in
    record {
      viewer = j.answer.viewer;
      first = a.first;
      before = j.called.before;
      seen = ap (λ (u : View Entry). u.seen) view ∙ (seen ∙ ap (λ (r : Role). Join j.answer.viewer r a.first ∷ j.called.before) (sym j.role));
      role = a.granted ∙ ap (λ (r : Role). Ok r) (sym j.role);
      seat = record {
        sessions = (seats.0 ∙ sym session, seats.1 ∙ sym session);
        viewers = (j.viewer, sym j.fresh.viewer ∙ j.viewer);
      };
    }

pub joined_later : (v w : View Entry) (asked : Asked) (place : Place) (before after : List ℕ) → HasJoined v asked place w before after → IsLater v.seen w.seen
joined_later v w asked place before after j =
    let l = later_turn v j.now _ j.called in (l.0, ap (λ (u : View Entry). u.seen) j.view ∙ l.1)

pub meets_joined : {A : Type 0} (v w : View Entry) (asked : Asked) (place : Place) (before after : List ℕ) (a : A) → HasJoined v asked place w before after → MeetsTold w.seen asked (Ok a)
meets_joined v w asked place before after a j =
    let adds = join_adds j.called.before asked j.answer j.called.added j.called.did_it.0 in (
      j.answer.viewer,
      j.answer.role,
      adds.first,
      j.called.before,
      ap (λ (u : View Entry). u.seen) j.view ∙ (ap (λ (u : View Entry). u.seen) j.called.after ∙ ap (λ (es : List Entry). es ++ j.called.before) adds.adds),
      adds.unstopped,
      adds.granted,
    )

-- ---- refused

-- a refusal adds nothing, and is the rule's
record IsRefused (g : History) (asked : Asked) (r : JoinRefusal) (added : List Entry) : Type 0 where
  none : added ≡ []
  rule : join_refusal g asked ≡ Some r

refused_rule : (o : Option JoinRefusal) (r : JoinRefusal) → option_map (λ x. joined_as (Err x)) o ≡ Some (joined_as (Err r)) → o ≡ Some r
refused_rule None r e = absurd (let w : None ≡ Some (joined_as (Err r)) = e in cc)
refused_rule (Some x) r e = let w : Some (joined_as (Err x)) ≡ Some (joined_as (Err r)) = e in cc

err_isnt : (r : JoinRefusal) (j : _) (P : Type 0) → joined_as (Err r) ≡ joined_as (Ok j) → P
err_isnt r j P e = absurd (let w : joined_as (Err r) ≡ joined_as (Ok j) = e in cc)

is_refused : (g : History) (asked : Asked) (r : JoinRefusal) (added : List Entry) → Step g (join asked) (joined_as (Err r)) added → IsRefused g asked r added
is_refused g asked r [] s = record { none = refl; rule = refused_rule (join_refusal g asked) r s.1 }
is_refused g asked r (e ∷ []) s = err_isnt r _ (IsRefused g asked r (e ∷ [])) s.1.1.4
is_refused g asked r (e ∷ f ∷ es) s = absurd s.1

ruled : (v w : View Entry) (asked : Asked) (r : JoinRefusal) (before after : List ℕ) → Gives v (join asked) (Ok (joined_as (Err r))) w before after → join_refusal w.seen asked ≡ Some r
ruled v w asked r before after t =
    let i = is_refused t.before asked r t.added t.did_it.0 in
    ap (λ (h : History). join_refusal h asked) (ap (λ (u : View Entry). u.seen) t.after ∙ ap (λ (es : List Entry). es ++ t.before) i.none) ∙ i.rule

told_rule : (w : View Entry) (asked : Asked) (r : JoinRefusal) → join_refusal w.seen asked ≡ Some r → option_map refused_of (join_refusal w.seen asked) ≡ Some (refused_of r)
told_rule w asked r is = ap (λ (o : Option JoinRefusal). option_map refused_of o) is

-- want of memory is told where the rules refuse nothing
unrefused : (v w : View Entry) (asked : Asked) (before after : List ℕ) → JoinEnds v asked (Err NoMemory) w before after → join_refusal w.seen asked ≡ None
unrefused v w asked before after t =
    ap (λ (h : History). join_refusal h asked) (ap (λ (u : View Entry). u.seen) t.after ∙ ap (λ (es : List Entry). es ++ t.before) t.did_it.1) ∙ none (join_refusal t.before asked) t.did_it.0
  where
    none : (o : Option JoinRefusal) → option_map (λ x. joined_as (Err x)) o ≡ None → o ≡ None
    none None e = refl
    none (Some x) e = absurd (let w : Some (joined_as (Err x)) ≡ None = e in cc)

pub meets_refused : (A : Type 0) (v w : View Entry) (asked : Asked) (r : JoinRefusal) (before after : List ℕ) → JoinEnds v asked (Err r) w before after → MeetsTold {A = A} w.seen asked (Err (refused_of r))
meets_refused A v w asked (Closed c) before after e = told_rule w asked (Closed c) (ruled v w asked (Closed c) before after e)
meets_refused A v w asked Forbidden before after e = told_rule w asked Forbidden (ruled v w asked Forbidden before after e)
meets_refused A v w asked (TooMany l j) before after e = told_rule w asked (TooMany l j) (ruled v w asked (TooMany l j) before after e)
meets_refused A v w asked (Worn n) before after e = told_rule w asked (Worn n) (ruled v w asked (Worn n) before after e)
meets_refused A v w asked NoMemory before after e = unrefused v w asked before after e

pub refused_later : (v w : View Entry) (asked : Asked) (r : JoinRefusal) (before after : List ℕ) → JoinEnds v asked (Err r) w before after → IsLater v.seen w.seen
refused_later v w asked r before after e = later_turn v w _ e

-- .. of the door's refusal for it
pub meets_refusal : (A : Type 0) (v w : View Entry) (asked : Asked) (r : JoinRefusal) (x : Refused) (before after : List ℕ) → x ≡ refused_of r → JoinEnds v asked (Err r) w before after → MeetsTold {A = A} w.seen asked (Err x)
meets_refusal A v w asked r x before after is e = subst (λ (y : Refused). MeetsTold {A = A} w.seen asked (Err y)) (sym is) (meets_refused A v w asked r before after e)

there : (A : Type 0) (r : JoinRefusal) → IsAbsent {A = A} (Err (refused_of r)) true
there A (Closed c) = refl
there A Forbidden = refl
there A (TooMany l j) = refl
there A (Worn n) = refl
there A NoMemory = refl

pub refusal_there : (A : Type 0) (r : JoinRefusal) (x : Refused) → x ≡ refused_of r → IsAbsent {A = A} (Err x) true
refusal_there A r x is = subst (λ (y : Refused). IsAbsent {A = A} (Err y) true) (sym is) (there A r)
