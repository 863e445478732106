-- The sessions that a greeting touches.
use Rattle.std.proofs.Common.{◌≡◌, ◌≢◌, ℕ, List, Option, Some, None, Ok, Err, Bool, true, false, refl, ap, sym, ◌∙◌, subst, inl, inr, arith}
use Rattle.std.specs.Prelude.{Result, IfErr, IfOk, IfSome, IsSome, is_some}
use Rattle.gate_model.specs.session.History.{History}
use Rattle.gate_model.specs.declared.sharing.Asked.{Asked}
use Rattle.gate_outside.specs.Helpers.{CountsFaults}
use Rattle.id_table.specs.Maps.{Same, Told}
use Rattle.guac_handshake.specs.declared.greeted.Greeted.{Greeted}
use Rattle.guac_handshake.specs.declared.greeted.Greeted.TheVariants as greeted
use Rattle.guac_handshake.specs.declared.refused.Refused.{Refused}
use Rattle.guac_handshake.specs.declared.refused.Refused.TheVariants.{Absent, Conflict, Dial, Busy, Closed, Forbidden, TooMany, Worn, NoMemory}
use Rattle.guac_handshake.specs.declared.request.Request.{Request}
use Rattle.guac_handshake.specs.declared.request.Request.TheVariants.{Begin, Join}
use Rattle.guac_handshake.specs.declared.welcome.Welcome.{Welcome}
use Rattle.guac_handshake.specs.Doors.{AddedBy, AddedOne, AreTaken, Grants, IsAbsent, IsBeginRefusal, IsBusy, IsDial, IsJoinRefusal, JoinRefuses, KeepsIds, MeetsConflict, MeetsHistory, MeetsTold, PlacesIn, RefusesAt, SameId, Sessions, TellsConflict, TouchesOne, at_name}
use Rattle.guac_handshake.specs.Views.{DoorView, IsLetIn, MayRefuse, Names}
use Rattle.guac_handshake.specs.Greetings.{HasAnswered, HasTouched, IsToldError, IsToldReady}
use Rattle.guac_handshake.specs.Opening.{HasMoved}
use Rattle.gate_model.specs.text.Statuses.{bad_request}
use Rattle.guac_handshake.specs.Statuses.{status_of}
use Rattle.guac_handshake.specs.declared.ask.Ask.{Ask}
use Rattle.guac_handshake.specs.declared.form_refusal.FormRefusal.{FormRefusal}
use Rattle.guac_handshake.specs.declared.form_refusal.FormRefusal.TheVariants as form

-- what is told of the sessions before and after, and what follows from it
told_as : (o p : Option Sessions) (P Q : Sessions → Sessions → Type 0) → ((m n : Sessions) → P m n → Q m n) → Told o p P → Told o p Q
told_as None None P Q f t = tt
told_as None (Some n) P Q f t = absurd t
told_as (Some m) None P Q f t = absurd t
told_as (Some m) (Some n) P Q f t = f m n t

pub told_on : (o p q : Option Sessions) (P Q R : Sessions → Sessions → Type 0) → ((m n l : Sessions) → P m n → Q n l → R m l) → Told o p P → Told p q Q → Told o q R
told_on None None None P Q R f t u = tt
told_on None None (Some l) P Q R f t u = absurd u
told_on None (Some n) q P Q R f t u = absurd t
told_on (Some m) None q P Q R f t u = absurd t
told_on (Some m) (Some n) None P Q R f t u = absurd u
told_on (Some m) (Some n) (Some l) P Q R f t u = f m n l t u

-- the same IDs are there
same_id : {V : Type 0} (a b : Option V) → b ≡ a → SameId a b
same_id None None e = tt
same_id None (Some w) e = cc
same_id (Some v) None e = cc
same_id (Some v) (Some w) e = tt

pub id_on : {V : Type 0} (a b c : Option V) → SameId a b → SameId b c → SameId a c
id_on None None None h k = tt
id_on None None (Some w) h k = absurd k
id_on None (Some v) c h k = absurd h
id_on (Some u) None c h k = absurd h
id_on (Some u) (Some v) None h k = absurd k
id_on (Some u) (Some v) (Some w) h k = tt

some_on : {V : Type 0} (a b : Option V) → SameId a b → IsSome a → IsSome b
some_on None None h is = is
some_on None (Some w) h is = absurd h
some_on (Some v) None h is = absurd h
some_on (Some v) (Some w) h is = refl

is_same : {V : Type 0} (a b : Option V) → SameId a b → is_some b ≡ is_some a
is_same None None h = refl
is_same None (Some w) h = absurd h
is_same (Some v) None h = absurd h
is_same (Some v) (Some w) h = refl

kept_same : (name : Option (List ℕ)) (m n : Sessions) → Same m n → KeepsIds name m n
kept_same name m n same = λ k. (same_id (m k) (n k) (same k), λ ne. same k)

kept_on : (name : Option (List ℕ)) (m n l : Sessions) → KeepsIds name m n → KeepsIds name n l → KeepsIds name m l
kept_on name m n l h k = λ id. (id_on (m id) (n id) (l id) (h id).0 (k id).0, λ ne. (k id).1 ne ∙ (h id).1 ne)

kept_after : (name : Option (List ℕ)) (m n l : Sessions) → Same m n → KeepsIds name n l → KeepsIds name m l
kept_after name m n l h k = kept_on name m n l (kept_same name m n h) k

some_other : (name : Option (List ℕ)) (id k : List ℕ) → name ≡ Some id → k ≢ id → name ≢ Some k
some_other name id k is ne = λ e. ne (let same : Some k ≡ Some id = sym e ∙ is in cc)

-- a session that was added, or whose history alone may be another, is touched once more
added_on : (name : Option (List ℕ)) (m n l : Sessions) → AddedOne name m n → KeepsIds name n l → AddedOne name m l
added_on name m n l a k = (a.0, a.1, a.2, some_on (n a.0) (l a.0) (k a.0).0 a.3, λ id ne. (k id).1 (some_other name a.0 id a.1 ne) ∙ a.4 id ne)

touched_on : (name : Option (List ℕ)) (m n l : Sessions) → TouchesOne name m n → KeepsIds name n l → TouchesOne name m l
touched_on name m n l (inl a) k = inl (added_on name m n l a k)
touched_on name m n l (inr h) k = inr (kept_on name m n l h k)

touched_after : (name : Option (List ℕ)) (m n l : Sessions) → Same m n → TouchesOne name n l → TouchesOne name m l
touched_after name m n l same (inl a) = inl (a.0, a.1, sym (same a.0) ∙ a.2, a.3, λ id ne. a.4 id ne ∙ same id)
touched_after name m n l same (inr k) = inr (kept_after name m n l same k)

-- where a place was given in it, it is touched
places_so : (request : Request) (name : Option (List ℕ)) (m n : Sessions) → PlacesIn request name m n → TouchesOne name m n
places_so (Begin ask) name m n h = inl h
places_so (Join asked role) name m n h = inr h

-- no refusal of a door is told as a bad form
not_bad : (r : Refused) → status_of r ≡ bad_request → ⊥
not_bad NoMemory e = absurd (omega arith)
not_bad Busy e = absurd (omega arith)
not_bad Absent e = absurd (omega arith)
not_bad Conflict e = absurd (omega arith)
not_bad Dial e = absurd (omega arith)
not_bad Closed e = absurd (omega arith)
not_bad Worn e = absurd (omega arith)
not_bad Forbidden e = absurd (omega arith)
not_bad TooMany e = absurd (omega arith)

-- a door that isn't called
pub told_kept : (name : Option (List ℕ)) (o : Option Sessions) → Told o o (KeepsIds name)
told_kept name None = tt
told_kept name (Some m) = kept_same name m m (λ k. refl)

-- a door that wasn't asked
pub touched_none : (o p : Option Sessions) → Told o p Same → Told o p (λ m n. (name : Option (List ℕ)) × TouchesOne name m n)
touched_none o p same = told_as o p Same (λ m n. (name : Option (List ℕ)) × TouchesOne name m n) (λ m n h. (None, inr (kept_same None m n h))) same

module _ {P : Type 0} (id_of : List ℕ → Option (List ℕ)) (o p : Option Sessions) where
  -- an answer to one that asks for a session that is to begin, and to a joiner
  pub begin_answered : (request : Request) (ask : Ask) (result : Result (Welcome P) Refused) → request ≡ Begin ask → Told o p (AddedBy (λ (welcome : Welcome P). id_of welcome.id) result) → Told o p (HasAnswered id_of request result)
  begin_answered request ask (Ok welcome) is added = subst (λ (q : Request). Told o p (HasAnswered id_of q (Ok welcome))) (sym is) added
  begin_answered request ask (Err refusal) is same = told_as o p Same (HasAnswered {P = P} id_of request (Err refusal)) (λ m n h. (None, kept_same None m n h)) same

  pub join_answered : (request : Request) (asked : List ℕ) (role : Asked) (name : Option (List ℕ)) (result : Result (Welcome P) Refused) → request ≡ Join asked role → IfOk result (λ welcome. id_of welcome.id ≡ name) → Told o p (KeepsIds name) → Told o p (HasAnswered id_of request result)
  join_answered request asked role name (Ok welcome) is same kept =
      subst (λ (q : Request). Told o p (HasAnswered id_of q (Ok welcome))) (sym is) (subst (λ (x : Option (List ℕ)). Told o p (KeepsIds x)) (sym same) kept)
  join_answered request asked role name (Err refusal) is same kept = told_as o p (KeepsIds name) (HasAnswered {P = P} id_of request (Err refusal)) (λ m n h. (name, h)) kept

  -- a place of a form
  pub moved_ok : (request : Request) (welcome : Welcome P) → Told o p (HasAnswered id_of request (Ok welcome)) → Told o p (HasMoved id_of (Ok welcome))
  moved_ok request welcome = told_as o p (HasAnswered id_of request (Ok welcome)) (HasMoved id_of (Ok welcome)) (λ m n h. places_so request (id_of welcome.id) m n h)

  module _ (w v : Option (List ℕ)) where
    -- the client was told of a refusal, before the door was asked and after
    pub touched_early : (status : ℕ) (result : Greeted P) → Told o p Same → IsToldError status w v result → Told o p (HasTouched id_of result)
    touched_early status (greeted.Ready welcome) same t = absurd t
    touched_early status (greeted.Refused told) same t = told_as o p Same (HasTouched {P = P} id_of (greeted.Refused told)) (λ m n h. ((None, kept_same None m n h), λ e. h)) same
    touched_early status greeted.Ended same t = absurd t
    touched_early status greeted.ReadFault same t = absurd t
    touched_early status greeted.WriteFault same t = touched_none o p same
    touched_early status greeted.NoMemory same t = touched_none o p same

    pub touched_refused : (request : Request) (status : ℕ) (refusal : Refused) (result : Greeted P) → status ≡ status_of refusal → Told o p (HasAnswered {P = P} id_of request (Err refusal)) → IsToldError status w v result → Told o p (HasTouched id_of result)
    touched_refused request status refusal (greeted.Ready welcome) is a t = absurd t
    touched_refused request status refusal (greeted.Refused told) is a t = told_as o p (HasAnswered {P = P} id_of request (Err refusal)) (HasTouched {P = P} id_of (greeted.Refused told)) (λ m n h. (h, λ e. absurd (not_bad refusal (sym is ∙ (sym t.0 ∙ e))))) a
    touched_refused request status refusal greeted.Ended is a t = absurd t
    touched_refused request status refusal greeted.ReadFault is a t = absurd t
    touched_refused request status refusal greeted.WriteFault is a t = told_as o p (HasAnswered {P = P} id_of request (Err refusal)) (HasTouched {P = P} id_of greeted.WriteFault) (λ m n h. (h.0, inr h.1)) a
    touched_refused request status refusal greeted.NoMemory is a t = told_as o p (HasAnswered {P = P} id_of request (Err refusal)) (HasTouched {P = P} id_of greeted.NoMemory) (λ m n h. (h.0, inr h.1)) a

  module _ (q : Option Sessions) where
    -- the client was told of its session, or the place went back there
    pub touched_ready : (request : Request) (w v : Option (List ℕ)) (told : Welcome P) (result : Greeted P) → Told o p (HasAnswered id_of request (Ok told)) → Told p q (KeepsIds (id_of told.id)) → IsToldReady told w v result → Told o q (HasTouched id_of result)
    touched_ready request w v told (greeted.Ready welcome) a k t =
        told_on o p q (PlacesIn request (id_of told.id)) (KeepsIds (id_of told.id)) (HasTouched id_of (greeted.Ready welcome))
        (λ m n l h g. subst (λ (x : Welcome P). TouchesOne (id_of x.id) m l) (sym t.0) (touched_on (id_of told.id) m n l (places_so request (id_of told.id) m n h) g)) a k
    touched_ready request w v told (greeted.Refused status) a k t = absurd t
    touched_ready request w v told greeted.Ended a k t = absurd t
    touched_ready request w v told greeted.ReadFault a k t = absurd t
    touched_ready request w v told greeted.WriteFault a k t = told_on o p q (PlacesIn request (id_of told.id)) (KeepsIds (id_of told.id)) (HasTouched {P = P} id_of greeted.WriteFault) (λ m n l h g. (id_of told.id, touched_on (id_of told.id) m n l (places_so request (id_of told.id) m n h) g)) a k
    touched_ready request w v told greeted.NoMemory a k t = told_on o p q (PlacesIn request (id_of told.id)) (KeepsIds (id_of told.id)) (HasTouched {P = P} id_of greeted.NoMemory) (λ m n l h g. (id_of told.id, touched_on (id_of told.id) m n l (places_so request (id_of told.id) m n h) g)) a k

    -- the door was only looked at before
    pub touched_behind : (result : Greeted P) → Told o p Same → Told p q (HasTouched id_of result) → Told o q (HasTouched id_of result)
    touched_behind (greeted.Ready welcome) s t = told_on o p q Same (HasTouched id_of (greeted.Ready welcome)) (HasTouched id_of (greeted.Ready welcome)) (λ m n l h g. touched_after (id_of welcome.id) m n l h g) s t
    touched_behind (greeted.Refused status) s t = told_on o p q Same (HasTouched {P = P} id_of (greeted.Refused status)) (HasTouched {P = P} id_of (greeted.Refused status)) (λ m n l h g. ((g.0.0, kept_after g.0.0 m n l h g.0.1), λ e k. g.1 e k ∙ h k)) s t
    touched_behind greeted.Ended s t = told_on o p q Same (HasTouched {P = P} id_of greeted.Ended) (HasTouched {P = P} id_of greeted.Ended) (λ m n l h g. λ k. g k ∙ h k) s t
    touched_behind greeted.ReadFault s t = told_on o p q Same (HasTouched {P = P} id_of greeted.ReadFault) (HasTouched {P = P} id_of greeted.ReadFault) (λ m n l h g. λ k. g k ∙ h k) s t
    touched_behind greeted.WriteFault s t = told_on o p q Same (HasTouched {P = P} id_of greeted.WriteFault) (HasTouched {P = P} id_of greeted.WriteFault) (λ m n l h g. (g.0, touched_after g.0 m n l h g.1)) s t
    touched_behind greeted.NoMemory s t = told_on o p q Same (HasTouched {P = P} id_of greeted.NoMemory) (HasTouched {P = P} id_of greeted.NoMemory) (λ m n l h g. (g.0, touched_after g.0 m n l h g.1)) s t

-- what a door refuses to a joiner, by its sessions before and after
absent_as : (A : Type 0) (r : Refused) (there : Bool) → IsAbsent {A = A} (Err r) there → IsAbsent {A = Unit {0}} (Err r) there
absent_as A Absent there h = h
absent_as A Conflict there h = h
absent_as A Dial there h = h
absent_as A Busy there h = h
absent_as A Closed there h = h
absent_as A Forbidden there h = h
absent_as A TooMany there h = h
absent_as A Worn there h = h
absent_as A NoMemory there h = h

-- where no session is there, and where its history is told
at_none : (A : Type 0) (role : Asked) (r : Refused) → IsAbsent {A = A} (Err r) false → RefusesAt None role r
at_none A role Absent h = refl
at_none A role Conflict h = cc
at_none A role Dial h = cc
at_none A role Busy h = cc
at_none A role Closed h = cc
at_none A role Forbidden h = cc
at_none A role TooMany h = cc
at_none A role Worn h = cc
at_none A role NoMemory h = cc

at_told : (A : Type 0) (h : History) (role : Asked) (r : Refused) → IsJoinRefusal r → IsAbsent {A = A} (Err r) true → MeetsTold {A = A} h role (Err r) → RefusesAt (Some (Some h)) role r
at_told A h role Absent is a m = cc
at_told A h role Conflict is a m = absurd is
at_told A h role Dial is a m = absurd is
at_told A h role Busy is a m = absurd is
at_told A h role Closed is a m = inr m
at_told A h role Forbidden is a m = inr m
at_told A h role TooMany is a m = inr m
at_told A h role Worn is a m = inr m
at_told A h role NoMemory is a m = inl (refl, m)

refuses_at : (A : Type 0) (o : Option (Option History)) (role : Asked) (r : Refused) → IsJoinRefusal r → IsAbsent {A = A} (Err r) (is_some o) → MeetsHistory {A = A} o role (Err r) → RefusesAt o role r
refuses_at A None role r is a m = at_none A role r a
refuses_at A (Some None) role r is a m = tt
refuses_at A (Some (Some h)) role r is a m = at_told A h role r is a m

there_on : (name : Option (List ℕ)) (m n : Sessions) → KeepsIds name m n → is_some (at_name name n) ≡ is_some (at_name name m)
there_on None m n k = refl
there_on (Some id) m n k = is_same (m id) (n id) (k id).0

pub join_refuses : {A : Type 0} (name : Option (List ℕ)) (o p : Option Sessions) (role : Asked) (result : Result A Refused) → IfErr result IsJoinRefusal → Told o p (λ m n. IsAbsent result (is_some (at_name name m))) → Told o p (KeepsIds name) → IfSome p (λ n. MeetsHistory (at_name name n) role result) → IfErr result (JoinRefuses name o p role)
join_refuses name o p role (Ok a) is absent kept meets = tt
join_refuses name None None role (Err r) is absent kept meets = (is, tt, tt)
join_refuses name None (Some n) role (Err r) is absent kept meets = absurd absent
join_refuses name (Some m) None role (Err r) is absent kept meets = absurd absent
join_refuses {A = A} name (Some m) (Some n) role (Err r) is absent kept meets =
    (is, absent_as A r (is_some (at_name name m)) absent, refuses_at A (at_name name n) role r is (subst (λ (b : Bool). IsAbsent {A = A} (Err r) b) (sym (there_on name m n kept)) absent) meets)

-- the same of what the door was asked
pub join_may : {A : Type 0} (id_of : List ℕ → Option (List ℕ)) (before after : DoorView) (request : Request) (id name : List ℕ) (role : Asked) (result : Result A Refused) → request ≡ Join id role → name ≡ id → IfErr result (JoinRefuses (id_of name) before.sessions after.sessions role) → IfErr result (MayRefuse id_of before after request)
join_may id_of before after request id name role result is same h =
    subst (λ (q : Request). IfErr result (MayRefuse id_of before after q)) (sym is) (subst (λ (n : List ℕ). IfErr result (JoinRefuses (id_of n) before.sessions after.sessions role)) same h)

-- the same of a session that is to begin
taken_of : (A : Type 0) (o : Option Sessions) (draws : Option (ℕ → List ℕ)) → TellsConflict {A = A} o draws (Err Conflict) → AreTaken o draws
taken_of A None draws h = tt
taken_of A (Some m) None h = tt
taken_of A (Some m) (Some d) h = h

pub begin_may : {A : Type 0} (id_of : List ℕ → Option (List ℕ)) (before after : DoorView) (request : Request) (ask : Ask) (result : Result A Refused) → request ≡ Begin ask → IfErr result IsBeginRefusal → MeetsConflict before.sessions before.helper.draws result
    → CountsFaults (IsDial result) (IsBusy result) before.helper after.helper → IfErr result (MayRefuse id_of before after request)
begin_may id_of before after request ask (Ok a) is kind meets faults = tt
begin_may {A = A} id_of before after request ask (Err r) is kind meets faults =
    subst (λ (q : Request). MayRefuse id_of before after q r) (sym is) record {
      kind = kind;
      dial = λ e. faults.dials.0 (ap (λ (x : Refused). Err x) e);
      busy = λ e. faults.starts.0 (ap (λ (x : Refused). Err x) e);
      conflict = λ e. let h = subst (λ (x : Refused). MeetsConflict {A = A} before.sessions before.helper.draws (Err x)) e meets in (h.0 refl, taken_of A before.sessions before.helper.draws h.1);
    }

-- ---- what a door says of itself once it gave a welcome

pub begin_granted : {P : Type 0} (begun : Ask → Welcome P → Type 0) (joined : Asked → Welcome P → Type 0) (request : Request) (ask : Ask) (result : Result (Welcome P) Refused) → request ≡ Begin ask → IfOk result (λ welcome. begun ask welcome) → IfOk result (λ welcome. Grants begun joined request welcome)
begin_granted begun joined request ask (Ok welcome) is h = subst (λ (q : Request). Grants begun joined q welcome) (sym is) h
begin_granted begun joined request ask (Err refused) is h = tt

pub join_granted : {P : Type 0} (id_of : List ℕ → Option (List ℕ)) (begun : Ask → Welcome P → Type 0) (joined : Asked → Welcome P → Type 0) (request : Request) (id name : List ℕ) (role : Asked) (is_fresh : P → List ℕ → Type 0) (result : Result (Welcome P) Refused) → request ≡ Join id role
    → IfOk result (IsLetIn is_fresh id_of name (joined role)) → IfOk result (λ welcome. Grants begun joined request welcome)
join_granted id_of begun joined request id name role is_fresh (Ok welcome) is h = subst (λ (q : Request). Grants begun joined q welcome) (sym is) h.joined
join_granted id_of begun joined request id name role is_fresh (Err refused) is h = tt

-- of what is said of a welcome, that its ID is that of the name
pub named : {P : Type 0} (is_fresh : P → List ℕ → Type 0) (id_of : List ℕ → Option (List ℕ)) (name : List ℕ) (says : Welcome P → Type 0) (result : Result (Welcome P) Refused) → IfOk result (IsLetIn is_fresh id_of name says) → IfOk result (λ welcome. id_of welcome.id ≡ id_of name)
named is_fresh id_of name says (Ok welcome) h = h.same_id
named is_fresh id_of name says (Err refused) h = tt

-- the ID of a welcome names what was asked
pub begin_named : {P : Type 0} (id_of : List ℕ → Option (List ℕ)) (before after : DoorView) (request : Request) (ask : Ask) (result : Result (Welcome P) Refused) → request ≡ Begin ask → Told before.sessions after.sessions (AddedBy (λ (welcome : Welcome P). id_of welcome.id) result) → IfOk result (λ welcome. Names id_of before after request welcome.id)
begin_named id_of before after request ask (Ok welcome) is added = subst (λ (q : Request). Names id_of before after q welcome.id) (sym is) added
begin_named id_of before after request ask (Err refused) is added = tt

pub join_named : {P : Type 0} (id_of : List ℕ → Option (List ℕ)) (before after : DoorView) (request : Request) (id name : List ℕ) (role : Asked) (is_fresh : P → List ℕ → Type 0) (says : Welcome P → Type 0) (result : Result (Welcome P) Refused) → request ≡ Join id role → name ≡ id
    → IfOk result (IsLetIn is_fresh id_of name says) → IfOk result (λ welcome. Names id_of before after request welcome.id)
join_named id_of before after request id name role is_fresh says (Ok welcome) is same h = subst (λ (q : Request). Names id_of before after q welcome.id) (sym is) (h.same_id ∙ ap id_of same)
join_named id_of before after request id name role is_fresh says (Err refused) is same h = tt

-- it does so once the place went back, too
pub named_on : (id_of : List ℕ → Option (List ℕ)) (before mid after : DoorView) (request : Request) (id : List ℕ) → Told mid.sessions after.sessions (KeepsIds (id_of id)) → Names id_of before mid request id → Names id_of before after request id
named_on id_of before mid after (Begin ask) id kept h = told_on before.sessions mid.sessions after.sessions (AddedOne (id_of id)) (KeepsIds (id_of id)) (AddedOne (id_of id)) (λ m n l a k. added_on (id_of id) m n l a k) h kept
named_on id_of before mid after (Join name role) id kept h = h

-- ---- a form

-- the door wasn't asked
pub moved_none : (P : Type 0) (id_of : List ℕ → Option (List ℕ)) (o p : Option Sessions) (r : FormRefusal) → Told o p Same → Told o p (HasMoved {P = P} id_of (Err r))
moved_none P id_of o p form.Form same = same
moved_none P id_of o p form.NoMemory same = same
moved_none P id_of o p (form.Door refused) same = told_as o p Same (HasMoved {P = P} id_of (Err (form.Door refused))) (λ m n h. (None, kept_same None m n h)) same
