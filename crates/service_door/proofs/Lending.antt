-- What a table is after a session was lent and put back.
use Rattle.std.proofs.Common.{◌≡◌, ℕ, List, Bool, true, false, Option, Some, None, refl, ap, sym, ◌∙◌, subst}
use Rattle.std.specs.Prelude.{IfOk, IfSome, is_some, Result, Ok, Err}
use Rattle.gate_model.specs.session.History.{History}
use Rattle.gate_model.specs.declared.sharing.Asked.{Asked}
use Rattle.id_table.specs.Maps.{Changed, IsLent, Same, Told, had, lent_as}
use Rattle.guac_handshake.specs.Doors.{IsAbsent, KeepsIds, MeetsHistory, MeetsTold, SameId, at_name, logged, one_more_out}
use Rattle.guac_handshake.specs.Names.{id_of_name}
use Rattle.guac_handshake.specs.Views.{IsLetIn}
use Rattle.guac_handshake.specs.declared.refused.Refused.{Refused}
use Rattle.guac_handshake.specs.declared.refused.Refused.TheVariants.{Absent, Conflict, Dial, Busy, Closed, Forbidden, TooMany, Worn, NoMemory}
use Rattle.guac_handshake.specs.declared.request.Request.{Request}
use Rattle.guac_handshake.specs.declared.welcome.Welcome.{Welcome}
use Rattle.shared_desk.specs.declared.place.Place.{Place}
use Rattle.service_door.specs.Sessions.{NoneLent, SessionState, histories, history_of, sessions_of}
use Rattle.service_door.specs.Begun.{IsJoined}
use Rattle.service_door.specs.Doors.{Both, JoinLeaves, OthersStay, Table}
use Rattle.guac_handshake.proofs.Undone.{by_id}
use Rattle.service_door.proofs.Tables.{after_call, after_so, changed_unlent, none_some, same_some, sessions_so, told_same, told_so, told_then}
use Rattle.service_door.proofs.Adding.{some_lent}

-- a session is lent, or none is there
abbrev pub Lends : List ℕ → Option SessionState → Table → Table → Type 0
Lends id r m n = (m id ≡ had r) × Changed id (lent_as r) m n

-- the session under the ID was changed, and nothing else
abbrev pub Swaps : List ℕ → SessionState → SessionState → Table → Table → Type 0
Swaps id s t m n = (m id ≡ Some (Some s)) × Changed id (Some (Some t)) m n

-- none was there, and nothing changed
abbrev pub Misses : List ℕ → Table → Table → Type 0
Misses id m n = (m id ≡ None) × Same m n

pub lent : (r s : Option Table) (id : List ℕ) (v : SessionState) → Told r s (Lends id (Some v)) → IfSome s (IsLent id)
lent None None id v t = tt
lent None (Some n) id v t = absurd t
lent (Some m) None id v t = absurd t
lent (Some m) (Some n) id v t = t.1.0

pub swaps : (r s t : Option Table) (id : List ℕ) (v w : SessionState) → Told r s (Lends id (Some v)) → Told s t (Changed id (Some (Some w))) → Told r t (Swaps id v w)
swaps r s t id v w lend back = told_then r s t (Lends id (Some v)) (Changed id (Some (Some w))) (Swaps id v w) (λ k m n p q. (p.0, (q.0, λ x ne. q.1 x ne ∙ p.1.1 x ne))) lend back

pub misses : (r s : Option Table) (id : List ℕ) → Told r s (Lends id None) → Told r s (Misses id)
misses r s id t = told_so r s (Lends id None) (Misses id) (λ m n p. (p.0, λ k. by_id k id (n k ≡ m k) (λ e. ap n e ∙ (p.1.0 ∙ (sym p.0 ∙ ap m (sym e)))) (λ ne. p.1.1 k ne))) t

pub swap_unlent : (r t : Option Table) (id : List ℕ) (v w : SessionState) → NoneLent r → Told r t (Swaps id v w) → NoneLent t
swap_unlent r t id v w h s = after_call r t (Swaps id v w) (λ m n free p. changed_unlent id (Some (Some w)) m n free (some_lent w) p.1) h s

pub miss_unlent : (r t : Option Table) (id : List ℕ) → NoneLent r → Told r t (Misses id) → NoneLent t
miss_unlent r t id h s = after_call r t (Misses id) (λ m n free p k lent. free k (sym (p.1 k) ∙ lent)) h s

-- ---- the IDs

same_id : {V : Type 0} (o p : Option V) → is_some o ≡ is_some p → SameId o p
same_id None None e = tt
same_id None (Some w) e = absurd (let w : false ≡ true = e in cc)
same_id (Some v) None e = absurd (let w : true ≡ false = e in cc)
same_id (Some v) (Some w) e = tt

keeps_swap : (name : Option (List ℕ)) (id : List ℕ) (v w : SessionState) → name ≡ Some id → (m n : Table) → Swaps id v w m n → KeepsIds name (histories m) (histories n)
keeps_swap name id v w is m n p = λ k. (
  by_id k id (SameId (histories m k) (histories n k))
      (λ e. same_id (histories m k) (histories n k) (ap (λ (x : List ℕ). is_some (histories m x)) e ∙ (ap (λ (o : Option (Option SessionState)). is_some (history_of o)) p.0 ∙ (sym (ap (λ (o : Option (Option SessionState)). is_some (history_of o)) p.1.0) ∙ ap (λ (x : List ℕ). is_some (histories n x)) (sym e)))))
      (λ ne. same_id (histories m k) (histories n k) (ap (λ (o : Option (Option SessionState)). is_some (history_of o)) (sym (p.1.1 k ne)))),
  λ ne. ap history_of (p.1.1 k (λ e. ne (is ∙ ap (λ (x : List ℕ). Some x) (sym e)))),
)

keeps_same : (name : Option (List ℕ)) (m n : Table) → Same m n → KeepsIds name (histories m) (histories n)
keeps_same name m n p = λ k. (same_id (histories m k) (histories n k) (ap (λ (o : Option (Option SessionState)). is_some (history_of o)) (sym (p k))), λ ne. ap history_of (p k))

pub swap_keeps : (r t : Option Table) (name : Option (List ℕ)) (id : List ℕ) (v w : SessionState) → name ≡ Some id → Told r t (Swaps id v w) → Told (sessions_of r) (sessions_of t) (KeepsIds name)
swap_keeps r t name id v w is s = sessions_so r t (Swaps id v w) (KeepsIds name) (λ m n p. keeps_swap name id v w is m n p) s

pub miss_keeps : (r t : Option Table) (name : Option (List ℕ)) (id : List ℕ) → Told r t (Misses id) → Told (sessions_of r) (sessions_of t) (KeepsIds name)
miss_keeps r t name id s = sessions_so r t (Misses id) (KeepsIds name) (λ m n p. keeps_same name m n p.1) s

pub none_keeps : (r : Option Table) (name : Option (List ℕ)) → Told (sessions_of r) (sessions_of r) (KeepsIds name)
none_keeps None name = tt
none_keeps (Some m) name = keeps_same name m m (λ k. refl)

-- ---- whether the session is there

there_at : (name : Option (List ℕ)) (id : List ℕ) (m : Table) (o : Option (Option SessionState)) → name ≡ Some id → m id ≡ o → is_some (at_name name (histories m)) ≡ is_some (history_of o)
there_at name id m o is e = ap (λ (x : Option (List ℕ)). is_some (at_name x (histories m))) is ∙ ap (λ (p : Option (Option SessionState)). is_some (history_of p)) e

pub swap_there : {A : Type 0} (r t : Option Table) (name : Option (List ℕ)) (id : List ℕ) (v w : SessionState) (answer : Result A Refused) → name ≡ Some id → Told r t (Swaps id v w) → IsAbsent answer true
    → Told (sessions_of r) (sessions_of t) (λ m n. IsAbsent answer (is_some (at_name name m)))
swap_there r t name id v w answer is s a =
    sessions_so r t (Swaps id v w) (λ m n. IsAbsent answer (is_some (at_name name m))) (λ m n p. subst (λ (b : Bool). IsAbsent answer b) (sym (there_at name id m (Some (Some v)) is p.0)) a) s

pub miss_there : {A : Type 0} (r t : Option Table) (name : Option (List ℕ)) (id : List ℕ) (answer : Result A Refused) → name ≡ Some id → Told r t (Misses id) → IsAbsent answer false
    → Told (sessions_of r) (sessions_of t) (λ m n. IsAbsent answer (is_some (at_name name m)))
miss_there r t name id answer is s a =
    sessions_so r t (Misses id) (λ m n. IsAbsent answer (is_some (at_name name m))) (λ m n p. subst (λ (b : Bool). IsAbsent answer b) (sym (there_at name id m None is p.0)) a) s

pub unnamed_there : {A : Type 0} (r : Option Table) (name : Option (List ℕ)) (answer : Result A Refused) → name ≡ None → IsAbsent answer false → Told (sessions_of r) (sessions_of r) (λ m n. IsAbsent answer (is_some (at_name name m)))
unnamed_there None name answer is a = tt
unnamed_there (Some m) name answer is a = subst (λ (x : Option (List ℕ)). IsAbsent answer (is_some (at_name x (histories m)))) (sym is) a

-- ---- its history

pub swap_history : {A : Type 0} (r t : Option Table) (name : Option (List ℕ)) (id : List ℕ) (v w : SessionState) (role : Asked) (answer : Result A Refused) → name ≡ Some id → Told r t (Swaps id v w) → MeetsTold w.host.view.seen role answer
    → IfSome (sessions_of t) (λ n. MeetsHistory (at_name name n) role answer)
swap_history r t name id v w role answer is s meets =
    after_so r t (Swaps id v w) (λ n. MeetsHistory (at_name name n) role answer)
    (λ m n p. subst (λ (o : Option (Option History)). MeetsHistory o role answer) (sym (ap (λ (x : Option (List ℕ)). at_name x (histories n)) is ∙ ap history_of p.1.0)) meets) s

pub miss_history : {A : Type 0} (r t : Option Table) (name : Option (List ℕ)) (id : List ℕ) (role : Asked) (answer : Result A Refused) → name ≡ Some id → Told r t (Misses id) → IfSome (sessions_of t) (λ n. MeetsHistory (at_name name n) role answer)
miss_history r t name id role answer is s =
    after_so r t (Misses id) (λ n. MeetsHistory (at_name name n) role answer)
    (λ m n p. subst (λ (o : Option (Option History)). MeetsHistory o role answer) (sym (ap (λ (x : Option (List ℕ)). at_name x (histories n)) is ∙ ap history_of (p.1 id ∙ p.0))) tt) s

-- ---- this door tells neither its places nor what it was asked

pub untold_out : {A : Type 0} (r : Result A Refused) → None ≡ one_more_out r None
untold_out (Ok a) = refl
untold_out (Err refused) = refl

pub untold_asked : {A : Type 0} (request : Request) (r : Result A Refused) → None ≡ logged None request r
untold_asked request (Ok a) = refl
untold_asked request (Err Absent) = refl
untold_asked request (Err Conflict) = refl
untold_asked request (Err Dial) = refl
untold_asked request (Err Busy) = refl
untold_asked request (Err Closed) = refl
untold_asked request (Err Forbidden) = refl
untold_asked request (Err TooMany) = refl
untold_asked request (Err Worn) = refl
untold_asked request (Err NoMemory) = refl

-- the ID of a welcome is that of the name by which it was found
pub same_name : {P : Type 0} (name : Option (List ℕ)) (id : List ℕ) (r : Result (Welcome P) Refused) → Some id ≡ name → IfOk r (λ welcome. id_of_name welcome.id ≡ Some id) → IfOk r (λ welcome. id_of_name welcome.id ≡ name)
same_name name id (Ok welcome) is named = named ∙ is
same_name name id (Err refused) is named = tt

-- what is said of a welcome in one
pub let_in : {P : Type 0} (is_fresh : P → List ℕ → Type 0) (name : List ℕ) (says : Welcome P → Type 0) (r : Result (Welcome P) Refused) → IfOk r (λ welcome. is_fresh welcome.place welcome.first) → IfOk r (λ welcome. id_of_name welcome.id ≡ id_of_name name) → IfOk r says
    → IfOk r (IsLetIn is_fresh id_of_name name says)
let_in is_fresh name says (Ok welcome) fresh same joined = record { fresh = fresh; same_id = same; joined = joined }
let_in is_fresh name says (Err refused) fresh same joined = tt

-- ---- what the calls of this door alone tell

pub swap_both : (r t : Option Table) (name : Option (List ℕ)) (id : List ℕ) (v w : SessionState) (P : SessionState → SessionState → Type 0) → name ≡ Some id → Told r t (Swaps id v w) → P v w
    → Told r t (λ m n. ((x : List ℕ) → name ≡ Some x → Both P (m x) (n x)) × OthersStay name m n)
swap_both r t name id v w P is s holds = told_so r t (Swaps id v w) (λ m n. ((x : List ℕ) → name ≡ Some x → Both P (m x) (n x)) × OthersStay name m n) (λ m n p. (
  (λ x e. let same : id ≡ x = same_some id x (sym is ∙ e) in subst (λ (o : Option (Option SessionState)). Both P o (n x)) (sym (ap m (sym same) ∙ p.0)) (w, ap n (sym same) ∙ p.1.0, holds)),
  λ k ne. p.1.1 k (λ e. ne (is ∙ ap (λ (x : List ℕ). Some x) (sym e))),
)) s

pub miss_both : (r t : Option Table) (name : Option (List ℕ)) (id : List ℕ) (P : SessionState → SessionState → Type 0) → name ≡ Some id → Told r t (Misses id) → Told r t (λ m n. ((x : List ℕ) → name ≡ Some x → Both P (m x) (n x)) × OthersStay name m n)
miss_both r t name id P is s = told_so r t (Misses id) (λ m n. ((x : List ℕ) → name ≡ Some x → Both P (m x) (n x)) × OthersStay name m n) (λ m n p. (
  (λ x e. let same : id ≡ x = same_some id x (sym is ∙ e) in subst (λ (o : Option (Option SessionState)). Both P o (n x)) (sym (ap m (sym same) ∙ p.0)) (p.1 x ∙ (ap m (sym same) ∙ p.0))),
  λ k ne. p.1 k,
)) s

pub unnamed_both : (r : Option Table) (name : Option (List ℕ)) (P : SessionState → SessionState → Type 0) → name ≡ None → Told r r (λ m n. ((x : List ℕ) → name ≡ Some x → Both P (m x) (n x)) × OthersStay name m n)
unnamed_both r name P is = told_same r (λ m n. ((x : List ℕ) → name ≡ Some x → Both P (m x) (n x)) × OthersStay name m n) (λ m. ((λ x e. absurd (none_some x (sym is ∙ e))), λ k ne. refl))

-- a viewer that was let in has joined
pub swap_joined : (r t : Option Table) (id : List ℕ) (v w : SessionState) (role : Asked) (answer : Result (Welcome Place) Refused) → Told r t (Swaps id v w) → IfOk answer (λ welcome. id_of_name welcome.id ≡ Some id) → JoinLeaves role answer v w → IfOk answer (λ welcome. IsJoined t role welcome)
swap_joined r t id v w role (Err refused) s named leaves = tt
swap_joined None None id v w role (Ok welcome) s named leaves = tt
swap_joined None (Some n) id v w role (Ok welcome) s named leaves = absurd s
swap_joined (Some m) None id v w role (Ok welcome) s named leaves = absurd s
swap_joined (Some m) (Some n) id v w role (Ok welcome) s named leaves = record {
  id = id;
  named = named;
  session = w;
  there = s.1.0;
  joined = leaves.1;
}

-- ---- a look

history_there : (o : Option (Option SessionState)) → is_some o ≡ is_some (history_of o)
history_there None = refl
history_there (Some None) = refl
history_there (Some (Some s)) = refl

abbrev pub Finds : List ℕ → Bool → Table → Table → Type 0
Finds id b m n = (b ≡ is_some (m id)) × Same m n

pub find_unlent : (r t : Option Table) (id : List ℕ) (b : Bool) → NoneLent r → Told r t (Finds id b) → NoneLent t
find_unlent r t id b h s = after_call r t (Finds id b) (λ m n free p k lent. free k (sym (p.1 k) ∙ lent)) h s

pub found : (r t : Option Table) (name : Option (List ℕ)) (id : List ℕ) (b : Bool) → Some id ≡ name → Told r t (Finds id b) → IfSome (sessions_of r) (λ m. b ≡ is_some (at_name name m))
found None t name id b is s = tt
found (Some m) None name id b is s = absurd s
found (Some m) (Some n) name id b is s = s.0 ∙ (history_there (m id) ∙ ap (λ (x : Option (List ℕ)). is_some (at_name x (histories m))) is)

pub find_same : (r t : Option Table) (id : List ℕ) (b : Bool) → Told r t (Finds id b) → Told (sessions_of r) (sessions_of t) Same
find_same r t id b s = sessions_so r t (Finds id b) Same (λ m n p k. ap history_of (p.1 k)) s
