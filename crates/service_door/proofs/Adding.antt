-- What a table is after a session was added or taken out.
use Rattle.std.proofs.Common.{◌≡◌, ℕ, Bool, List, [], Option, Some, None, refl, ap, sym, ◌∙◌, subst, true≢false, lit<}
use Rattle.std.specs.Prelude.{IfOk, OnErr, IfSome, IsSome, slice_index_or, Result, Ok, Err}
use Rattle.id_table.specs.Draws.{AreNext, AreThere, IsFirstAbsent, nth_id}
use Rattle.id_table.specs.Maps.{Changed, Same, Told, had}
use Rattle.id_table.specs.Refused.{IfConflict}
use Rattle.id_table.specs.declared.add_refusal.AddRefusal.{AddRefusal}
use Rattle.id_table.specs.declared.add_refusal.AddRefusal.TheVariants.{Conflict as conflict}
use Rattle.gate_model.specs.declared.faces.Faces.{Faces}
use Rattle.guac_handshake.specs.Doors.{AddedOne, HasConflict, IsConflict, MeetsConflict, RemovedOne, TellsConflict}
use Rattle.guac_handshake.specs.declared.refused.Refused.TheVariants.{Conflict, NoMemory}
use Rattle.service_door.specs.Sessions.{NoneLent, SessionState, histories, history_of, sessions_of}
use Rattle.guac_handshake.specs.Names.{id_of_name}
use Rattle.guac_handshake.specs.declared.ask.Ask.{Ask}
use Rattle.guac_handshake.specs.declared.welcome.Welcome.{Welcome}
use Rattle.shared_desk.specs.declared.place.Place.{Place}
use Rattle.service_door.specs.Begun.{HasStarted, IsBegun}
use Rattle.service_door.specs.Doors.{Table}
use Rattle.guac_handshake.proofs.Undone.{by_id}
use Rattle.service_door.proofs.Tables.{after_call, changed_unlent, none_some, same_some, sessions_so, told_then}

-- a session was added under an ID that was absent
abbrev pub Adds : List ℕ → SessionState → Table → Table → Type 0
Adds id s m n = (m id ≡ None) × Changed id (Some (Some s)) m n

-- it was taken out
abbrev pub TakesOut : List ℕ → Option SessionState → Table → Table → Type 0
TakesOut id r m n = (m id ≡ had r) × Changed id None m n

pub some_lent : {V : Type 0} (v : V) → Some (Some v) ≡ Some None → ⊥
some_lent v e = none_some v (sym (same_some _ _ e))

pub add_unlent : (told after : Option Table) (id : List ℕ) (s : SessionState) → NoneLent told → Told told after (Adds id s) → NoneLent after
add_unlent told after id s h t = after_call told after (Adds id s) (λ m n free p. changed_unlent id (Some (Some s)) m n free (some_lent s) p.1) h t

pub take_unlent : (told after : Option Table) (id : List ℕ) (r : Option SessionState) → NoneLent told → Told told after (TakesOut id r) → NoneLent after
take_unlent told after id r h t = after_call told after (TakesOut id r) (λ m n free p. changed_unlent id None m n free (λ e. none_some None e) p.1) h t

pub same_unlent : (told after : Option Table) → NoneLent told → Told told after Same → NoneLent after
same_unlent told after h t = after_call told after Same (λ m n free p k lent. free k (sym (p k) ∙ lent)) h t

-- ---- what the door tells of it

pub added : (told after : Option Table) (name : Option (List ℕ)) (id : List ℕ) (s : SessionState) → name ≡ Some id → Told told after (Adds id s) → Told (sessions_of told) (sessions_of after) (AddedOne name)
added told after name id s is t =
    sessions_so told after (Adds id s) (AddedOne name)
    (λ m n p. (id, is, ap history_of p.0, subst (λ (o : Option (Option SessionState)). IsSome (history_of o)) (sym p.1.0) refl, λ k ne. ap history_of (p.1.1 k ne))) t

pub unchanged : (told after : Option Table) → Told told after Same → Told (sessions_of told) (sessions_of after) Same
unchanged told after t = sessions_so told after Same Same (λ m n p k. ap history_of (p k)) t

-- a session that was added and taken out again leaves the table as it was
pub added_taken : (told mid after : Option Table) (id : List ℕ) (s : SessionState) (r : Option SessionState) → Told told mid (Adds id s) → Told mid after (TakesOut id r) → Told (sessions_of told) (sessions_of after) Same
added_taken told mid after id s r a b =
    unchanged told after (told_then told mid after (Adds id s) (TakesOut id r) Same
    (λ k m n p q x. by_id x id (n x ≡ k x) (λ e. ap n e ∙ (q.1.0 ∙ (sym p.0 ∙ ap k (sym e)))) (λ ne. q.1.1 x ne ∙ p.1.1 x ne)) a b)

-- the session of this name is gone
pub gone : (told after : Option Table) (name : Option (List ℕ)) (id : List ℕ) (r : Option SessionState) → name ≡ Some id → Told told after (TakesOut id r) → Told (sessions_of told) (sessions_of after) (RemovedOne name)
gone told after name id r is t = sessions_so told after (TakesOut id r) (RemovedOne name) (λ m n p k. (
  (λ e. let same : id ≡ k = same_some id k (sym is ∙ e) in ap history_of (ap n (sym same) ∙ p.1.0)),
  λ ne. ap history_of (p.1.1 k (λ e. ne (is ∙ ap (λ (x : List ℕ). Some x) (sym e)))),
)) t

-- a name that names no ID removes none
pub none_gone : (told : Option Table) (name : Option (List ℕ)) → name ≡ None → Told (sessions_of told) (sessions_of told) (RemovedOne name)
none_gone None name is = tt
none_gone (Some m) name is = λ k. ((λ e. absurd (none_some k (sym is ∙ e))), λ ne. refl)

-- nothing was done
pub untouched : (told : Option Table) → Told (sessions_of told) (sessions_of told) Same
untouched None = tt
untouched (Some m) = λ k. refl

-- ---- draws

-- want of memory comes whatever is drawn
free_memory : (A : Type 0) (told : Option Table) (draws : Option (ℕ → List ℕ)) → TellsConflict {A = A} (sessions_of told) draws (Err NoMemory)
free_memory A None draws = tt
free_memory A (Some m) None = tt
free_memory A (Some m) (Some draws) = tt

no_memory : (A : Type 0) → IsConflict {A = A} (Err NoMemory) → ⊥
no_memory A e = cc

pub out_of_memory : (A : Type 0) (told : Option Table) (draws : Option (ℕ → List ℕ)) → MeetsConflict {A = A} (sessions_of told) draws (Err NoMemory)
out_of_memory A told draws = (λ e. absurd (no_memory A e), free_memory A told draws)

history_some : (o : Option (Option SessionState)) → IsSome o → IsSome (history_of o)
history_some None h = absurd (true≢false (sym h))
history_some (Some None) h = refl
history_some (Some (Some s)) h = refl

module _ {W : Type 0} (r : AddRefusal W) (value : W) (ids : List (List ℕ)) (is : r ≡ conflict value ids) where
  -- four drawn IDs were there
  pub has_conflict : (told : Option Table) → IfConflict r (λ ids. IfSome told (λ m. AreThere m 4 ids)) → HasConflict (sessions_of told)
  has_conflict None there = tt
  has_conflict (Some m) there =
      let t : AreThere m 4 ids = subst (λ (x : AddRefusal W). IfConflict x (AreThere m 4)) is there in
      (slice_index_or ids 0 [], history_some (m (slice_index_or ids 0 [])) (t 0 (lit< tt)))

  pub conflict_told : (A : Type 0) (told : Option Table) (was draws : Option (ℕ → List ℕ)) → was ≡ draws → IfConflict r (λ ids. IfSome told (λ m. AreThere m 4 ids)) → IfConflict r (λ ids. IfSome was (λ d. AreNext d 4 ids)) → TellsConflict {A = A} (sessions_of told) draws (Err Conflict)
  conflict_told A told was draws same there next = subst (λ (d : Option (ℕ → List ℕ)). TellsConflict {A = A} (sessions_of told) d (Err Conflict)) same (at told was there next)
    where
      at : (told : Option Table) (was : Option (ℕ → List ℕ)) → IfConflict r (λ ids. IfSome told (λ m. AreThere m 4 ids)) → IfConflict r (λ ids. IfSome was (λ d. AreNext d 4 ids)) → TellsConflict {A = A} (sessions_of told) was (Err Conflict)
      at None was there next = tt
      at (Some m) None there next = tt
      at (Some m) (Some draws) there next = λ k lt.
          let t : AreThere m 4 ids = subst (λ (x : AddRefusal W). IfConflict x (AreThere m 4)) is there in
          let n : AreNext draws 4 ids = subst (λ (x : AddRefusal W). IfConflict x (AreNext draws 4)) is next in
          subst (λ (id : List ℕ). IsSome (histories m id)) (n k lt) (history_some (m (slice_index_or ids k [])) (t k lt))

-- one of four drawn IDs was absent
history_none : (o : Option (Option SessionState)) → o ≡ None → IsSome (history_of o) → ⊥
history_none o e h = true≢false (sym (subst (λ (p : Option (Option SessionState)). IsSome (history_of p)) e h))

pub added_told : {A : Type 0} (told : Option Table) (was draws : Option (ℕ → List ℕ)) (id : List ℕ) (a : A) → was ≡ draws → IfSome told (λ m. IfSome was (λ d. IsFirstAbsent m d id)) → TellsConflict (sessions_of told) draws (Ok a)
added_told {A} told was draws id a same first = subst (λ (d : Option (ℕ → List ℕ)). TellsConflict (sessions_of told) d (Ok a)) same (at told was first)
  where
    at : (told : Option Table) (was : Option (ℕ → List ℕ)) → IfSome told (λ m. IfSome was (λ d. IsFirstAbsent m d id)) → TellsConflict (sessions_of told) was (Ok a)
    at None was f = tt
    at (Some m) None f = tt
    at (Some m) (Some draws) f = λ all. history_none (m (nth_id draws f.0)) (ap m (sym f.2) ∙ f.3) (all f.0 f.1)

-- ---- a session that is added as it was prepared

-- whether it was added or not, nothing is lent
pub any_unlent : {E : Type 0} (told after : Option Table) (r : Result (List ℕ) E) (s : SessionState) → NoneLent told → IfOk r (λ id. Told told after (Adds id s)) → OnErr r (Told told after Same) → NoneLent after
any_unlent told after (Ok id) s h ok err = add_unlent told after id s h ok
any_unlent told after (Err e) s h ok err = same_unlent told after h err

pub begun : (wanted : Bool) (faces : Faces) (told after : Option Table) (ask : Ask) (welcome : Welcome Place) (id : List ℕ) (s : SessionState) → id_of_name welcome.id ≡ Some id → s.places ≡ 1 → HasStarted wanted faces ask welcome.place s.host → Told told after (Adds id s) → IsBegun wanted faces after ask welcome
begun wanted faces told None ask welcome id s named one h t = tt
begun wanted faces None (Some n) ask welcome id s named one h t = absurd t
begun wanted faces (Some m) (Some n) ask welcome id s named one h t = record {
  id = id;
  named = named;
  session = s;
  there = t.1.0;
  started = h;
  places = one;
}
