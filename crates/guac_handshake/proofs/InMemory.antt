-- A door in memory: the IDs of names, and which draws are there.
use Rattle.std.proofs.Common.{◌≡◌, ◌≢◌, ℕ, List, [], ◌∷◌, Option, Some, None, Bool, true, false, refl, ap, sym, ◌∙◌, subst, true≢false, lit<}
use Rattle.std.specs.Prelude.{Result, IsSome, is_some, nat_eq, if◌then◌else◌, slice_index_or}
use Rattle.std.specs.Option.{unwrap_or}
use Rattle.std.proofs.lemmas.Bool.{eqb-true}
use Rattle.gate_model.specs.declared.sharing.Asked.{Asked}
use Rattle.id_table.specs.Draws.{AreNext, AreThere, IsFirstAbsent, nth_id}
use Rattle.id_table.specs.Maps.{Changed, Map}
use Rattle.id_table.specs.Refused.{IfConflict}
use Rattle.id_table.specs.declared.add_refusal.AddRefusal.{AddRefusal}
use Rattle.id_table.specs.declared.add_refusal.AddRefusal.TheVariants.{Conflict}
use Rattle.uuid.specs.Text.{parsed}
use Rattle.guac_handshake.specs.declared.refused.Refused.{Refused}
use Rattle.guac_handshake.specs.Doors.{AreAllThere, HasConflict, MeetsHistory, RemovedOne, at_name}
use Rattle.guac_handshake.specs.Memory.{untold, untold_at}
use Rattle.guac_handshake.specs.Names.{id_of_name}

none_some : {A : Type 0} (x : A) → None ≡ Some x → ⊥
none_some x e = true≢false (sym (ap is_some e))

-- what is no value is none
pub is_none : {A : Type 0} (o : Option A) → ((x : A) × (o ≡ Some x) → false ≡ true) → None ≡ o
is_none None isnt = refl
is_none (Some x) isnt = absurd (true≢false (sym (isnt (x, refl))))

none_where : {A : Type 0} (b : Bool) (o : Option A) → (b ≡ true → ⊥) → None ≡ (if b then o else None)
none_where true o isnt = absurd (isnt refl)
none_where false o isnt = refl

-- what doesn't begin with `$` names no ID
pub no_name : (name : List ℕ) → ((rest : List ℕ) → name ≢ 36 ∷ rest) → None ≡ id_of_name name
no_name [] isnt = refl
no_name (c ∷ rest) isnt = none_where (nat_eq c 36) (parsed rest) (λ e. isnt rest (ap (λ (x : ℕ). x ∷ rest) (eqb-true c 36 e)))

module _ {V : Type 0} where
  untold_some : (o : Option V) → IsSome o → IsSome (untold_at o)
  untold_some None h = absurd (true≢false (sym h))
  untold_some (Some v) h = refl

  -- a history that isn't told says nothing
  meets_at : {A : Type 0} (o : Option V) (role : Asked) (r : Result A Refused) → MeetsHistory (untold_at o) role r
  meets_at None role r = tt
  meets_at (Some v) role r = tt

  pub meets : {A : Type 0} (name : Option (List ℕ)) (m : Map V) (role : Asked) (r : Result A Refused) → MeetsHistory (at_name name (untold m)) role r
  meets None m role r = tt
  meets (Some id) m role r = meets_at (m id) role r

  -- the ID of a name was taken out
  pub removed : (name : Option (List ℕ)) (id : List ℕ) (m n : Map V) → Some id ≡ name → Changed id None m n → RemovedOne name (untold m) (untold n)
  removed name id m n is p = λ k. (
    (λ e. let same : id ≡ k = ap (λ (o : Option (List ℕ)). unwrap_or o id) (is ∙ e) in ap untold_at (ap n (sym same) ∙ p.0)),
    λ ne. ap untold_at (p.1 k (λ e. ne (sym is ∙ ap (λ (x : List ℕ). Some x) (sym e)))),
  )

  pub not_removed : (name : Option (List ℕ)) (m : Map V) → None ≡ name → RemovedOne name (untold m) (untold m)
  not_removed name m is = λ k. ((λ e. absurd (none_some k (is ∙ e))), λ ne. refl)

  module _ {W : Type 0} (m : Map V) (r : AddRefusal W) (value : W) (ids : List (List ℕ)) (is : r ≡ Conflict value ids) (there : IfConflict r (AreThere m 4)) where
    are_there : AreThere m 4 ids
    are_there = subst (λ (x : AddRefusal W). IfConflict x (AreThere m 4)) is there

    -- four drawn IDs were there
    pub has_conflict : HasConflict (Some (untold m))
    has_conflict = (slice_index_or ids 0 [], untold_some (m (slice_index_or ids 0 [])) (are_there 0 (lit< tt)))

    pub all_there : (draws : ℕ → List ℕ) → IfConflict r (AreNext draws 4) → AreAllThere (untold m) draws
    all_there draws next = λ k lt.
        let n = subst (λ (x : AddRefusal W). IfConflict x (AreNext draws 4)) is next in
        subst (λ (id : List ℕ). IsSome (untold m id)) (n k lt) (untold_some (m (slice_index_or ids k [])) (are_there k lt))

  -- one of four drawn IDs was absent
  pub not_all_there : (m : Map V) (draws : ℕ → List ℕ) (id : List ℕ) → IsFirstAbsent m draws id → AreAllThere (untold m) draws → ⊥
  not_all_there m draws id f all =
      let absent : m (nth_id draws f.0) ≡ None = ap m (sym f.2) ∙ f.3 in
      true≢false (sym (subst (λ (o : Option V). IsSome (untold_at o)) absent (all f.0 f.1)))
