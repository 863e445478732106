-- The entries of a table, read in order.
use Rattle.std.proofs.Common.{◌≡◌, ℕ, List, [], ◌∷◌, Bool, true, false, Some, None, refl, sym, ◌∙◌, subst}
use Rattle.std.specs.Prelude.{◌⊎◌, Option}
use Rattle.std.specs.Cmp.{eq_by_cmp_equiv}
use Rattle.std.specs.Cmp.Lexicographic.{slice_cmp, nat_list_cmp_total}
use Rattle.std.specs.Ordering.{nat_cmp}
use Rattle.std.specs.Borrow.{Bor}
use Rattle.std.specs.Fn.{FnReturnsAt, Shared}
use Rattle.std.specs.BTreeMap.{is_at}
use Rattle.std.specs.Map.{keys_of, lookup}
use Rattle.std.specs.List.Sorted.{IsStrictlySortedBy}
use Rattle.std.specs.declared.cmp.Ordering.TheVariants.{Less}
use Rattle.std.proofs.lemmas.Map.{lookup-none}
use Rattle.std.proofs.lemmas.Map.Entries.{none_below_head, none_past_head, lookup_head, lookup_tail}
use Rattle.std.proofs.lemmas.Map.Keys.{IsDistinct-from_sorted, sorted_tail}
use mathlib.Core.Logic.{inl, inr}

module _ {V : Type 0} where
  abbrev pub find : List (List ℕ × Option V) → List ℕ → Option (Option V)
  find entries id = lookup (is_at (slice_cmp nat_cmp id)) entries

  -- this is so of those that aren't left, and those that are left are in order
  pub record AreRead (P : V → Type 0) (entries left : List (List ℕ × Option V)) : Type 0 where
    pub found : (id : List ℕ) (slot : Option V) → find left id ≡ Some slot → find entries id ≡ Some slot
    pub passed : (id : List ℕ) (v : V) → find entries id ≡ Some (Some v) → (find left id ≡ Some (Some v)) ⊎ P v
    pub sorted : IsStrictlySortedBy (slice_cmp nat_cmp) (keys_of left)

  pub read_none : (P : V → Type 0) (entries : List (List ℕ × Option V)) → IsStrictlySortedBy (slice_cmp nat_cmp) (keys_of entries) → AreRead P entries entries
  read_none P entries sorted = record { found = λ id slot e. e; passed = λ id v e. inl e; sorted = sorted }

  -- a key that is found past the first isn't the first
  not_first : (k id : List ℕ) (slot : Option V) (left : List (List ℕ × Option V)) (s : Option V) (b : Bool) → IsStrictlySortedBy (slice_cmp nat_cmp) (keys_of ((id, slot) ∷ left)) → find left k ≡ Some s → is_at (slice_cmp nat_cmp k) id ≡ b → is_at (slice_cmp nat_cmp k) id ≡ false
  not_first k id slot left s false sorted e is = is
  not_first k id slot left s true sorted e is =
      let none : find left k ≡ None = lookup-none (is_at (slice_cmp nat_cmp k)) left (none_past_head (eq_by_cmp_equiv nat_list_cmp_total) k (id, slot) left (IsDistinct-from_sorted (slice_cmp nat_cmp) _ sorted) is) in
      cc

  step : (P : V → Type 0) (k id : List ℕ) (slot : Option V) (left : List (List ℕ × Option V)) (v : V) (b : Bool) → ((w : V) → slot ≡ Some w → P w) → is_at (slice_cmp nat_cmp k) id ≡ b → (find ((id, slot) ∷ left) k ≡ Some (Some v)) ⊎ P v → (find left k ≡ Some (Some v)) ⊎ P v
  step P k id slot left v b here is (inr p) = inr p
  step P k id slot left v true here is (inl e) =
      let first : find ((id, slot) ∷ left) k ≡ Some slot = lookup_head (is_at (slice_cmp nat_cmp k)) (id, slot) left is in
      let same : slot ≡ Some v = cc in inr (here v same)
  step P k id slot left v false here is (inl e) = inl (sym (lookup_tail (is_at (slice_cmp nat_cmp k)) (id, slot) left is) ∙ e)

  pub read_more : (P : V → Type 0) (entries left : List (List ℕ × Option V)) (id : List ℕ) (slot : Option V) → AreRead P entries ((id, slot) ∷ left) → ((v : V) → slot ≡ Some v → P v) → AreRead P entries left
  read_more P entries left id slot read here = record {
    found = λ k s e. read.found k s (lookup_tail (is_at (slice_cmp nat_cmp k)) (id, slot) left (not_first k id slot left s _ read.sorted e refl) ∙ e);
    passed = λ k v e. step P k id slot left v _ here refl (read.passed k v e);
    sorted = sorted_tail (slice_cmp nat_cmp) id (keys_of left) read.sorted;
  }

  none_left : (P : V → Type 0) (o : Option (Option V)) (v : V) → o ≡ None → (o ≡ Some (Some v)) ⊎ P v → P v
  none_left P o v none (inl e) = cc
  none_left P o v none (inr p) = p

  pub read_all : (P : V → Type 0) (entries : List (List ℕ × Option V)) → AreRead P entries [] → (id : List ℕ) (v : V) → find entries id ≡ Some (Some v) → P v
  read_all P entries read id v e = none_left P None v refl (read.passed id v e)

  pub read_has : (P : V → Type 0) (entries left : List (List ℕ × Option V)) (id : List ℕ) (slot : Option V) → AreRead P entries ((id, slot) ∷ left) → find entries id ≡ Some slot
  read_has P entries left id slot read = read.found id slot (lookup_head (is_at (slice_cmp nat_cmp id)) (id, slot) left ((eq_by_cmp_equiv nat_list_cmp_total).refl id))

  pub read_below : (P : V → Type 0) (entries left : List (List ℕ × Option V)) (id : List ℕ) (slot : Option V) → AreRead P entries ((id, slot) ∷ left) → (k : List ℕ) (v : V) → slice_cmp nat_cmp k id ≡ Less → find entries k ≡ Some (Some v) → P v
  read_below P entries left id slot read k v less e =
      none_left P (find ((id, slot) ∷ left) k) v (lookup-none (is_at (slice_cmp nat_cmp k)) ((id, slot) ∷ left) (none_below_head nat_list_cmp_total k (id, slot) left read.sorted less)) (read.passed k v e)

-- what a call of a test answered of a value
pub returned : {F V : Type 0} (g : Shared F (Bor V × Unit {0}) Bool) (f : F) (p : Bor V) (r s : Bool) (v : V) → g.post f (p, tt) r → r ≡ s → p.now ≡ v → FnReturnsAt g f v s
returned g f p r s v met is shows = record { shown = p; shows = shows; says = record { met = subst (λ (x : Bool). g.post f (p, tt) x) is met } }
