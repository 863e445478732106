-- IDs as keys: another ID isn't found, and what is under one that isn't lent.
use Rattle.std.proofs.Common.{◌≡◌, ◌≢◌, ℕ, List, Bool, true, false, Some, None, refl, rules, sym, ap, ◌∙◌, true≢false}
use Rattle.std.specs.Prelude.{Option, is_some, IsSome, OnSome}
use Rattle.std.specs.Borrow.{MutBor}
use Rattle.std.specs.Option.{option_copied_mut}
use Rattle.std.specs.Ordering.{is_eq, nat_cmp}
use Rattle.std.specs.Cmp.Lexicographic.{slice_cmp}
use Rattle.std.specs.Str.{bytes_eq}
use Rattle.std.proofs.lemmas.Map.Text.{is_eq-slice_cmp}
use Rattle.std.proofs.lemmas.Slice.Eq.{bytes_eq-Decides}
use Rattle.id_table.specs.Maps.{had, lent_as}

not_true : (b : Bool) → ¬ (b ≡ true) → b ≡ false
not_true true isnt = absurd (isnt refl)
not_true false isnt = refl

-- another ID isn't found
pub apart : (id k : List ℕ) → k ≢ id → is_eq (slice_cmp nat_cmp id k) ≡ false
apart id k ne = is_eq-slice_cmp id k ∙ not_true (bytes_eq id k) (λ e. ne (sym ((bytes_eq-Decides id k).0 e)))

module _ {V : Type 0} where
  -- what was there under an ID that isn't lent
  pub had_of : (o : Option (Option V)) (slot : Option V) → o ≡ Some slot → ¬ (o ≡ Some None) → o ≡ had slot
  had_of o None e isnt = absurd (isnt e)
  had_of o (Some v) e isnt = e

  pub some_of : (o : Option V) (v : V) → o ≡ Some v → IsSome o
  some_of None v e = absurd (true≢false (sym (ap is_some e)))
  some_of (Some w) v e = search rules

  -- what a lend leaves under an ID that isn't lent
  pub lent_of : (o : Option (Option V)) (slot : Option V) → o ≡ Some slot → ¬ (o ≡ Some None) → lent_as slot ≡ Some None
  lent_of o None e isnt = absurd (isnt e)
  lent_of o (Some v) e isnt = refl

-- a fact about what is there, where a reference to it was found
pub on_found : {V : Type 0} (r : Option (MutBor V)) (o : Option V) (P : Type 0) → option_copied_mut r ≡ o → (IsSome o → P) → OnSome r P
on_found None o P e h = tt
on_found (Some x) o P e h = h (some_of o x.now (sym e))

pub from_some : {A : Type 0} (r : Option A) (x : A) (P : Type 0) → r ≡ Some x → OnSome r P → P
from_some None x P e h = absurd (true≢false (sym (ap is_some e)))
from_some (Some y) x P e h = h
