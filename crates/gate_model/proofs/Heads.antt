-- What a head finds, by the ways of a test.
use Rattle.std.proofs.Common.{◌≡◌, ℕ, ◌≤◌, List, ◌++◌, length, Bool, true, false, cond, Option, Some, None}
use Rattle.std.specs.Prelude.{is_some}

module _ {A B : Type 0} where
  -- what was found, with more behind it
  abbrev pub carried : List A → Option (List B × List A) → Option (List B × List A)
  carried more None = None
  carried more (Some found) = Some (found.0, found.1 ++ more)

  -- the two ways of a test
  pub either : (b : Bool) (more : List A) (x y u v : Option (List B × List A)) → (is_some x ≡ true → u ≡ carried more x) → (is_some y ≡ true → v ≡ carried more y)
      → is_some (cond b x y) ≡ true → cond b u v ≡ carried more (cond b x y)
  either true more x y u v first second e = first e
  either false more x y u v first second e = second e

  -- the number of those that are left
  abbrev pub left_of : Option (List B × List A) → ℕ
  left_of None = 0
  left_of (Some found) = length found.1

  pub left-either : (b : Bool) (x y : Option (List B × List A)) (n : ℕ) → left_of x ≤ n → left_of y ≤ n → left_of (cond b x y) ≤ n
  left-either true x y n p q = p
  left-either false x y n p q = q
