-- A byte that was looked at is given first.
use Rattle.std.proofs.Common.{◌≡◌, ◌<◌, ℕ, List, [], ◌∷◌, Option, Some, None, take, length, refl, sym, subst, slice_set, arith}
use Rattle.gate_outside.specs.Edge.{came}
use Rattle.gate_service.specs.Lookaheads.{looked}

given : (byte : ℕ) (into : List ℕ) (left : Option (List ℕ)) → 0 < length into → came (byte ∷ []) left ≡ came (take 1 (slice_set into 0 byte)) (came [] left)
given byte [] left some = absurd (omega (arith, some))
given byte (x ∷ xs) None some = refl
given byte (x ∷ xs) (Some rest) some = refl

pub gives : (seen : Option ℕ) (byte : ℕ) (into : List ℕ) (left : Option (List ℕ)) → seen ≡ Some byte → 0 < length into → came (looked seen) left ≡ came (take 1 (slice_set into 0 byte)) (came [] left)
gives seen byte into left is some = subst (λ (o : Option ℕ). came (looked o) left ≡ came (take 1 (slice_set into 0 byte)) (came [] left)) (sym is) (given byte into left some)
