-- The input of `play`, which comes in parts.
use Rattle.std.proofs.Common.{◌≡◌, ℕ, List, ◌++◌, take, Option, ap, subst, ◌∙◌}
use Rattle.gate_outside.specs.Edge.{AtEnd, came}
use Rattle.gate_outside.proofs.Moved.{came-came, came-none}

-- nothing came any more
pub read_end : (left was now : Option (List ℕ)) (input into : List ℕ) (n : ℕ) → left ≡ came input was → was ≡ came (take n into) now → n ≡ 0 → left ≡ came input now
read_end left was now input into n e f g = e ∙ ap (came input) (f ∙ ap (λ k. came (take k into) now) g ∙ came-none now)

-- a part more came
pub read_more : (left was now : Option (List ℕ)) (input part : List ℕ) → left ≡ came input was → was ≡ came part now → left ≡ came (input ++ part) now
read_more left was now input part e f = e ∙ ap (came input) f ∙ came-came input part now

-- .. since the source was at its end
pub read_ended : (was now : Option (List ℕ)) (into : List ℕ) (n : ℕ) → AtEnd was → was ≡ came (take n into) now → n ≡ 0 → AtEnd now
read_ended was now into n end f g = subst AtEnd (f ∙ ap (λ k. came (take k into) now) g ∙ came-none now) end
