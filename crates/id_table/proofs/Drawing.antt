-- Draws, one after the other.
use Rattle.std.proofs.Common.{◌≡◌, ◌≢◌, ℕ, ◌+◌, ◌<◌, List, [], Some, None, length, arith, ap, sym, ◌∙◌, subst, below_more, true≢false, false, rules, Bool, get_or-set_same, get_or-set_other}
use Rattle.std.proofs.Math.ListN.{set}
use Rattle.std.specs.Prelude.{Option, IsSome, IfSome, is_none}
use Rattle.gate_outside.specs.Draws.{Drew}
use Rattle.id_table.specs.Maps.{Map}
use Rattle.id_table.specs.Draws.{AreNext, AreThere, Gone, IsFirstAbsent, id_of_draw, nth_id}

-- one more draw is gone
pub gone_more : (first before now : Option (ℕ → List ℕ)) (n : ℕ) (drawn : List ℕ) → Gone n first before → Drew drawn before now → Gone (n + 1) first now
gone_more None None None n drawn gone drew = tt
gone_more None None (Some e) n drawn gone drew = drew
gone_more None (Some d) now n drawn gone drew = absurd gone
gone_more (Some f) None now n drawn gone drew = absurd gone
gone_more (Some f) (Some d) None n drawn gone drew = absurd drew
gone_more (Some f) (Some d) (Some e) n drawn gone drew = λ k.
    drew.1 k ∙ gone (k + 1) ∙ ap f (let same : k + 1 + n ≡ k + (n + 1) = omega arith in same)

-- the draw is that of this number
pub drew_nth : (first before now : Option (ℕ → List ℕ)) (n : ℕ) (drawn id : List ℕ) → id ≡ id_of_draw drawn → Gone n first before → Drew drawn before now → IfSome first (λ draws. id ≡ nth_id draws n)
drew_nth None before now n drawn id is gone drew = tt
drew_nth (Some f) None now n drawn id is gone drew = absurd gone
drew_nth (Some f) (Some d) None n drawn id is gone drew = absurd drew
drew_nth (Some f) (Some d) (Some e) n drawn id is gone drew = is ∙ ap id_of_draw (sym drew.0 ∙ gone 0 ∙ ap f (let same : 0 + n ≡ n = omega arith in same))

-- the ID of the next draw is kept
pub next_more : (first : Option (ℕ → List ℕ)) (n : ℕ) (ids : List (List ℕ)) (id : List ℕ) → n < length ids → IfSome first (λ draws. AreNext draws n ids) → IfSome first (λ draws. id ≡ nth_id draws n) → IfSome first (λ draws. AreNext draws (n + 1) (set ids n id))
next_more None n ids id room next is = tt
next_more (Some f) n ids id room next is = below_more _ _
    (λ k below. let ne : k ≢ n = omega arith in get_or-set_other ids n k id [] ne ∙ next k below)
    (get_or-set_same ids n id [] room ∙ is)

pub there_more : {V : Type 0} (m : Map V) (n : ℕ) (ids : List (List ℕ)) (id : List ℕ) → n < length ids → AreThere m n ids → IsSome (m id) → AreThere m (n + 1) (set ids n id)
there_more m n ids id room there is = below_more _ _
    (λ k below. let ne : k ≢ n = omega arith in subst (λ x. IsSome (m x)) (sym (get_or-set_other ids n k id [] ne)) (there k below))
    (subst (λ x. IsSome (m x)) (sym (get_or-set_same ids n id [] room)) is)

-- the first that is absent, of four
pub first_absent : {V : Type 0} (m : Map V) (first : Option (ℕ → List ℕ)) (n : ℕ) (ids : List (List ℕ)) (id : List ℕ) → n < 4 → AreThere m n ids → IfSome first (λ draws. AreNext draws n ids) → IfSome first (λ draws. id ≡ nth_id draws n) → m id ≡ None → IfSome first (λ draws. IsFirstAbsent m draws id)
first_absent m None n ids id few there next is absent = tt
first_absent m (Some f) n ids id few there next is absent =
    (n, few, is, absent, λ k below. subst (λ x. IsSome (m x)) (next k below) (there k below))

-- an ID whose value was found is there
pub found_there : {V : Type 0} (found : Bool) (o : Option V) → found ≡ is_none o → found ≡ false → IsSome o
found_there found None e isnt = absurd (true≢false (sym e ∙ isnt))
found_there found (Some v) e isnt = search rules
