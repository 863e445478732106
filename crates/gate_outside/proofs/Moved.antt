-- Laws of what came and what was gained: none changes nothing, and one after the other is both.
use Rattle.std.proofs.Common.{◌≡◌, ℕ, ◌+◌, List, [], ◌++◌, take, drop, Option, Some, None, refl, ap, sym, ◌∙◌, append_assoc, append-nil, length, ◌-◌, arith, length-drop}
use Rattle.std.proofs.Math.Seq.{take-add}
use Rattle.std.proofs.lemmas.List.{take-append-drop, drop-drop, take_all}
use Rattle.gate_outside.specs.Edge.{came, gained}

pub gained-none : (o : Option (List ℕ)) → gained o [] ≡ o
gained-none None = refl
gained-none (Some held) = ap Some (append-nil held)

pub gained-gained : (o : Option (List ℕ)) (a b : List ℕ) → gained (gained o a) b ≡ gained o (a ++ b)
gained-gained None a b = refl
gained-gained (Some held) a b = ap Some (append_assoc held a b)

pub came-none : (o : Option (List ℕ)) → came [] o ≡ o
came-none None = refl
came-none (Some rest) = refl

pub came-came : (a b : List ℕ) (o : Option (List ℕ)) → came a (came b o) ≡ came (a ++ b) o
came-came a b None = refl
came-came a b (Some rest) = ap Some (sym (append_assoc a b rest))

-- the rest of a list from a place on, as a slice `&xs[at..]` is seen
rest_from : (at : ℕ) (xs : List ℕ) → take (length xs - at) (drop at xs) ≡ drop at xs
rest_from at xs = take_all (length xs - at) (drop at xs) (omega (arith, length-drop at xs))

-- the front of a text is gained piece by piece
pub gained-front : (o was now : Option (List ℕ)) (at n : ℕ) (text : List ℕ) → was ≡ gained o (take at text) → now ≡ gained was (take n (take (length text - at) (drop at text))) → now ≡ gained o (take (at + n) text)
gained-front o was now at n text before then =
    then
    ∙ ap (λ piece. gained was (take n piece)) (rest_from at text)
    ∙ ap (λ w. gained w (take n (drop at text))) before
    ∙ gained-gained o (take at text) (take n (drop at text))
    ∙ ap (gained o) (sym (take-add at n text))

-- the bytes that come first are given piece by piece
pub came-front : (at n : ℕ) (first held into : List ℕ) (o : Option (List ℕ)) → held ≡ first → take n into ≡ take n (take (length held - at) (drop at held)) → came (drop at first) o ≡ came (take n into) (came (drop (at + n) first) o)
came-front at n first held into o same copied =
    sym (ap (λ bytes. came bytes (came (drop (at + n) first) o)) (copied ∙ ap (take n) (rest_from at held) ∙ ap (λ bytes. take n (drop at bytes)) same)
    ∙ came-came (take n (drop at first)) (drop (at + n) first) o
    ∙ ap (λ rest. came (take n (drop at first) ++ rest) o) (sym (drop-drop n at first))
    ∙ ap (λ bytes. came bytes o) (take-append-drop n (drop at first)))
