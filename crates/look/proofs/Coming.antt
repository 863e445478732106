-- An input that comes in parts.
use Rattle.std.proofs.Common.{◌≡◌, ℕ, List, ◌++◌, take, drop, length, Option, ap, sym, ◌∙◌}
use Rattle.std.proofs.Math.Seq.{take-append_seam}
use Rattle.gate_outside.specs.Edge.{came}
use Rattle.gate_outside.proofs.Moved.{came-came, came-none}

pub read_end : (left was now : Option (List ℕ)) (input into : List ℕ) (n : ℕ) → left ≡ came input was → was ≡ came (take n into) now → n ≡ 0 → left ≡ came input now
read_end left was now input into n e f g = e ∙ ap (came input) (f ∙ ap (λ k. came (take k into) now) g ∙ came-none now)

pub read_more : (left was now : Option (List ℕ)) (input part all : List ℕ) → left ≡ came input was → was ≡ came part now → all ≡ input ++ part → left ≡ came all now
read_more left was now input part all e f g = e ∙ ap (came input) f ∙ came-came input part now ∙ ap (λ (i : List ℕ). came i now) (sym g)

-- a slice that was written back into what it was lent from whole
pub written_back : (len : ℕ) (into items : List ℕ) → length into ≡ len → take len (into ++ drop (length into) items) ≡ into
written_back len into items e = ap (λ n. take n (into ++ drop (length into) items)) (sym e) ∙ take-append_seam into (drop (length into) items)
