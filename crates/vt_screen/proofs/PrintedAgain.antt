-- A character that is printed again and again.
use Rattle.std.proofs.Common.{◌≡◌, ℕ, zero, suc, ◌-◌, ◌<◌, ap, arith}
use Rattle.gate_model.specs.terminal.Printing.{printed, printed_often}
use Rattle.gate_model.specs.terminal.Terminal.{Terminal}

-- one more turn
pub again : (n c : ℕ) (t : Terminal) → 0 < n → printed_often (n - 1) c (printed c t) ≡ printed_often n c t
unfolding printed_often
again zero c t lt = absurd (omega (arith, lt))
again (suc n) c t lt = let e : suc n - 1 ≡ n = omega arith in ap (λ (k : ℕ). printed_often k c (printed c t)) e

-- no turn
pub no_more : (n c : ℕ) (t : Terminal) → n ≡ 0 → printed_often n c t ≡ t
unfolding printed_often
no_more n c t e = ap (λ (k : ℕ). printed_often k c t) e
