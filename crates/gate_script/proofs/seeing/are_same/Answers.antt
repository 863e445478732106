use Rattle.std.proofs.Common.{List, sym, subst}
use Rattle.std.specs.Prelude.{Option, IfSome}
use Rattle.canvas.specs.Kept.{KeptLayer}
use Rattle.canvas.specs.Standing.{Stands}
use Rattle.gate_script.proofs.seeing.are_same.Goals as goal

pub returns-clause-same : goal.returns-clause-same
returns-clause-same c = λ m n s t. c.same.ensures m n
    (subst (λ (o : Option (List KeptLayer)). IfSome o (λ canvas. Stands canvas m)) (sym c.in_ok-one.ensures) s)
    (subst (λ (o : Option (List KeptLayer)). IfSome o (λ canvas. Stands canvas n)) (sym c.in_ok-other.ensures) t)
