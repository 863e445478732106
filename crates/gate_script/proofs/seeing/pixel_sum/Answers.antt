use Rattle.std.proofs.Common.{◌≡◌, ℕ, List, sym, subst}
use Rattle.std.specs.Prelude.{Option, IfOk, IfSome}
use Rattle.gate_model.specs.picture.Layers.{visible}
use Rattle.canvas.specs.Kept.{KeptLayer}
use Rattle.canvas.specs.Standing.{Stands}
use Rattle.gate_script.specs.Plays.{rows_sum}
use Rattle.gate_script.proofs.seeing.pixel_sum.Goals as goal

pub returns-clause-sum : goal.returns-clause-sum
returns-clause-sum c = λ m some shows.
    let s = subst (λ (o : Option (List KeptLayer)). IfSome o (λ canvas. Stands canvas m)) (sym c.in-Some.ensures) shows in
    subst (λ (k : ℕ). IfOk c.rows_sum.result (λ sum. sum ≡ rows_sum (m visible) k)) (c.layer_size-width.ensures.height m s) (c.rows_sum.ensures m s (c.layer_size-width.ensures.width m s))
