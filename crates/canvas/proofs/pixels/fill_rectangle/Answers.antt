use Rattle.std.proofs.Common.{ℕ, ◌∙◌, ap, min, arith}
use Rattle.canvas.proofs.Fills.{fill_start, fill_step, fill_end}
use Rattle.canvas.proofs.pixels.fill_rectangle.Goals as goal

pub loop-y-init : goal.loop-y-init
loop-y-init c = fill_start c.args.pixels.now c.args.width c.args.height c.min-left.result c.min-right.result c.min-top.result c.args.colour c.requires.size

pub loop-y-preserved : goal.loop-y-preserved
loop-y-preserved c =
    fill_step c.args.pixels.now c.loop-y.pixels c.fill_run.new.pixels c.args.width c.args.height c.min-left.result c.min-right.result c.min-top.result c.loop-y.y c.args.colour
    (omega arith) (omega arith) (omega arith) (omega arith) c.fill_run.ensures c.loop-y.invariant

pub returns : goal.returns
returns c =
    fill_end c.args.pixels.now c.loop-y.pixels c.args.rectangle c.args.width c.args.height c.min-left.result c.min-right.result c.min-top.result c.min-bottom.result c.loop-y.y c.args.colour
    c.requires.columns c.requires.rows c.min-left.ensures (c.min-right.ensures ∙ ap (λ (n : ℕ). min n c.args.width) c.saturating_add.ensures) c.min-top.ensures (c.min-bottom.ensures ∙ ap (λ (n : ℕ). min n c.args.height) c.saturating_add-2.ensures) (omega arith) c.loop-y.invariant
