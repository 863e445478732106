use Rattle.std.proofs.Common.{rules, ap, ◌∙◌}
use Rattle.dirty_region.proofs.Differing.{added, passed_over}
use Rattle.dirty_region.proofs.rows.add_row.Goals.{then-differ+in_ok-push, else-differ}
use Rattle.dirty_region.proofs.rows.add_row.Goals as goal

pub loop-x-preserved : goal.loop-x-preserved
loop-x-preserved c = elim c.if-differ.branch [
  | then-differ+in_ok-push w ↦ ap (λ v. v.items) w.held-is ∙ added c.args.before.now c.args.after.now c.args.y c.loop-x.x _ _ c.loop-x-test.true c.requires.width c.differ.result c.differ.ensures w.if-differ.true c.args.held.now.items c.loop-x.held.items w.push.new.self.items c.loop-x.invariant w.in_ok-push.ensures.items
  | else-differ w ↦ ap (λ v. v.items) w.held-is ∙ passed_over c.args.before.now c.args.after.now c.args.y c.loop-x.x _ _ c.loop-x-test.true c.requires.width c.differ.result c.differ.ensures w.if-differ.false c.args.held.now.items c.loop-x.held.items c.loop-x.invariant
]
