use Rattle.screen_grid.proofs.Drawing.{drawn_more, drawn_all}
use Rattle.screen_grid.proofs.runs.draw.Goals as goal

pub loop-i-preserved : goal.loop-i-preserved
loop-i-preserved c = drawn_more c.args.text.now c.args.run.now c.loop-i.run c.args.pen c.loop-i.i c.from.result c.requires c.loop-i-test.true c.from.ensures c.loop-i.invariant

pub returns : goal.returns
returns c = drawn_all c.args.text.now c.args.run.now c.loop-i.run c.args.pen c.loop-i.i c.requires c.loop-i-test.false c.loop-i.invariant
