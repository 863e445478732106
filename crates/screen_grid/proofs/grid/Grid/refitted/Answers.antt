use Rattle.std.proofs.Common.{◌*◌, arith}
use Rattle.screen_grid.proofs.Refitting.{filled_none, filled_more, filled_all}
use Rattle.screen_grid.proofs.grid.Grid.refitted.Goals as goal

pub loop-at-init : goal.loop-at-init
loop-at-init c = filled_none c.args.self.now c.args.cols (c.args.rows * c.args.cols) c.in_ok-held.held c.in_ok-held.ensures

pub put-requires : goal.put-requires
put-requires c = omega (arith, c.loop-at-test.true, c.loop-at.invariant.size)

pub loop-at-preserved : goal.loop-at-preserved
loop-at-preserved c = filled_more c.args.self.now c.args.cols (c.args.rows * c.args.cols) c.loop-at.at c.loop-at.held c.put.new.self c.kept.result c.loop-at-test.true c.kept.ensures c.put.ensures c.loop-at.invariant

pub returns : goal.returns
returns c = filled_all c.args.self.now c.args.cols c.args.rows c.loop-at.at c.loop-at.held c.loop-at.auto.at-end (omega arith) c.loop-at.invariant
