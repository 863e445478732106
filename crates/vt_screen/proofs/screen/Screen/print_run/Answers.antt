use Rattle.std.proofs.Common.{arith}
use Rattle.vt_screen.proofs.RunLaws.{printed_on}
use Rattle.vt_screen.proofs.screen.Screen.print_run.Goals as goal

pub loop-at-preserved : goal.loop-at-preserved
loop-at-preserved c = record {
  within = omega arith;
  printed = printed_on c.args.self.now c.loop-at.self c.args.text.now c.loop-at.at c.print_some-at.result c.print_some-at.new.self c.loop-at.invariant.printed c.print_some-at.ensures.state;
}
