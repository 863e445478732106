use Rattle.std.proofs.Common.{arith}
use Rattle.desk_core.proofs.DataRuns.{length-rest}
use Rattle.desk_core.proofs.Hearing.{hears_more, hears_none}
use Rattle.desk_core.proofs.host.Host.hear_all.Goals as goal

pub loop-at-init : goal.loop-at-init
loop-at-init c = record {
  within = omega arith;
  heard = hears_none c.args.self.now c.args.cols c.args.rows c.args.term.now c.args.into.now.items;
}

pub loop-at-preserved : goal.loop-at-preserved
loop-at-preserved c =
    let some = c.in_ok-at.ensures in
    let within = some.within in
    record {
      within = omega (arith, within, length-rest c.args.bytes.now c.loop-at.at);
      heard = hears_more c.args.self.now c.loop-at.self c.hear_some.new.self c.args.cols c.args.rows c.args.term.now c.args.bytes.now c.args.into.now.items c.loop-at.into.items c.hear_some.new.into.items
          c.loop-at.at c.in_ok-at.field-0 c.loop-at.invariant.heard some;
    }
