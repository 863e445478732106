use Rattle.std.proofs.Common.{arith}
use Rattle.desk_core.proofs.DataRuns.{length-rest, showed_more}
use Rattle.desk_core.proofs.host.Host.show_run.Goals as goal

pub loop-at-preserved : goal.loop-at-preserved
loop-at-preserved c =
    let some = c.in_ok-at.ensures in
    let within = some.within in
    record {
      within = omega (arith, within, length-rest c.args.bytes.now c.loop-at.at);
      shown = showed_more c.args.self.now c.loop-at.self c.show_some.new.self c.args.bytes.now c.args.into.now.items c.loop-at.into.items c.show_some.new.into.items
          c.loop-at.at c.in_ok-at.field-0 c.loop-at.invariant.shown some;
    }
