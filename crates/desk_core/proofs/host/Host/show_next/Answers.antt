use Rattle.std.proofs.Common.{arith}
use Rattle.std.proofs.lemmas.Result.{IfOk-weaker}
use Rattle.ecma_parser.specs.State.{control_by}
use Rattle.desk_core.proofs.DataRuns.{next_showed, skip_showed}
use Rattle.desk_core.proofs.host.Host.show_next.Goals as goal

pub returns-then-count-eq0 : goal.returns-then-count-eq0
returns-then-count-eq0 c = IfOk-weaker c.show_byte.result _ _
    (λ count shown. skip_showed c.args.self.now c.show_byte.new.self c.read_next-completed.new.parser c.args.bytes.now c.args.into.now.items c.show_byte.new.into.items
    c.read_next-completed.result.1 count c.if-count-eq0.true c.read_next-completed.ensures.state shown) c.show_byte.ensures

pub returns : goal.returns
returns c =
    let read = c.read_next-completed in
    next_showed c.args.self.now read.new.parser c.apply_completed.new.screen (control_by read.result.0 read.new.parser.machine.sequence)
    c.args.bytes.now c.args.into.now.items c.apply_completed.new.into.items read.result.1 (omega (arith, c.if-count-eq0.false)) read.ensures.within
    read.ensures.controls read.ensures.state c.apply_completed.ensures.screen c.in_ok-apply_completed.ensures.appended
