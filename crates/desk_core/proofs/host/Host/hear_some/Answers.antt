use Rattle.std.proofs.Common.{refl}
use Rattle.telnet_wire.specs.Parts.{given}
use Rattle.desk_core.specs.declared.host.Host.{Host}
use Rattle.desk_core.proofs.Hearing.{hears_some}
use Rattle.desk_core.proofs.host.Host.hear_some.Goals as goal

pub returns : goal.returns
returns c =
    let old = c.args.self.now in
    let mid : Host = record { wire = c.next.new.self; options = old.options; parser = old.parser; screen = old.screen } in
    let read = c.in_ok-part.ensures in
    let took = c.in_ok-take_part.ensures in
    hears_some old mid c.take_part.new.self c.args.cols c.args.rows c.args.term.now c.args.bytes.now c.args.into.now.items c.take_part.new.into.items
    c.in_ok-part.count (given c.in_ok-part.part) read.few.0 read.few.1 read.tokens read.state refl refl refl took.wire took.taken took.appended
