use Rattle.std.proofs.Common.{[], refl, sym, subst, take}
use Rattle.telnet_wire.specs.State.{StandsFor}
use Rattle.telnet_wire.proofs.StateLaws.{gives-run-after}
use Rattle.telnet_wire.proofs.reader.Reader.next.Goals as goal

pub returns-then-count-gt0-clause-gives : goal.returns-then-count-gt0-clause-gives
returns-then-count-gt0-clause-gives c = λ rest stands.
    let old = c.args.self.now in
    gives-run-after rest (take c.data_length-count.result c.args.piece.now) old c.data_length-count.ensures.data
    (subst (λ state. StandsFor state old.kept rest) c.in-Data.is stands) (subst (λ state. StandsFor state old.kept []) (sym c.in-Data.is) refl)
