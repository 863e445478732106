use Rattle.std.specs.Prelude.{IfSome}
use Rattle.gate_outside.specs.Helpers.{KeepsCounts}
use Rattle.id_table.specs.Draws.{AreNext, AreThere, Gone}
use Rattle.id_table.specs.Tables.{held}
use Rattle.id_table.proofs.id_table.IdTable.draw.Given as goal

abbrev pub invariant-loop-n : goal.invariant-loop-n
invariant-loop-n g l =
    let draws = (g.D.Counted.helper l.fn.dice).draws in
    record {
      there : AreThere (held l.fn.self) l.n l.drawn;
      gone : Gone l.n draws (g.D.Counted.helper l.dice).draws;
      next : IfSome draws (λ d. AreNext d l.n l.drawn);
      counts : KeepsCounts (g.D.Counted.helper l.fn.dice) (g.D.Counted.helper l.dice);
    }
