use Rattle.std.proofs.Common.{ap, arith}
use Rattle.gate_model.specs.terminal.Terminal.{Terminal}
use Rattle.vt_screen.proofs.KeyRows.{row_pushed}
use Rattle.vt_screen.proofs.state.State.push_row.Goals as goal

pub loop-x-preserved : goal.loop-x-preserved
loop-x-preserved c =
    let v = c.self.invariant in
    row_pushed c.self.inside.faces c.self.inside.grid c.loop-x.x c.args.y c.args.keys.now.items _ _ _ _ v.full (omega (arith, v.columns)) (omega (arith, ap (λ (t : Terminal). t.grid.rows) c.self.view_is))
    c.loop-x.invariant c.in_ok-push.ensures.items c.key_of.ensures c.cell.ensures.cell
