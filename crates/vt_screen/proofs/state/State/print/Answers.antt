use Rattle.std.proofs.Common.{◌<◌, Some, ap, arith, sym, ◌∙◌}
use Rattle.gate_model.specs.terminal.Printing.{width_of}
use Rattle.gate_model.specs.terminal.Terminal.{Terminal}
use Rattle.vt_screen.proofs.PrintLaws.{box_printed}
use Rattle.vt_screen.proofs.state.State.print.Goals as goal

pub returns-in_default-clause-state : goal.returns-in_default-clause-state
returns-in_default-clause-state c =
    let wide : 1 < width_of c.args.ch = omega (arith, c.width.ensures) in
    let one = ap (λ (t : Terminal). t.grid.cols) (sym c.self.view_is) ∙ (sym c.self.invariant.columns ∙ c.if-self-eq1.true) in
    c.print_narrow-in_default.ensures.state ∙ sym (box_printed c.args.ch c.args.self.now wide one).state

pub returns-in_default-clause-columns : goal.returns-in_default-clause-columns
returns-in_default-clause-columns c =
    let wide : 1 < width_of c.args.ch = omega (arith, c.width.ensures) in
    let one = ap (λ (t : Terminal). t.grid.cols) (sym c.self.view_is) ∙ (sym c.self.invariant.columns ∙ c.if-self-eq1.true) in
    ap Some c.print_narrow-in_default.ensures.columns ∙ sym (box_printed c.args.ch c.args.self.now wide one).columns
