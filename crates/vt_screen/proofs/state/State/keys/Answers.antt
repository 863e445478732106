use Rattle.std.proofs.Common.{List, ◌++◌, map, sym, ap, ◌∙◌}
use Rattle.gate_model.specs.declared.key.Key.{Key}
use Rattle.gate_model.specs.terminal.Cells.{rest_of_row}
use Rattle.gate_model.specs.terminal.Screens.{key_of}
use Rattle.vt_screen.proofs.KeyRows.{rows_more}
use Rattle.vt_screen.proofs.state.State.keys.Goals as goal

pub loop-y-preserved : goal.loop-y-preserved
loop-y-preserved c =
    let g = c.args.self.now.grid in
    let y = c.loop-y.y in
    c.in_ok-push_row.ensures ∙ ap (λ (ks : List Key). ks ++ map (key_of c.args.self.now.faces) (rest_of_row 0 y g)) c.loop-y.invariant ∙ sym (rows_more c.args.self.now.faces g y)
