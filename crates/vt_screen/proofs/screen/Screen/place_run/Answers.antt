use Rattle.std.proofs.Common.{◌+◌, ◌≤◌, length, map, ap, sym, subst, ◌∙◌, arith}
use Rattle.gate_model.specs.declared.control.Control.TheVariants.{Print}
use Rattle.gate_model.specs.terminal.MendLaws.{AreMendedBeside}
use Rattle.gate_model.specs.terminal.Screens.{after_controls}
use Rattle.gate_model.specs.terminal.Terminal.{Terminal}
use Rattle.vt_screen.proofs.MendedActs.{now_mended}
use Rattle.vt_screen.proofs.RunLaws.{run_left, run_placed}
use Rattle.vt_screen.proofs.screen.Screen.place_run.Goals as goal

pub mend_beside-requires-clause-column : goal.mend_beside-requires-clause-column
mend_beside-requires-clause-column c =
    let cols = ap (λ (t : Terminal). t.grid.cols) c.place_run.ensures in
    omega (arith, c.column-from.ensures, cols, c.fits.ensures.cursor.column)

pub mend_beside-requires-clause-others : goal.mend_beside-requires-clause-others
mend_beside-requires-clause-others c =
    let n = length c.args.text.now in
    subst (λ k. AreMendedBeside c.place_run.new.self.y k (k + n) c.place_run.new.self.grid) (sym c.column-from.ensures)
    (run_left c.self.inside.state c.place_run.new.self c.args.text.now c.requires.some
    (subst (λ (t : Terminal). t.x + n ≤ t.grid.cols) (sym c.self.view_is) c.requires.room)
    c.fits.ensures.full c.self.invariant c.fits.ensures.cursor.row c.place_run.ensures)

pub invariant_of-self : goal.invariant_of-self
invariant_of-self c = now_mended c.place_run.new.self c.mend_beside.new.self c.fits-2.ensures.full c.mend_beside.ensures

pub returns : goal.returns
returns c =
    let text = c.args.text.now in
    run_placed c.self.inside.state c.place_run.new.self c.mend_beside.new.self text c.requires.some c.requires.printable
    (subst (λ (t : Terminal). t.x + length text ≤ t.grid.cols) (sym c.self.view_is) c.requires.room)
    (ap (λ (t : Terminal). t.pending) c.self.view_is ∙ c.requires.pending)
    (ap (λ (t : Terminal). t.modes.insert) c.self.view_is ∙ c.requires.insert)
    c.fits.ensures.full c.fits.ensures.cursor.row c.place_run.ensures
    c.mend_beside.ensures
    ∙ ap (λ (t : Terminal). after_controls t (map Print text)) c.self.view_is
