use Rattle.std.proofs.Common.{ap, sym, subst, ◌∙◌}
use Rattle.gate_model.specs.declared.control.Control.TheVariants.{Csi}
use Rattle.gate_model.specs.terminal.Effects.{effect}
use Rattle.gate_model.specs.terminal.MendLaws.{AreMendedBut}
use Rattle.gate_model.specs.terminal.Terminal.{Terminal}
use Rattle.vt_screen.proofs.MendedActs.{as_acted, line_left, nothing_left, now_mended, still_mended}
use Rattle.vt_screen.proofs.screen.Screen.control.Goals as goal

pub invariant_of-self : goal.invariant_of-self
invariant_of-self c =
    let s = c.self.inside.state in
    let none = nothing_left c.args.private c.args.params.now c.args.last s c.fits.ensures c.self.invariant (sym c.reach_of.ensures ∙ c.in-Nothing.is) in
    still_mended (Csi c.args.private c.args.params.now c.args.last) s c.act_control.new.self c.act_control.ensures none

pub mend_line-requires : goal.mend_line-requires
mend_line-requires c =
    let s = c.self.inside.state in
    subst (λ (t : Terminal). AreMendedBut t.y t.grid) (sym c.act_control.ensures)
    (line_left c.args.private c.args.params.now c.args.last s c.fits.ensures c.self.invariant (sym c.reach_of.ensures ∙ c.in-Line.is))

pub invariant_of-self-in-Line : goal.invariant_of-self-in-Line
invariant_of-self-in-Line c = now_mended c.act_control.new.self c.mend_line.new.self c.fits-2.ensures.full c.mend_line.ensures

pub invariant_of-self-in-All : goal.invariant_of-self-in-All
invariant_of-self-in-All c = now_mended c.act_control.new.self c.mend.new.self c.fits-2.ensures.full c.mend.ensures

pub returns-in-Nothing : goal.returns-in-Nothing
returns-in-Nothing c =
    let s = c.self.inside.state in
    let control = Csi c.args.private c.args.params.now c.args.last in
    let none = nothing_left c.args.private c.args.params.now c.args.last s c.fits.ensures c.self.invariant (sym c.reach_of.ensures ∙ c.in-Nothing.is) in
    as_acted control s c.act_control.new.self c.act_control.ensures c.fits-2.ensures.full none
    ∙ ap (effect control) c.self.view_is
