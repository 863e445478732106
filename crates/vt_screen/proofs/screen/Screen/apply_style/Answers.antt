use Rattle.std.proofs.Common.{false, refl, ap, ◌∙◌}
use Rattle.gate_model.specs.declared.control.Control.TheVariants.{Csi}
use Rattle.gate_model.specs.terminal.Effects.{effect}
use Rattle.vt_screen.proofs.MendedActs.{as_acted, nothing_left, still_mended}
use Rattle.vt_screen.proofs.screen.Screen.apply_style.Goals as goal

pub invariant_of-self : goal.invariant_of-self
invariant_of-self c =
    let s = c.self.inside.state in
    still_mended (Csi false c.args.params.now 0x6D) s c.act_style.new.self c.act_style.ensures (nothing_left false c.args.params.now 0x6D s c.fits.ensures c.self.invariant refl)

pub returns : goal.returns
returns c =
    let s = c.self.inside.state in
    let control = Csi false c.args.params.now 0x6D in
    as_acted control s c.act_style.new.self c.act_style.ensures c.fits-2.ensures.full (nothing_left false c.args.params.now 0x6D s c.fits.ensures c.self.invariant refl)
    ∙ ap (effect control) c.self.view_is
