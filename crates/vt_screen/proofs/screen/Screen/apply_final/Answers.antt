use Rattle.std.proofs.Common.{ap, ◌∙◌}
use Rattle.gate_model.specs.declared.control.Control.TheVariants.{Esc}
use Rattle.gate_model.specs.terminal.Effects.{effect}
use Rattle.vt_screen.proofs.MendedActs.{as_acted, escape_left, still_mended}
use Rattle.vt_screen.proofs.screen.Screen.apply_final.Goals as goal

pub invariant_of-self : goal.invariant_of-self
invariant_of-self c =
    let s = c.self.inside.state in
    still_mended (Esc c.args.last) s c.act_final.new.self c.act_final.ensures (escape_left c.args.last s c.fits.ensures c.self.invariant)

pub returns : goal.returns
returns c =
    let s = c.self.inside.state in
    as_acted (Esc c.args.last) s c.act_final.new.self c.act_final.ensures c.fits-2.ensures.full (escape_left c.args.last s c.fits.ensures c.self.invariant)
    ∙ ap (effect (Esc c.args.last)) c.self.view_is
