use Rattle.std.proofs.Common.{ap, ◌∙◌}
use Rattle.gate_model.specs.declared.control.Control.TheVariants.{Code}
use Rattle.gate_model.specs.terminal.Effects.{effect}
use Rattle.vt_screen.proofs.MendedActs.{as_acted, code_left, still_mended}
use Rattle.vt_screen.proofs.screen.Screen.apply_character.Goals as goal

pub invariant_of-self : goal.invariant_of-self
invariant_of-self c =
    let s = c.self.inside.state in
    still_mended (Code c.args.code) s c.act_character.new.self c.act_character.ensures (code_left c.args.code s c.fits.ensures c.self.invariant)

pub returns : goal.returns
returns c =
    let s = c.self.inside.state in
    as_acted (Code c.args.code) s c.act_character.new.self c.act_character.ensures c.fits-2.ensures.full (code_left c.args.code s c.fits.ensures c.self.invariant)
    ∙ ap (effect (Code c.args.code)) c.self.view_is
