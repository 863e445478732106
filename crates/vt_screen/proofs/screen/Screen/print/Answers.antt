use Rattle.std.proofs.Common.{ap, sym, ◌∙◌}
use Rattle.gate_model.specs.declared.control.Control.TheVariants.{Print}
use Rattle.gate_model.specs.terminal.Effects.{effect}
use Rattle.vt_screen.proofs.MendedActs.{as_mended, now_mended}
use Rattle.vt_screen.proofs.PrintLaws.{left_printed, none_effect}
use Rattle.vt_screen.proofs.screen.Screen.print.Goals as goal

pub returns-in_default : goal.returns-in_default
returns-in_default c =
    none_effect c.args.ch c.self.inside.state c.print.new.self c.fits.ensures.full c.self.invariant c.print.ensures.state (sym c.print.ensures.columns ∙ c.in_default.is)
    ∙ ap (effect (Print c.args.ch)) c.self.view_is

pub mend_line-requires : goal.mend_line-requires
mend_line-requires c =
    (left_printed c.args.ch c.in-Some.from c.in-Some.to c.self.inside.state c.print.new.self c.print.result c.fits.ensures c.self.invariant c.print.ensures.state c.print.ensures.columns c.in-Some.is).line (sym c.inserts.ensures ∙ c.if-inserts.true)

pub invariant_of-self-then-inserts : goal.invariant_of-self-then-inserts
invariant_of-self-then-inserts c = now_mended c.print.new.self c.mend_line.new.self c.fits-2.ensures.full c.mend_line.ensures

pub mend_beside-requires-clause-column : goal.mend_beside-requires-clause-column
mend_beside-requires-clause-column c =
    (left_printed c.args.ch c.in-Some.from c.in-Some.to c.self.inside.state c.print.new.self c.print.result c.fits.ensures c.self.invariant c.print.ensures.state c.print.ensures.columns c.in-Some.is).column

pub mend_beside-requires-clause-others : goal.mend_beside-requires-clause-others
mend_beside-requires-clause-others c =
    (left_printed c.args.ch c.in-Some.from c.in-Some.to c.self.inside.state c.print.new.self c.print.result c.fits.ensures c.self.invariant c.print.ensures.state c.print.ensures.columns c.in-Some.is).beside (sym c.inserts.ensures ∙ c.if-inserts.false)

pub invariant_of-self-else-inserts : goal.invariant_of-self-else-inserts
invariant_of-self-else-inserts c = now_mended c.print.new.self c.mend_beside.new.self c.fits-2.ensures.full c.mend_beside.ensures

pub returns-then-inserts : goal.returns-then-inserts
returns-then-inserts c =
    as_mended (Print c.args.ch) c.self.inside.state c.print.new.self c.mend_line.new.self c.print.ensures.state c.mend_line.ensures
    ∙ ap (effect (Print c.args.ch)) c.self.view_is

pub returns-else-inserts : goal.returns-else-inserts
returns-else-inserts c =
    as_mended (Print c.args.ch) c.self.inside.state c.print.new.self c.mend_beside.new.self c.print.ensures.state c.mend_beside.ensures
    ∙ ap (effect (Print c.args.ch)) c.self.view_is
