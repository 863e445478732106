use Rattle.std.proofs.Common.{◌≡◌, [], ◌++◌, ◌∙◌, refl, sym, subst}
use Rattle.std.specs.Prelude.{Some, Err}
use Rattle.gate_model.specs.declared.answer.Answer.TheVariants.{Close as was_closed}
use Rattle.gate_model.specs.declared.event.Event.TheVariants.{Close}
use Rattle.gate_model.specs.session.Refusals.{close_cause}
use Rattle.gate_model.proofs.Stepping.{close_stop}
use Rattle.desk_core.proofs.Answering.{stays}
use Rattle.desk_core.specs.Desk.{DeskState, Stands}
use Rattle.desk_core.specs.State.{state}
use Rattle.desk_core.proofs.Results.{is_none}
use Rattle.desk_core.proofs.Telling.{counts_on}
use Rattle.desk_core.proofs.Adding.{added_close}
use Rattle.desk_core.proofs.desk.Desk.close.Goals as goal

pub returns-in-Some-clause-step : goal.returns-in-Some-clause-step
returns-in-Some-clause-step c = λ h stood.
    let d = state c.self.inside in
    let s : Stands d h = subst (λ (k : DeskState). Stands k h) (sym c.self.view_is) stood in
    let shut : close_cause h ≡ Some c.in-Some.cause = sym s.cause ∙ c.in-Some.is in
    stays c.args.self.now h (Close c.args.cause) (was_closed (Err record { cause = c.in-Some.cause })) [] stood (close_stop h c.args.cause record { cause = c.in-Some.cause } (rw shut refl))

pub add-requires : goal.add-requires
add-requires c = counts_on (state c.self.inside) c.self.invariant.0 c.self.invariant.1 c.entries_are_few.ensures

pub invariant_of-self : goal.invariant_of-self
invariant_of-self c =
    let h = c.self.invariant.0 in
    let a = added_close (state c.self.inside) h c.args.cause c.add.new.self c.self.invariant.1 (is_none c.self.inside.cause c.in_default.not-Some) c.add.ensures in
    (a.added ++ h, a.stands)

pub returns-clause-step : goal.returns-clause-step
returns-clause-step c = λ h stood.
    let d = state c.self.inside in
    let s : Stands d h = subst (λ (k : DeskState). Stands k h) (sym c.self.view_is) stood in
    added_close d h c.args.cause c.add.new.self s (is_none c.self.inside.cause c.in_default.not-Some) c.add.ensures
