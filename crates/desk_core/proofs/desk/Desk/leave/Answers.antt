use Rattle.std.proofs.Common.{◌++◌, ◌∙◌, sym, subst}
use Rattle.desk_core.specs.Desk.{DeskState, Stands}
use Rattle.desk_core.specs.State.{state}
use Rattle.desk_core.proofs.Telling.{counts_on}
use Rattle.desk_core.proofs.Adding.{added_leave}
use Rattle.desk_core.proofs.desk.Desk.leave.Goals as goal

pub add-requires : goal.add-requires
add-requires c = counts_on (state c.self.inside) c.self.invariant.0 c.self.invariant.1 c.entries_are_few.ensures

pub invariant_of-self : goal.invariant_of-self
invariant_of-self c =
    let h = c.self.invariant.0 in
    let a = added_leave (state c.self.inside) h c.args.viewer c.add.new.self c.remove.new.self c.self.invariant.1 (sym c.is_live.ensures.live ∙ c.if-not-is_live.false) c.add.ensures c.remove.ensures in
    (a.added ++ h, a.stands)

pub returns-clause-step : goal.returns-clause-step
returns-clause-step c = λ h stood.
    let d = state c.self.inside in
    let s : Stands d h = subst (λ (k : DeskState). Stands k h) (sym c.self.view_is) stood in
    added_leave d h c.args.viewer c.add.new.self c.remove.new.self s (sym c.is_live.ensures.live ∙ c.if-not-is_live.false) c.add.ensures c.remove.ensures
