use Rattle.std.proofs.Common.{◌++◌, length, ◌∙◌, sym, subst}
use Rattle.desk_core.specs.Desk.{DeskState, Stands}
use Rattle.desk_core.specs.State.{state}
use Rattle.desk_core.proofs.Telling.{counts_on, shut_is}
use Rattle.desk_core.proofs.Adding.{added_take, nothing_taken}
use Rattle.desk_core.proofs.desk.Desk.take.Goals as goal

pub add-requires : goal.add-requires
add-requires c = counts_on (state c.self.inside) c.self.invariant.0 c.self.invariant.1 c.entries_are_few.ensures

pub returns-then-count-eq0-clause-step : goal.returns-then-count-eq0-clause-step
returns-then-count-eq0-clause-step c = λ h stood.
    let d = state c.self.inside in
    let s : Stands d h = subst (λ (k : DeskState). Stands k h) (sym c.self.view_is) stood in
    nothing_taken d h c.take-count.result (length c.args.into.now) c.is_some-closed.result c.take-count.new.self c.take-count.new.into s (c.is_some-closed.ensures ∙ shut_is d h s) c.take-count.ensures.count c.if-count-eq0.true c.take-count.ensures.rest

pub invariant_of-self-2 : goal.invariant_of-self-2
invariant_of-self-2 c =
    let d = state c.self.inside in
    let h = c.self.invariant.0 in
    let s : Stands d h = c.self.invariant.1 in
    let a = added_take d h c.take-count.result c.is_some-closed.result c.add.new.self c.take-count.new.self c.args.into.now c.take-count.new.into s (c.is_some-closed.ensures ∙ shut_is d h s) c.take-count.ensures.count c.if-count-eq0.false c.add.ensures c.take-count.ensures.rest c.take-count.ensures.handed in
    (a.added ++ h, a.stands)

pub returns-clause-step : goal.returns-clause-step
returns-clause-step c = λ h stood.
    let d = state c.self.inside in
    let s : Stands d h = subst (λ (k : DeskState). Stands k h) (sym c.self.view_is) stood in
    added_take d h c.take-count.result c.is_some-closed.result c.add.new.self c.take-count.new.self c.args.into.now c.take-count.new.into s (c.is_some-closed.ensures ∙ shut_is d h s) c.take-count.ensures.count c.if-count-eq0.false c.add.ensures c.take-count.ensures.rest c.take-count.ensures.handed
