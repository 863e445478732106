use Rattle.std.proofs.Common.{◌≡◌, ◌++◌, ◌∙◌, ap, sym, subst, arith}
use Rattle.std.specs.Prelude.{Result, Err}
use Rattle.std.proofs.lemmas.Result.{err_from_is_err_and}
use Rattle.gate_model.specs.declared.event.Event.TheVariants.{Join}
use Rattle.gate_model.specs.declared.join_refusal.JoinRefusal.{JoinRefusal}
use Rattle.gate_model.specs.declared.joined.Joined.{Joined}
use Rattle.desk_core.specs.Calls.{Ended, join_answer}
use Rattle.desk_core.specs.Desk.{DeskState, Stands}
use Rattle.desk_core.specs.State.{state}
use Rattle.desk_core.proofs.Answering.{join_stops}
use Rattle.desk_core.proofs.Telling.{join_goes, stays_few}
use Rattle.desk_core.proofs.Adding.{added_join}
use Rattle.desk_core.proofs.desk.Desk.join.Goals as goal

-- the viewer isn't admitted
pub returns-in_err-role-clause-step : goal.returns-in_err-role-clause-step
returns-in_err-role-clause-step c = λ h stood.
    let w = c.args.into.now.items in
    let p = err_from_is_err_and c.from_residual.result c.from_residual.ensures.1 in
    let e : c.from_residual.result ≡ Err c.in_err-role.field-0.0 = p.1 ∙ ap (λ (r : JoinRefusal). Err r) p.2 in
    subst (λ (r : Result Joined JoinRefusal). Ended h (Join c.args.asked) (join_answer r) c.args.self.now c.args.self.now w w) (sym e)
    (join_stops c.args.self.now h c.args.asked c.in_err-role.field-0.0 w stood (c.in_err-role.ensures h stood))

-- no picture, for want of memory
pub seat-requires-clause-few_live : goal.seat-requires-clause-few_live
seat-requires-clause-few_live c =
    let h = c.self.invariant.0 in
    let s : Stands (state c.self.inside) h = c.self.invariant.1 in
    let admits = c.in_ok-role.ensures h (subst (λ (k : DeskState). Stands k h) c.self.view_is s) in
    omega (arith, s.book.live, (join_goes h c.args.asked admits.0).live)

pub add-requires : goal.add-requires
add-requires c =
    let d = state c.self.inside in
    let h = c.self.invariant.0 in
    let s : Stands d h = c.self.invariant.1 in
    let admits = c.in_ok-role.ensures h (subst (λ (k : DeskState). Stands k h) c.self.view_is s) in
    omega (arith, stays_few d h s (join_goes h c.args.asked admits.0).goes)

pub invariant_of-self-2 : goal.invariant_of-self-2
invariant_of-self-2 c =
    let d = state c.self.inside in
    let h = c.self.invariant.0 in
    let s : Stands d h = c.self.invariant.1 in
    let stood : Stands c.args.self.now h = subst (λ (k : DeskState). Stands k h) c.self.view_is s in
    let admits = c.in_ok-role.ensures h stood in
    let a = added_join d h c.args.asked c.in_ok-role.role c.in_ok-viewer.viewer c.stamp-stamp.result c.in_ok-first.first c.add.new.self c.seat.new.book c.args.into.now.items c.seat.new.into.items s admits.0 admits.1 (c.in_ok-first.ensures h stood)
    c.in_ok-viewer.ensures.number c.stamp-stamp.ensures c.add.ensures c.in_ok-viewer.ensures.added c.in_ok-viewer.ensures.appended in
    (a.added ++ h, a.stands)

pub returns-clause-step : goal.returns-clause-step
returns-clause-step c = λ h stood.
    let d = state c.self.inside in
    let s : Stands d h = subst (λ (k : DeskState). Stands k h) (sym c.self.view_is) stood in
    let admits = c.in_ok-role.ensures h stood in
    added_join d h c.args.asked c.in_ok-role.role c.in_ok-viewer.viewer c.stamp-stamp.result c.in_ok-first.first c.add.new.self c.seat.new.book c.args.into.now.items c.seat.new.into.items s admits.0 admits.1 (c.in_ok-first.ensures h stood)
    c.in_ok-viewer.ensures.number c.stamp-stamp.ensures c.add.ensures c.in_ok-viewer.ensures.added c.in_ok-viewer.ensures.appended

pub returns-clause-few : goal.returns-clause-few
returns-clause-few c =
    let d = state c.self.inside in
    let h = c.self.invariant.0 in
    let s : Stands d h = c.self.invariant.1 in
    let admits = c.in_ok-role.ensures h (subst (λ (k : DeskState). Stands k h) c.self.view_is s) in
    omega (arith, ap (λ k. k.entries) c.add.ensures, stays_few d h s (join_goes h c.args.asked admits.0).goes)
