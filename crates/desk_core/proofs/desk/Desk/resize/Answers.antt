use Rattle.std.proofs.Common.{◌≡◌, ℕ, ◌+◌, List, [], ◌++◌, ◌∙◌, refl, ap, sym, subst, arith}
use Rattle.std.specs.Prelude.{None, Result, Err, OnErr}
use Rattle.std.proofs.lemmas.Result.{err_from_is_err_and}
use Rattle.gate_model.specs.declared.event.Event.TheVariants.{Resize}
use Rattle.gate_model.specs.declared.resize_refusal.ResizeRefusal.{ResizeRefusal}
use Rattle.gate_model.specs.declared.resize_refusal.ResizeRefusal.TheVariants.{NoMemory as resize_no_memory}
use Rattle.gate_model.specs.session.Refusals.{resize_refusal}
use Rattle.desk_core.specs.Calls.{Ended, resize_answer}
use Rattle.desk_core.specs.Desk.{DeskState, Stands}
use Rattle.desk_core.specs.Drawing.{Redraws}
use Rattle.desk_core.specs.State.{state}
use Rattle.desk_core.proofs.Results.{is_none}
use Rattle.desk_core.proofs.Telling.{resize_goes, small, stays_few}
use Rattle.desk_core.proofs.Answering.{resize_stops}
use Rattle.desk_core.proofs.Resized.{added_size, turned_colours}
use Rattle.desk_core.proofs.desk.Desk.resize.Goals as goal

pub returns-in-Some-clause-step : goal.returns-in-Some-clause-step
returns-in-Some-clause-step c = λ h stood. resize_stops c.args.self.now h c.args.viewer c.args.cols c.args.rows c.in-Some.refusal [] stood c.requires (sym (c.resize_refusal.ensures h stood) ∙ c.in-Some.is)

pub overflow_add-stamp : goal.overflow_add-stamp
overflow_add-stamp c = omega (arith, c.stamp-stamp.ensures, (small (state c.self.inside) c.self.invariant.0 c.self.invariant.1).stamp)

pub redraw-requires-clause-coloured : goal.redraw-requires-clause-coloured
redraw-requires-clause-coloured c = turned_colours (state c.self.inside) c.self.invariant.0 c.args.cols c.args.rows c.in_ok-turned.turned c.self.invariant.1 c.in_ok-turned.ensures

pub size-requires : goal.size-requires
size-requires c =
    let d = state c.self.inside in
    let h = c.self.invariant.0 in
    let s : Stands d h = c.self.invariant.1 in
    let stood : Stands c.args.self.now h = subst (λ (k : DeskState). Stands k h) c.self.view_is s in
    let allowed : resize_refusal h c.args.viewer c.args.cols c.args.rows ≡ None = sym (c.resize_refusal.ensures h stood) ∙ is_none c.resize_refusal.result c.in_default.not-Some in
    omega (arith, stays_few d h s (resize_goes h c.args.viewer c.args.cols c.args.rows allowed))

-- for want of memory nothing was drawn
pub returns-in_err-drawn-clause-step : goal.returns-in_err-drawn-clause-step
returns-in_err-drawn-clause-step c = λ h stood.
    let p = err_from_is_err_and c.from_residual-in_err-drawn.result c.from_residual-in_err-drawn.ensures.1 in
    let e : c.from_residual-in_err-drawn.result ≡ Err resize_no_memory = p.1 ∙ ap (λ (r : ResizeRefusal). Err r) p.2 in
    let allowed : resize_refusal h c.args.viewer c.args.cols c.args.rows ≡ None = sym (c.resize_refusal.ensures h stood) ∙ is_none c.resize_refusal.result c.in_default.not-Some in
    subst (λ (r : Result ℕ ResizeRefusal). Ended h (Resize c.args.viewer c.args.cols c.args.rows) (resize_answer r) c.args.self.now c.args.self.now [] []) (sym e)
    record { unstopped = rw allowed refl; desk = refl; buffer = refl }

pub returns-in_err-put-clause-step : goal.returns-in_err-put-clause-step
returns-in_err-put-clause-step c = λ h stood.
    let d = state c.self.inside in
    let p = err_from_is_err_and c.from_residual-in_err-put.result c.from_residual-in_err-put.ensures.1 in
    let e : c.from_residual-in_err-put.result ≡ Err resize_no_memory = p.1 ∙ ap (λ (r : ResizeRefusal). Err r) p.2 in
    let allowed : resize_refusal h c.args.viewer c.args.cols c.args.rows ≡ None = sym (c.resize_refusal.ensures h stood) ∙ is_none c.resize_refusal.result c.in_default.not-Some in
    let same : record d { outgoing = c.put.new.outgoing; frames = c.put.new.frames } ≡ d = rw (c.in_err-put.ensures.outgoing, c.in_err-put.ensures.frames) refl in
    subst (λ (r : Result ℕ ResizeRefusal). Ended h (Resize c.args.viewer c.args.cols c.args.rows) (resize_answer r) c.args.self.now record d { outgoing = c.put.new.outgoing; frames = c.put.new.frames } [] []) (sym e)
    record { unstopped = rw allowed refl; desk = same ∙ c.self.view_is; buffer = refl }

pub returns-in_err-put-clause-unchanged : goal.returns-in_err-put-clause-unchanged
returns-in_err-put-clause-unchanged c =
    let d = state c.self.inside in
    let same : record d { outgoing = c.put.new.outgoing; frames = c.put.new.frames } ≡ d = rw (c.in_err-put.ensures.outgoing, c.in_err-put.ensures.frames) refl in
    let p = err_from_is_err_and c.from_residual-in_err-put.result c.from_residual-in_err-put.ensures.1 in
    subst (λ (r : Result ℕ ResizeRefusal). OnErr r (record d { outgoing = c.put.new.outgoing; frames = c.put.new.frames } ≡ c.args.self.now)) (sym p.1) (same ∙ c.self.view_is)

pub invariant_of-self-2 : goal.invariant_of-self-2
invariant_of-self-2 c =
    let d = state c.self.inside in
    let h = c.self.invariant.0 in
    let s : Stands d h = c.self.invariant.1 in
    let stood : Stands c.args.self.now h = subst (λ (k : DeskState). Stands k h) c.self.view_is s in
    let allowed : resize_refusal h c.args.viewer c.args.cols c.args.rows ≡ None = sym (c.resize_refusal.ensures h stood) ∙ is_none c.resize_refusal.result c.in_default.not-Some in
    let draws = subst (Redraws d.drawing c.in_ok-turned.turned.host.screen (c.stamp-stamp.result + 1) c.in_ok-drawn.drawn.frame) (sym c.show.ensures) c.in_ok-drawn.ensures in
    let a = added_size d h c.args.viewer c.args.cols c.args.rows (c.stamp-stamp.result + 1) c.in_ok-turned.turned c.in_ok-drawn.drawn.frame c.size.new.self c.put.new.outgoing c.put.new.frames c.show.new.self s c.requires allowed (ap (λ n. n + 1) c.stamp-stamp.ensures) c.in_ok-turned.ensures draws
    c.size.ensures (c.in_ok-put.ensures.waits ∙ ap (λ (xs : List ℕ). d.outgoing ++ xs) c.deref.ensures.value) c.in_ok-put.ensures.shows in
    (a.added ++ h, a.stands)

pub returns-clause-step : goal.returns-clause-step
returns-clause-step c = λ h stood.
    let d = state c.self.inside in
    let s : Stands d h = subst (λ (k : DeskState). Stands k h) (sym c.self.view_is) stood in
    let allowed : resize_refusal h c.args.viewer c.args.cols c.args.rows ≡ None = sym (c.resize_refusal.ensures h stood) ∙ is_none c.resize_refusal.result c.in_default.not-Some in
    let draws = subst (Redraws d.drawing c.in_ok-turned.turned.host.screen (c.stamp-stamp.result + 1) c.in_ok-drawn.drawn.frame) (sym c.show.ensures) c.in_ok-drawn.ensures in
    added_size d h c.args.viewer c.args.cols c.args.rows (c.stamp-stamp.result + 1) c.in_ok-turned.turned c.in_ok-drawn.drawn.frame c.size.new.self c.put.new.outgoing c.put.new.frames c.show.new.self s c.requires allowed (ap (λ n. n + 1) c.stamp-stamp.ensures) c.in_ok-turned.ensures draws
    c.size.ensures (c.in_ok-put.ensures.waits ∙ ap (λ (xs : List ℕ). d.outgoing ++ xs) c.deref.ensures.value) c.in_ok-put.ensures.shows

pub returns-clause-few : goal.returns-clause-few
returns-clause-few c =
    let d = state c.self.inside in
    let h = c.self.invariant.0 in
    let s : Stands d h = c.self.invariant.1 in
    let stood : Stands c.args.self.now h = subst (λ (k : DeskState). Stands k h) c.self.view_is s in
    let allowed : resize_refusal h c.args.viewer c.args.cols c.args.rows ≡ None = sym (c.resize_refusal.ensures h stood) ∙ is_none c.resize_refusal.result c.in_default.not-Some in
    omega (arith, ap (λ k. k.entries) c.size.ensures, stays_few d h s (resize_goes h c.args.viewer c.args.cols c.args.rows allowed))
