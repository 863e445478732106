use Rattle.std.proofs.Common.{◌≡◌, ◌++◌, ◌∙◌, true, refl, sym, subst}
use Rattle.gate_model.specs.session.Delivered.{position}
use Rattle.gate_model.specs.session.History.{frames}
use Rattle.display_history.specs.Laws.{texts_of}
use Rattle.viewer_book.specs.Book.{is_live}
use Rattle.desk_core.specs.Desk.{DeskState, Stands}
use Rattle.desk_core.specs.State.{state}
use Rattle.desk_core.proofs.Results.{is_none}
use Rattle.desk_core.proofs.Telling.{reading, shut_is, counts_on}
use Rattle.desk_core.proofs.Updating.{is_behind}
use Rattle.desk_core.proofs.Answering.{read_stops}
use Rattle.desk_core.proofs.Adding.{added_read}
use Rattle.desk_core.proofs.desk.Desk.read.Goals as goal

pub returns-in-Some-clause-step : goal.returns-in-Some-clause-step
returns-in-Some-clause-step c = λ h stood. read_stops c.args.self.now h c.args.viewer c.in-Some.stop c.args.into.now.items stood (sym (c.read_stop.ensures h stood) ∙ c.in-Some.is)

pub update-requires : goal.update-requires
update-requires c =
    let d = state c.self.inside in
    let h = c.self.invariant.0 in
    let s : Stands d h = c.self.invariant.1 in
    let r = reading d h c.args.viewer s (sym (c.read_stop.ensures h (subst (λ (k : DeskState). Stands k h) c.self.view_is s)) ∙ is_none c.read_stop.result c.in_default.not-Some) in
    subst (λ (k : DeskState). is_live k.book c.args.viewer ≡ true) c.self.view_is r.there

pub add-requires : goal.add-requires
add-requires c = counts_on (state c.self.inside) c.self.invariant.0 c.self.invariant.1 c.entries_are_few.ensures

pub bring-requires-clause-live : goal.bring-requires-clause-live
bring-requires-clause-live c =
    let d = state c.self.inside in
    let h = c.self.invariant.0 in
    let s : Stands d h = c.self.invariant.1 in
    (reading d h c.args.viewer s (sym (c.read_stop.ensures h (subst (λ (k : DeskState). Stands k h) c.self.view_is s)) ∙ is_none c.read_stop.result c.in_default.not-Some)).there

pub bring-requires-clause-behind : goal.bring-requires-clause-behind
bring-requires-clause-behind c =
    let d = state c.self.inside in
    let h = c.self.invariant.0 in
    let s : Stands d h = c.self.invariant.1 in
    let stood : Stands c.args.self.now h = subst (λ (k : DeskState). Stands k h) c.self.view_is s in
    let free = sym (c.read_stop.ensures h stood) ∙ is_none c.read_stop.result c.in_default.not-Some in
    λ w found. is_behind d h c.args.viewer c.in_ok-update.update c.is_some-closed.result w s free (c.in_ok-update.ensures.brings h stood) c.covers_history.ensures (c.is_some-closed.ensures ∙ shut_is d h s) found

pub invariant_of-self : goal.invariant_of-self
invariant_of-self c =
    let d = state c.self.inside in
    let h = c.self.invariant.0 in
    let s : Stands d h = c.self.invariant.1 in
    let stood : Stands c.args.self.now h = subst (λ (k : DeskState). Stands k h) c.self.view_is s in
    let free = sym (c.read_stop.ensures h stood) ∙ is_none c.read_stop.result c.in_default.not-Some in
    let a = added_read d h c.args.viewer c.in_ok-update.update d.frames.stamp c.is_some-closed.result c.add.new.self c.bring.new.book c.args.into.now.items c.update.new.into.items s free (c.in_ok-update.ensures.brings h stood) refl (c.is_some-closed.ensures ∙ shut_is d h s) c.add.ensures (c.bring.ensures (texts_of (frames h)) (position h c.args.viewer) s.frames.kept (λ w found. (s.book.seated c.args.viewer w found).position)) (c.in_ok-update.ensures.appended h stood) in
    (a.added ++ h, a.stands)

pub returns-clause-step : goal.returns-clause-step
returns-clause-step c = λ h stood.
    let d = state c.self.inside in
    let s : Stands d h = subst (λ (k : DeskState). Stands k h) (sym c.self.view_is) stood in
    let free = sym (c.read_stop.ensures h stood) ∙ is_none c.read_stop.result c.in_default.not-Some in
    added_read d h c.args.viewer c.in_ok-update.update d.frames.stamp c.is_some-closed.result c.add.new.self c.bring.new.book c.args.into.now.items c.update.new.into.items s free (c.in_ok-update.ensures.brings h stood) refl (c.is_some-closed.ensures ∙ shut_is d h s) c.add.ensures (c.bring.ensures (texts_of (frames h)) (position h c.args.viewer) s.frames.kept (λ w found. (s.book.seated c.args.viewer w found).position)) (c.in_ok-update.ensures.appended h stood)
