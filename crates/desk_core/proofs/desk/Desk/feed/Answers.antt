use Rattle.std.proofs.Common.{◌≡◌, ℕ, List, [], ◌++◌, ◌∙◌, refl, ap, sym, subst, arith}
use Rattle.std.specs.Prelude.{None, Result, Err, OnErr}
use Rattle.std.proofs.lemmas.Result.{err_from_is_err_and}
use Rattle.gate_model.specs.declared.event.Event.TheVariants.{Feed}
use Rattle.gate_model.specs.declared.feed_refusal.FeedRefusal.{FeedRefusal}
use Rattle.gate_model.specs.declared.feed_refusal.FeedRefusal.TheVariants.{NoMemory as feed_no_memory}
use Rattle.desk_core.specs.Calls.{Ended, feed_answer}
use Rattle.gate_model.specs.session.History.{at, next_stamp}
use Rattle.gate_model.specs.session.Refusals.{feed_refusal}
use Rattle.desk_core.specs.Desk.{DeskState, Stands}
use Rattle.desk_core.specs.Drawing.{Draws}
use Rattle.desk_core.specs.Parts.{drawn_by}
use Rattle.desk_core.specs.State.{state}
use Rattle.desk_core.proofs.Results.{is_none}
use Rattle.desk_core.proofs.Telling.{feed_goes, small, stays_few}
use Rattle.desk_core.proofs.Answering.{feed_stops}
use Rattle.desk_core.proofs.Following.{size_of, cols_of, rows_of, colours_of, drawn_cols, drawn_rows}
use Rattle.desk_core.proofs.Adding.{added_feed}
use Rattle.desk_core.proofs.desk.Desk.feed.Goals as goal

pub returns-in-Some-clause-step : goal.returns-in-Some-clause-step
returns-in-Some-clause-step c = λ h stood. feed_stops c.args.self.now h c.args.bytes.now c.args.now c.in-Some.refusal [] stood c.requires (sym (c.feed_refusal.ensures h stood) ∙ c.in-Some.is)

pub next_stamp-stamp-requires : goal.next_stamp-stamp-requires
next_stamp-stamp-requires c = omega (arith, c.stamp.ensures, (small (state c.self.inside) c.self.invariant.0 c.self.invariant.1).stamp)

-- what is heard, at the history for which the desk stands
pub draw-requires-clause-size : goal.draw-requires-clause-size
draw-requires-clause-size c =
    let h = c.self.invariant.0 in
    let s : Stands (state c.self.inside) h = c.self.invariant.1 in
    let stood : Stands c.args.self.now h = subst (λ (k : DeskState). Stands k h) c.self.view_is s in
    size_of h c.in_ok-heard.heard.host (at h).shift c.args.bytes.now s.legal (c.in_ok-heard.ensures h stood).host

pub draw-requires-clause-same_cols : goal.draw-requires-clause-same_cols
draw-requires-clause-same_cols c =
    let h = c.self.invariant.0 in
    let s : Stands (state c.self.inside) h = c.self.invariant.1 in
    let stood : Stands c.args.self.now h = subst (λ (k : DeskState). Stands k h) c.self.view_is s in
    drawn_cols c.self.inside.drawing h s.legal s.drawing ∙ sym (cols_of h c.in_ok-heard.heard.host (at h).shift c.args.bytes.now s.legal (c.in_ok-heard.ensures h stood).host)

pub draw-requires-clause-same_rows : goal.draw-requires-clause-same_rows
draw-requires-clause-same_rows c =
    let h = c.self.invariant.0 in
    let s : Stands (state c.self.inside) h = c.self.invariant.1 in
    let stood : Stands c.args.self.now h = subst (λ (k : DeskState). Stands k h) c.self.view_is s in
    drawn_rows c.self.inside.drawing h s.legal s.drawing ∙ sym (rows_of h c.in_ok-heard.heard.host (at h).shift c.args.bytes.now s.legal (c.in_ok-heard.ensures h stood).host)

pub draw-requires-clause-coloured : goal.draw-requires-clause-coloured
draw-requires-clause-coloured c =
    let h = c.self.invariant.0 in
    let s : Stands (state c.self.inside) h = c.self.invariant.1 in
    let stood : Stands c.args.self.now h = subst (λ (k : DeskState). Stands k h) c.self.view_is s in
    colours_of h c.in_ok-heard.heard.host (at h).shift c.args.bytes.now s.legal (c.in_ok-heard.ensures h stood).host

pub put-requires : goal.put-requires
put-requires c = omega (arith, c.next_stamp-stamp.ensures, c.stamp.ensures)

pub feed-requires : goal.feed-requires
feed-requires c =
    let d = state c.self.inside in
    let h = c.self.invariant.0 in
    let s : Stands d h = c.self.invariant.1 in
    let stood : Stands c.args.self.now h = subst (λ (k : DeskState). Stands k h) c.self.view_is s in
    let allowed : feed_refusal h ≡ None = sym (c.feed_refusal.ensures h stood) ∙ is_none c.feed_refusal.result c.in_default.not-Some in
    omega (arith, stays_few d h s (feed_goes h allowed))

-- for want of memory nothing was drawn
pub returns-in_err-drawn-clause-step : goal.returns-in_err-drawn-clause-step
returns-in_err-drawn-clause-step c = λ h stood.
    let d = state c.self.inside in
    let p = err_from_is_err_and c.from_residual-in_err-drawn.result c.from_residual-in_err-drawn.ensures.1 in
    let e : c.from_residual-in_err-drawn.result ≡ Err feed_no_memory = p.1 ∙ ap (λ (r : FeedRefusal). Err r) p.2 in
    let allowed : feed_refusal h ≡ None = sym (c.feed_refusal.ensures h stood) ∙ is_none c.feed_refusal.result c.in_default.not-Some in
    let same : record d { drawing = c.draw.new.self } ≡ d = rw c.draw.ensures.unchanged refl in
    subst (λ (r : Result ℕ FeedRefusal). Ended h (Feed c.args.bytes.now c.args.now) (feed_answer r) c.args.self.now record d { drawing = c.draw.new.self } [] []) (sym e)
    record { unstopped = rw allowed refl; desk = same ∙ c.self.view_is; buffer = refl }

pub returns-in_err-put-clause-step : goal.returns-in_err-put-clause-step
returns-in_err-put-clause-step c = λ h stood.
    let d = state c.self.inside in
    let p = err_from_is_err_and c.from_residual-in_err-put.result c.from_residual-in_err-put.ensures.1 in
    let e : c.from_residual-in_err-put.result ≡ Err feed_no_memory = p.1 ∙ ap (λ (r : FeedRefusal). Err r) p.2 in
    let allowed : feed_refusal h ≡ None = sym (c.feed_refusal.ensures h stood) ∙ is_none c.feed_refusal.result c.in_default.not-Some in
    let same : record d { drawing = c.draw.new.self; outgoing = c.put.new.outgoing; frames = c.put.new.frames } ≡ d = rw (c.draw.ensures.unchanged, c.in_err-put.ensures.outgoing, c.in_err-put.ensures.frames) refl in
    subst (λ (r : Result ℕ FeedRefusal). Ended h (Feed c.args.bytes.now c.args.now) (feed_answer r) c.args.self.now record d { drawing = c.draw.new.self; outgoing = c.put.new.outgoing; frames = c.put.new.frames } [] []) (sym e)
    record { unstopped = rw allowed refl; desk = same ∙ c.self.view_is; buffer = refl }

pub returns-in_err-put-clause-unchanged : goal.returns-in_err-put-clause-unchanged
returns-in_err-put-clause-unchanged c =
    let d = state c.self.inside in
    let same : record d { drawing = c.draw.new.self; outgoing = c.put.new.outgoing; frames = c.put.new.frames } ≡ d = rw (c.draw.ensures.unchanged, c.in_err-put.ensures.outgoing, c.in_err-put.ensures.frames) refl in
    let p = err_from_is_err_and c.from_residual-in_err-put.result c.from_residual-in_err-put.ensures.1 in
    subst (λ (r : Result ℕ FeedRefusal). OnErr r (record d { drawing = c.draw.new.self; outgoing = c.put.new.outgoing; frames = c.put.new.frames } ≡ c.args.self.now)) (sym p.1) (same ∙ c.self.view_is)

pub invariant_of-self-2 : goal.invariant_of-self-2
invariant_of-self-2 c =
    let d = state c.self.inside in
    let h = c.self.invariant.0 in
    let s : Stands d h = c.self.invariant.1 in
    let stood : Stands c.args.self.now h = subst (λ (k : DeskState). Stands k h) c.self.view_is s in
    let allowed : feed_refusal h ≡ None = sym (c.feed_refusal.ensures h stood) ∙ is_none c.feed_refusal.result c.in_default.not-Some in
    let drawing : c.show.new.self ≡ drawn_by c.in_ok-drawn.drawn d.drawing = c.show.ensures ∙ ap (drawn_by c.in_ok-drawn.drawn) c.draw.ensures.unchanged in
    let draws = subst (Draws d.drawing c.in_ok-heard.heard.host.screen c.next_stamp-stamp.result c.in_ok-drawn.drawn.frame) (sym drawing) c.in_ok-drawn.ensures.draws in
    let a = added_feed d h c.args.bytes.now c.args.now c.next_stamp-stamp.result c.in_ok-heard.heard c.in_ok-drawn.drawn.frame c.feed.new.self c.put.new.outgoing c.put.new.frames c.show.new.self s c.requires c.feed.ensures.octets allowed (c.next_stamp-stamp.ensures ∙ ap (λ n. next_stamp n c.args.now) c.stamp.ensures) (c.in_ok-heard.ensures h stood) draws
    c.feed.ensures.adds (c.in_ok-put.ensures.waits ∙ ap (λ (xs : List ℕ). d.outgoing ++ xs) c.deref.ensures.value) c.in_ok-put.ensures.shows in
    (a.added ++ h, a.stands)

pub returns-clause-step : goal.returns-clause-step
returns-clause-step c = λ h stood.
    let d = state c.self.inside in
    let s : Stands d h = subst (λ (k : DeskState). Stands k h) (sym c.self.view_is) stood in
    let allowed : feed_refusal h ≡ None = sym (c.feed_refusal.ensures h stood) ∙ is_none c.feed_refusal.result c.in_default.not-Some in
    let drawing : c.show.new.self ≡ drawn_by c.in_ok-drawn.drawn d.drawing = c.show.ensures ∙ ap (drawn_by c.in_ok-drawn.drawn) c.draw.ensures.unchanged in
    let draws = subst (Draws d.drawing c.in_ok-heard.heard.host.screen c.next_stamp-stamp.result c.in_ok-drawn.drawn.frame) (sym drawing) c.in_ok-drawn.ensures.draws in
    added_feed d h c.args.bytes.now c.args.now c.next_stamp-stamp.result c.in_ok-heard.heard c.in_ok-drawn.drawn.frame c.feed.new.self c.put.new.outgoing c.put.new.frames c.show.new.self s c.requires c.feed.ensures.octets allowed (c.next_stamp-stamp.ensures ∙ ap (λ n. next_stamp n c.args.now) c.stamp.ensures) (c.in_ok-heard.ensures h stood) draws
    c.feed.ensures.adds (c.in_ok-put.ensures.waits ∙ ap (λ (xs : List ℕ). d.outgoing ++ xs) c.deref.ensures.value) c.in_ok-put.ensures.shows

pub returns-clause-few : goal.returns-clause-few
returns-clause-few c =
    let d = state c.self.inside in
    let h = c.self.invariant.0 in
    let s : Stands d h = c.self.invariant.1 in
    let stood : Stands c.args.self.now h = subst (λ (k : DeskState). Stands k h) c.self.view_is s in
    let allowed : feed_refusal h ≡ None = sym (c.feed_refusal.ensures h stood) ∙ is_none c.feed_refusal.result c.in_default.not-Some in
    omega (arith, ap (λ k. k.entries) c.feed.ensures.adds, stays_few d h s (feed_goes h allowed))
