use Rattle.std.proofs.Common.{◌∙◌, ◌<◌, List, ℕ, ap, sym, subst, arith}
use Rattle.std.proofs.lemmas.List.{take_all}
use Rattle.viewer_book.specs.Book.{changed, moved_to}
use Rattle.desk_core.specs.Viewers.{given_all}
use Rattle.desk_core.proofs.Bringing.{gives_more, next_above, next_live, next_room, unchanged}
use Rattle.desk_core.proofs.desk.read.give_all.Goals as goal

pub loop-frame-init : goal.loop-frame-init
loop-frame-init c = unchanged c.args.book.now c.args.viewer

pub deliver-requires-clause-live : goal.deliver-requires-clause-live
deliver-requires-clause-live c = next_live c.args.book.now c.loop-frame.book c.args.viewer c.args.frames.now c.loop-frame.frame-index c.frame-item.result (omega (arith, c.loop-frame-test.true)) c.loop-frame.invariant c.requires.live

pub deliver-requires-clause-rises : goal.deliver-requires-clause-rises
deliver-requires-clause-rises c = λ w found.
    subst (λ (t : ℕ). w.position < t) (sym (c.stamp.ensures ∙ ap (λ (f : ℕ × List ℕ). f.0) c.frame-item.is))
    (next_above c.args.book.now c.loop-frame.book c.args.viewer c.args.frames.now c.loop-frame.frame-index c.frame-item.result (omega (arith, c.loop-frame-test.true)) c.loop-frame.invariant c.requires.rises w found)

pub deliver-requires-clause-few : goal.deliver-requires-clause-few
deliver-requires-clause-few c = next_room c.args.book.now c.loop-frame.book c.args.viewer c.args.frames.now c.loop-frame.frame-index c.frame-item.result (omega (arith, c.loop-frame-test.true)) c.loop-frame.invariant c.requires.few

pub loop-frame-preserved : goal.loop-frame-preserved
loop-frame-preserved c = gives_more c.args.book.now c.loop-frame.book c.deliver.new.self c.args.viewer c.args.frames.now c.loop-frame.frame-index c.frame-item.result (omega (arith, c.loop-frame-test.true)) c.loop-frame.invariant
    (c.deliver.ensures ∙ ap (λ (t : ℕ). changed c.loop-frame.book c.args.viewer (moved_to t)) (c.stamp.ensures ∙ ap (λ (f : ℕ × List ℕ). f.0) c.frame-item.is))

pub returns : goal.returns
returns c = c.loop-frame.invariant ∙ ap (λ (fs : List (ℕ × List ℕ)). changed c.args.book.now c.args.viewer (given_all fs)) (take_all c.loop-frame.frame-index c.args.frames.now c.loop-frame-test.false)
