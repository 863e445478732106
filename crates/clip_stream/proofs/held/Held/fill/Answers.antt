use Rattle.std.proofs.Common.{rules, ◌≡◌, ◌+◌, ◌-◌, ◌++◌, take, length, ap, ◌∙◌, sym, arith}
use Rattle.std.proofs.lemmas.List.{with_items_is, places}
use borrow.Rule.Slice.PartMut.{put_mid, post_of}
use Rattle.clip_stream.proofs.Rooms.{part-more}
use Rattle.clip_stream.proofs.held.Held.fill.Goals as goal

pub returns-clause-moved : goal.returns-clause-moved
returns-clause-moved c =
    let w = c.self.inside in
    let i = c.self.invariant in
    let k = w.end - w.start in
    let n = c.copy_front-count.result in
    let now = c.deref_mut.result.now in
    let end : k + n - 0 ≡ k + n = omega arith in
    rw (with_items_is c.rotate_left.new.self (put_mid k (length now - k) now c.copy_front-count.new.into) (search (rules, places)))
    (ap (λ m. take m (put_mid k (length now - k) now c.copy_front-count.new.into)) end
    ∙ part-more w.start w.end n w.bytes.items now c.copy_front-count.new.into (post_of k (length now - k) now) i.0 (omega arith) (c.deref_mut.ensures.value ∙ c.rotate_left.ensures.items) (omega (arith, c.copy_front-count.ensures.count))
    ∙ ap (λ x. x ++ take n c.copy_front-count.new.into) c.self.view_is
    ∙ ap (λ x. c.args.self.now ++ x) c.copy_front-count.ensures.copied)
