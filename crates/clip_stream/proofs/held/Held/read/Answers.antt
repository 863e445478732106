use Rattle.std.proofs.Common.{rules, ◌≡◌, ◌+◌, ◌-◌, ◌++◌, [], take, length, ap, ◌∙◌, sym, arith}
use Rattle.std.proofs.lemmas.List.{with_items_is, places}
use Rattle.gate_outside.proofs.Moved.{came-none}
use borrow.Rule.Slice.PartMut.{put_mid, post_of}
use Rattle.clip_stream.proofs.Rooms.{part-more}
use Rattle.clip_stream.proofs.held.Held.read.Goals as goal

pub returns-clause-moved : goal.returns-clause-moved
returns-clause-moved g c =
    let w = c.self.inside in
    let i = c.self.invariant in
    let k = w.end - w.start in
    let n = c.in_ok-count.count in
    let now = c.deref_mut.result.now in
    let end : k + n - 0 ≡ k + n = omega arith in (
      take n c.read.new.into,
      c.in_ok-count.ensures.ok,
      rw (with_items_is c.rotate_left.new.self (put_mid k (length now - k) now c.read.new.into) (search (rules, places)))
          (ap (λ m. take m (put_mid k (length now - k) now c.read.new.into)) end
          ∙ part-more w.start w.end n w.bytes.items now c.read.new.into (post_of k (length now - k) now) i.0 (omega arith) (c.deref_mut.ensures.value ∙ c.rotate_left.ensures.items) (omega (arith, c.in_ok-count.ensures.bound))
          ∙ ap (λ x. x ++ take n c.read.new.into) c.self.view_is),
    )

pub returns-in_err-count-clause-moved : goal.returns-in_err-count-clause-moved
returns-in_err-count-clause-moved g c =
    let w = c.self.inside in
    let i = c.self.invariant in
    let k = w.end - w.start in
    let now = c.deref_mut.result.now in
    let end : k - 0 ≡ k + 0 = omega arith in (
      [],
      sym (c.in_err-count.ensures.unchanged) ∙ sym (came-none _),
      rw (with_items_is c.rotate_left.new.self (put_mid k (length now - k) now c.read.new.into) (search (rules, places)))
          (ap (λ m. take m (put_mid k (length now - k) now c.read.new.into)) end
          ∙ part-more w.start w.end 0 w.bytes.items now c.read.new.into (post_of k (length now - k) now) i.0 (omega arith) (c.deref_mut.ensures.value ∙ c.rotate_left.ensures.items) (omega arith)
          ∙ ap (λ x. x ++ []) c.self.view_is),
    )
