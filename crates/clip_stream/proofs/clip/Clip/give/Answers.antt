use Rattle.std.proofs.Common.{◌≡◌, ℕ, List, subst, ◌<◌, ◌++◌, length, take, drop, ap, sym, ◌∙◌, arith}
use Rattle.clip_stream.specs.Pasted.{Clipboard, has_some}
use Rattle.clip_stream.specs.Typed.{strokes_of}
use Rattle.clip_stream.proofs.Typing.{gives_all, gives_some, some_long, waits_all}
use Rattle.clip_stream.proofs.clip.Clip.give.Goals as goal

pub returns-then-not-has_some-clause-some : goal.returns-then-not-has_some-clause-some
returns-then-not-has_some-clause-some c =
    let s = c.self.inside in
    let some : 0 < length s.waiting = some_long s.waiting (waits_all s.returned s.at s.waiting s.pasted c.self.invariant.1 ∙ ap (λ (k : Clipboard). has_some k.waiting) c.self.view_is ∙ c.requires.some) in
    omega (arith, some, c.give-count.ensures.count, c.requires.room)

pub returns-then-not-has_some-clause-given : goal.returns-then-not-has_some-clause-given
returns-then-not-has_some-clause-given c =
    let s = c.self.inside in
    sym (ap (λ (k : Clipboard). k.waiting) c.self.view_is)
    ∙ gives_all c.give-count.result s.waiting c.give-count.new.self (take c.give-count.result c.give-count.new.into) (strokes_of s.returned (drop s.at s.pasted)) _
    c.give-count.ensures.left (sym c.has_some.ensures ∙ c.if-not-has_some.true) c.give-count.ensures.given
    (subst (λ (b : List ℕ). c.refill.new.self ++ strokes_of c.refill.result.1 (drop c.refill.result.0 b) ≡ strokes_of s.returned (drop s.at b)) c.as_slice.ensures c.refill.ensures.typed)

pub returns-else-not-has_some-clause-given : goal.returns-else-not-has_some-clause-given
returns-else-not-has_some-clause-given c =
    let s = c.self.inside in
    sym (ap (λ (k : Clipboard). k.waiting) c.self.view_is)
    ∙ gives_some c.give-count.result s.waiting c.give-count.new.self (take c.give-count.result c.give-count.new.into) (strokes_of s.returned (drop s.at s.pasted))
    c.give-count.ensures.left c.give-count.ensures.given
