use Rattle.std.proofs.Common.{◌-◌, List, ℕ, length, drop, length-drop, take, ap, sym, ◌∙◌, arith}
use Rattle.clip_stream.proofs.Rooms.{rest_slice}
use Rattle.clip_stream.proofs.Steps.{none_waits, rest-kept, rest-raw, rest-taken, whole_some}
use Rattle.clip_stream.specs.Sources.{counted}
use Rattle.clip_stream.proofs.paster.Paster.step.Goals as goal

pub returns-then-is_kept-clause-keeps : goal.returns-then-is_kept-clause-keeps
returns-then-is_kept-clause-keeps c more =
    let s = c.args.self.now in
    rest-kept s.is_raw s.clip.clip s.kept c.in-Whole.count s.held _ (counted s.is_ended more) s.clip.waiting c.in-Whole.frame c.if-self.false
    (ap (λ (xs : List ℕ). take (length xs - s.kept) (drop s.kept xs)) c.as_slice.ensures) c.in-Whole.ensures.whole (sym c.is_kept.ensures ∙ c.if-is_kept.true)

pub returns-else-self-gt0-clause-keeps : goal.returns-else-self-gt0-clause-keeps
returns-else-self-gt0-clause-keeps c more =
    let s = c.args.self.now in
    rest-taken s.is_raw s.clip.clip c.take_up.new.self.clip s.kept c.in-Whole.count s.held c.pass.new.self _ (counted s.is_ended more) s.clip.waiting c.take_up.new.self.waiting c.in-Whole.frame c.if-self.false
    (none_waits s.clip.waiting (sym c.waits.ensures ∙ c.if-waits.false)) c.take_up.ensures.clip c.take_up.ensures.keys c.pass.ensures
    (ap (λ (xs : List ℕ). take (length xs - s.kept) (drop s.kept xs)) c.as_slice.ensures) c.in-Whole.ensures.whole (sym c.is_kept.ensures ∙ c.if-is_kept.false) (omega arith)

pub returns-else-self-gt0-clause-fewer : goal.returns-else-self-gt0-clause-fewer
returns-else-self-gt0-clause-fewer c e =
    let s = c.args.self.now in
    let some = whole_some _ c.in-Whole.frame c.in-Whole.count c.in-Whole.ensures.whole in
    let within = c.in-Whole.ensures.whole.within in
    let len = ap length (ap (λ (xs : List ℕ). take (length xs - s.kept) (drop s.kept xs)) c.as_slice.ensures ∙ rest_slice s.kept s.held) in
    let now = ap length c.pass.ensures in
    omega (arith, some, within, len, now, length-drop s.kept c.pass.new.self, length-drop s.kept s.held, length-drop c.in-Whole.count s.held)

pub returns-in-Bad-clause-keeps : goal.returns-in-Bad-clause-keeps
returns-in-Bad-clause-keeps c more =
    let s = c.args.self.now in
    rest-raw s.is_raw s.clip.clip s.kept _ s.held _ (counted s.is_ended more) s.clip.waiting c.if-self.false
    (ap (λ (xs : List ℕ). take (length xs - s.kept) (drop s.kept xs)) c.as_slice.ensures) c.in-Bad.ensures.bad
