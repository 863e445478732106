use Rattle.std.proofs.Common.{List, ℕ, Option, take, ap, sym, subst, ◌∙◌, arith}
use Rattle.gate_outside.specs.Edge.{AtEnd, came}
use Rattle.gate_outside.proofs.Moved.{came-none}
use Rattle.gate_script.specs.Clipping.{Copied}
use Rattle.gate_script.proofs.ClipLaws.{copied_all, copied_cut, copied_long, copied_more, copied_unread}
use Rattle.gate_script.proofs.clip.copy.Goals as goal

-- the source failed
pub returns-in-Err-clause-outcome : goal.returns-in-Err-clause-outcome
returns-in-Err-clause-outcome g c =
    let first = g.S.Source.left c.args.source.now in
    let left = g.S.Source.left c.read.new.self in
    let before = g.A.Sink.written c.args.answers.now in
    let wrote = g.A.Sink.written c.loop-read.answers in
    let copied = subst (λ (l : Option (List ℕ)). Copied first l before wrote c.loop-read.paster c.loop-read.read) (sym c.in-Err.ensures.unchanged) c.loop-read.invariant.copied in
    copied_unread c.loop-read.paster c.loop-read.read first left before wrote copied

-- the input is at its end
pub returns-then-count-eq0-clause-outcome : goal.returns-then-count-eq0-clause-outcome
returns-then-count-eq0-clause-outcome g c =
    let first = g.S.Source.left c.args.source.now in
    let left = g.S.Source.left c.read.new.self in
    let before = g.A.Sink.written c.args.answers.now in
    let wrote = g.A.Sink.written c.loop-read.answers in
    let none = c.if-count-eq0.true in
    let same = c.in-Ok.ensures.ok ∙ ap (λ n. came (take n c.read.new.into) left) none ∙ came-none left in
    let copied = subst (λ (l : Option (List ℕ)). Copied first l before wrote c.loop-read.paster c.loop-read.read) same c.loop-read.invariant.copied in
    copied_all c.loop-read.paster c.loop-read.read first left before wrote copied _ (g.A.Sink.written c.end.new.answers) c.end.result (subst AtEnd same (c.in-Ok.ensures.end none)) (omega (arith, c.loop-read-test.true)) c.end.ensures.ends

-- a write failed
pub returns-in-Err-paste-clause-outcome : goal.returns-in-Err-paste-clause-outcome
returns-in-Err-paste-clause-outcome g c =
    copied_cut c.loop-read.paster c.loop-read.read c.in-Ok.count c.min-few.result c.read.new.into _ _ _ _ _ c.loop-read.invariant.copied (omega (arith, c.loop-read-test.true)) c.in-Ok.ensures.ok (omega (arith, c.in-Ok.ensures.bound)) c.min-few.ensures
    c.paste.new.paster _ _ c.in-Err-paste.ensures.written

pub loop-read-preserved : goal.loop-read-preserved
loop-read-preserved g c =
    let i = c.loop-read.invariant in
    record {
      piece = omega (arith, i.piece);
      keys = omega (arith, i.keys);
      copied =
          copied_more c.loop-read.paster c.loop-read.read c.in-Ok.count c.min-few.result c.read.new.into _ _ _ _ _ i.copied (omega (arith, c.loop-read-test.true)) c.in-Ok.ensures.ok (omega (arith, c.in-Ok.ensures.bound)) c.min-few.ensures
          c.paste.new.paster _ c.in-Ok-paste.ensures.written;
      begun = c.in-Ok-paste.ensures.begun;
      room = c.in-Ok-paste.ensures.room;
      later_source = omega (arith, i.later_source, c.read.ensures.faults.1);
      later_answers = omega (arith, i.later_answers, c.paste.ensures.later);
    }

-- it had a byte too many
pub returns-clause-outcome : goal.returns-clause-outcome
returns-clause-outcome g c =
    copied_long c.loop-read.paster c.loop-read.read (g.S.Source.left c.args.source.now) (g.S.Source.left c.loop-read.source) (g.A.Sink.written c.args.answers.now) (g.A.Sink.written c.loop-read.answers) c.loop-read.invariant.copied _ (g.A.Sink.written c.end-2.new.answers)
    c.end-2.result (omega (arith, c.loop-read-test.false)) c.end-2.ensures.ends
