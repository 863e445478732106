use Rattle.std.proofs.Common.{◌++◌, [], ℕ, List, Option, ap, refl, sym, ◌∙◌, arith}
use Rattle.gate_outside.specs.Edge.{gained}
use Rattle.gate_outside.proofs.Moved.{gained-gained, gained-none}
use Rattle.session_link.proofs.Sent.{sent_more, sent_none, sent_stop}
use Rattle.session_link.proofs.sending.send_all.Goals as goal

pub loop-init : goal.loop-init
loop-init g c = record { session = refl; so_far = ([], sym (gained-none _), sent_none _); later = omega arith }

pub loop-preserved-in-Ok-true : goal.loop-preserved-in-Ok-true
loop-preserved-in-Ok-true g c =
    let p = c.loop.invariant.so_far in
    let s = c.in-Ok-true.ensures.sent in
    record {
      session = c.send_next.ensures.session ∙ c.loop.invariant.session;
      so_far = (p.0 ++ s.0, s.1 ∙ (ap (λ (o : Option (List ℕ)). gained o s.0) p.1 ∙ gained-gained _ p.0 s.0), sent_more _ _ _ p.0 s.0 p.2 s.2);
      later = omega (arith, c.loop.invariant.later, c.send_next.ensures.faults.1);
    }

pub loop-preserved : goal.loop-preserved
loop-preserved g c =
    let p = c.loop.invariant.so_far in
    let s = c.in-Ok-false.ensures.sent in
    record {
      session = c.send_next.ensures.session ∙ c.loop.invariant.session;
      so_far = (p.0 ++ s.0, s.1 ∙ (ap (λ (o : Option (List ℕ)). gained o s.0) p.1 ∙ gained-gained _ p.0 s.0), sent_more _ _ _ p.0 s.0 p.2 s.2);
      later = omega (arith, c.loop.invariant.later, c.send_next.ensures.faults.1);
    }

pub returns-in-Err-clause-halted : goal.returns-in-Err-clause-halted
returns-in-Err-clause-halted g c =
    let p = c.loop.invariant.so_far in
    let s = c.in-Err.ensures.sent in
    (p.0 ++ s.0, s.1 ∙ (ap (λ (o : Option (List ℕ)). gained o s.0) p.1 ∙ gained-gained _ p.0 s.0), sent_stop _ _ _ p.0 s.0 c.in-Err.end p.2 s.2)
