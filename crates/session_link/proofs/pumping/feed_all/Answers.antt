use Rattle.std.proofs.Common.{◌++◌, [], ap, refl, sym, ◌∙◌, arith}
use Rattle.gate_outside.specs.Edge.{came}
use Rattle.gate_outside.proofs.Moved.{came-came, came-none}
use Rattle.session_link.proofs.Pumped.{pumped_more, pumped_none, pumped_stop}
use Rattle.session_link.proofs.pumping.feed_all.Goals as goal

pub loop-init : goal.loop-init
loop-init g c = record { session = refl; so_far = ([], sym (came-none _), pumped_none _); later = omega arith; helper = refl }

pub loop-preserved : goal.loop-preserved
loop-preserved g c =
    let p = c.loop.invariant.so_far in
    let s = c.in-Ok.ensures.step in
    record {
      session = c.feed_next.ensures.session ∙ c.loop.invariant.session;
      so_far = (p.0 ++ s.0, p.1 ∙ (ap (came p.0) s.1 ∙ came-came p.0 s.0 _), pumped_more _ _ _ p.0 s.0 p.2 s.2);
      later = omega (arith, c.loop.invariant.later, c.feed_next.ensures.faults.1);
      helper = c.feed_next.ensures.helper ∙ c.loop.invariant.helper;
    }

pub returns-in-Err-clause-stopped : goal.returns-in-Err-clause-stopped
returns-in-Err-clause-stopped g c =
    let p = c.loop.invariant.so_far in
    let s = c.in-Err.ensures.step in
    (p.0 ++ s.0, p.1 ∙ (ap (came p.0) s.1 ∙ came-came p.0 s.0 _), pumped_stop _ _ _ p.0 s.0 c.in-Err.end p.2 s.2)
