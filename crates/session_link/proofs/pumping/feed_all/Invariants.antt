use Rattle.std.proofs.Common.{◌≡◌, ◌≤◌, ℕ, List}
use Rattle.gate_outside.specs.Edge.{came}
use Rattle.session_link.specs.Pumps.{HasPumped}
use Rattle.session_link.proofs.pumping.feed_all.Given as goal

abbrev pub invariant-loop : goal.invariant-loop
invariant-loop g l =
    let left = g.S.Source.left in
    record {
      session : l.pass.session ≡ l.fn.pass.session;
      so_far : (read : List ℕ) × (left l.fn.source ≡ came read (left l.source)) × HasPumped l.fn.pass.view l.pass.view read;
      later : g.S.Source.faults l.fn.source ≤ g.S.Source.faults l.source;
      helper : g.C.Counted.helper l.clock ≡ g.C.Counted.helper l.fn.clock;
    }
