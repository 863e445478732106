use Rattle.std.proofs.Common.{◌≤◌, drop, length}
use Rattle.shared_desk.specs.Members.{Stays}
use Rattle.user_serve.proofs.Heard.{SoFar}
use Rattle.user_serve.proofs.hearing.hear_all.Given as goal

abbrev pub invariant-loop : goal.invariant-loop
invariant-loop g l =
    let left = g.S.Source.left in
    record {
      stays : Stays l.fn.pass l.pass;
      within : l.at ≤ length l.rest.items;
      so_far : SoFar l.fn.pass.viewer l.fn.pass.view l.pass.view (left l.fn.source) (left l.source) l.fn.rest.items (drop l.at l.rest.items);
      later : g.S.Source.faults l.fn.source ≤ g.S.Source.faults l.source;
    }
