use Rattle.std.proofs.Common.{◌≤◌}
use Rattle.http_front.specs.Moved.{Moved}
use Rattle.fetch_site.proofs.look.Given as goal

-- what was read stands in the room, and the count of faults didn't fall
abbrev pub invariant-loop : goal.invariant-loop
invariant-loop g l = record {
  moved : Moved (g.S.Source.left l.fn.source) (g.S.Source.left l.source) l.fn.room.items l.room.items;
  later : g.S.Source.faults l.fn.source ≤ g.S.Source.faults l.source;
}
