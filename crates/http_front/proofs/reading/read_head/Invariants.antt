use Rattle.std.proofs.Common.{◌≡◌, ◌-◌, ◌<◌, ◌≤◌, [], length}
use Rattle.http_front.specs.Moved.{Moved}
use Rattle.http_front.proofs.reading.read_head.Given as goal

abbrev pub invariant-loop-head : goal.invariant-loop-head
invariant-loop-head g l = record {
  some : 0 < length l.piece;
  kept : length l.piece ≡ length l.fn.piece;
  within : length l.room.items ≤ 16384;
  moved : Moved (g.S.Source.left l.fn.source) (g.S.Source.left l.source) [] l.room.items;
  later : g.S.Source.faults l.fn.source ≤ g.S.Source.faults l.source;
}

abbrev pub decreases-loop-head : goal.decreases-loop-head
decreases-loop-head g l = 16384 - length l.room.items
