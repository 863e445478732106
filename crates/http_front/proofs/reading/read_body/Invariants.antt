use Rattle.std.proofs.Common.{◌-◌, ◌<◌, ◌≤◌, length}
use Rattle.http_front.specs.Moved.{Moved}
use Rattle.http_front.proofs.reading.read_body.Given as goal

abbrev pub invariant-loop-room : goal.invariant-loop-room
invariant-loop-room g l = record {
  some : 0 < length l.piece;
  moved : Moved (g.S.Source.left l.fn.source) (g.S.Source.left l.source) l.fn.room.items l.room.items;
  later : g.S.Source.faults l.fn.source ≤ g.S.Source.faults l.source;
}

abbrev pub decreases-loop-room : goal.decreases-loop-room
decreases-loop-room g l = l.whole - length l.room.items
