use Rattle.std.proofs.Common.{◌<◌, ◌≤◌, length}
use Rattle.guac_handshake.proofs.Behind.{HasReadBehind}
use Rattle.guac_handshake.proofs.greeting.connect.Given as goal

abbrev pub invariant-reading : goal.invariant-reading
invariant-reading g l = record {
  so_far : HasReadBehind (g.S.Source.left l.fn.source) (g.S.Source.left l.source) l.fn.unread l.unread l.size l._between;
  room : 0 < length l.piece;
  later : g.S.Source.faults l.fn.source ≤ g.S.Source.faults l.source;
}
