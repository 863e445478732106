use Rattle.std.proofs.Common.{◌-◌, ◌<◌, ◌≤◌, length}
use Rattle.guac_handshake.specs.Moved.{Moved}
use Rattle.guac_handshake.proofs.hearing.hear.Given as goal

abbrev pub invariant-loop-frame : goal.invariant-loop-frame
invariant-loop-frame g l = record {
  moved : Moved (g.S.Source.left l.fn.source) (g.S.Source.left l.source) l.fn.unread l.unread;
  room : 0 < length l.piece;
  later : g.S.Source.faults l.fn.source ≤ g.S.Source.faults l.source;
}

abbrev pub decreases-loop-frame : goal.decreases-loop-frame
decreases-loop-frame g l = 8193 - length l.unread
