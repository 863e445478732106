use Rattle.std.proofs.Common.{◌+◌, ◌<◌, ◌≤◌}
use Rattle.guac_framing.specs.Scanned.{HasDigits}
use Rattle.guac_framing.proofs.length.read_length.Given as goal

abbrev pub invariant-loop-at : goal.invariant-loop-at
invariant-loop-at l = record {
  digits : HasDigits l.bytes l.start l.at l.length;
  short : l.at ≤ l.start + 5;
  room : l.start < l.at → l.at + (l.length + 2) ≤ 8192;
}
