use Rattle.std.proofs.Common.{◌+◌, ◌≤◌, length}
use Rattle.guac_framing.specs.Scanned.{HasChars}
use Rattle.guac_framing.proofs.value.read_value.Given as goal

abbrev pub invariant-loop-left : goal.invariant-loop-left
invariant-loop-left l = record {
  chars : HasChars l.bytes l.start l.at l.count l.left;
  within : l.at ≤ length l.bytes;
  room : l.at + l.left + 1 ≤ 8192;
  behind : l.start ≤ l.at;
}

abbrev pub decreases-loop-left : goal.decreases-loop-left
decreases-loop-left l = l.left
