use Rattle.std.proofs.Common.{◌≡◌, ◌+◌, ◌≤◌, length}
use Rattle.guac_framing.specs.Scanned.{HasBegun}
use Rattle.guac_framing.proofs.character.read_due.Given as goal

abbrev pub invariant-loop-due : goal.invariant-loop-due
invariant-loop-due l = record {
  begun : HasBegun l.bytes l.start l.at l.due.bytes l.due.least l.due.most;
  within : l.at ≤ length l.bytes;
  sum : l.at + l.due.bytes ≡ l.start + l.fn.due.bytes + 1;
}

abbrev pub decreases-loop-due : goal.decreases-loop-due
decreases-loop-due l = l.due.bytes
