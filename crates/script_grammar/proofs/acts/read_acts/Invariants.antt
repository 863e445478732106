use Rattle.std.proofs.Common.{◌-◌, ◌≤◌, length}
use Rattle.script_grammar.proofs.ActsLaws.{HasReadTo}
use Rattle.script_grammar.proofs.acts.read_acts.Given as goal

abbrev pub invariant-loop-at : goal.invariant-loop-at
invariant-loop-at l = record {
  within : l.at ≤ length l.text;
  few : l.count ≤ 4096;
  so_far : HasReadTo l.text l.at l.count l.acts.items l.passed;
}

abbrev pub decreases-loop-at : goal.decreases-loop-at
decreases-loop-at l = length l.text - l.at
