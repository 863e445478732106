use Rattle.std.proofs.Common.{length, ◌-◌, ◌≡◌, ◌≤◌, ◌++◌, vec_capacity, drop}
use Rattle.clip_stream.specs.Typed.{strokes_of}
use Rattle.clip_stream.proofs.keys.type_some.Given as goal

abbrev pub invariant-loop-at : goal.invariant-loop-at
invariant-loop-at l = record {
  typed : l.into.items ++ strokes_of l.returned (drop l.at l.bytes) ≡ strokes_of l.fn.returned (drop l.fn.at l.bytes);
  within : l.at ≤ length l.bytes;
  capacity : vec_capacity l.fn.into ≤ vec_capacity l.into;
}

abbrev pub decreases-loop-at : goal.decreases-loop-at
decreases-loop-at l = length l.bytes - l.at
