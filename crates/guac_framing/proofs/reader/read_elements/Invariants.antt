use Rattle.std.proofs.Common.{◌≡◌, ◌-◌, ◌<◌, ◌+◌, ◌≤◌, [], length, map, take}
use Rattle.std.specs.Str.{chars}
use Rattle.guac_framing.specs.Spans.{AreSpans, texts_at}
use Rattle.guac_framing.specs.Standing.{InLength}
use Rattle.guac_framing.proofs.reader.read_elements.Given as goal

abbrev pub invariant-loop-span : goal.invariant-loop-span
invariant-loop-span l = record {
  standing : InLength (take l.at l.bytes) (map chars (texts_at l.bytes (take l.count l.spans))) [];
  spans : AreSpans l.bytes (take l.count l.spans);
  size : length l.spans ≡ 128;
  few : l.count < 128;
  within : l.at ≤ length l.bytes;
  room : l.at + 3 ≤ 8192;
}

abbrev pub decreases-loop-span : goal.decreases-loop-span
decreases-loop-span l = length l.bytes - l.at
