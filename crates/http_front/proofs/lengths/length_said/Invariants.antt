use Rattle.std.proofs.Common.{◌≡◌, map, take}
use Rattle.httparse.specs.Spans.{header_bytes}
use Rattle.http_front.specs.Fields.{length_said}
use Rattle.http_front.proofs.lengths.length_said.Given as goal

abbrev pub invariant-loop-field : goal.invariant-loop-field
invariant-loop-field l = l.said ≡ length_said (map (header_bytes l.head) (take l.field-index l.fields))
