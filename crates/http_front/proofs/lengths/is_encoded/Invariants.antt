use Rattle.std.proofs.Common.{◌≡◌, map, take}
use Rattle.httparse.specs.Spans.{header_bytes}
use Rattle.http_front.specs.Fields.{is_encoded}
use Rattle.http_front.proofs.lengths.is_encoded.Given as goal

abbrev pub invariant-loop-field : goal.invariant-loop-field
invariant-loop-field l = l.encoded ≡ is_encoded (map (header_bytes l.head) (take l.field-index l.fields))
