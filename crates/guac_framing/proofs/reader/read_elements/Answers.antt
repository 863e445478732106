use Rattle.std.proofs.Common.{map, take, ◌<◌, ◌+◌, length, arith, ◌∙◌, length-set}
use Rattle.std.proofs.lemmas.Result.{err_from_is_err_and}
use Rattle.guac_framing.proofs.Steps.{next_in, whole_in}
use Rattle.guac_framing.proofs.Places.{spans_more, behind_more, count_more, texts_utf8}
use Rattle.std.proofs.Math.ListN.{set}
use Rattle.std.specs.Str.{chars}
use Rattle.guac_framing.specs.Spans.{texts_at}
use Rattle.guac_framing.proofs.reader.read_elements.Goals as goal

pub returns-in_err-span-clause-stop : goal.returns-in_err-span-clause-stop
returns-in_err-span-clause-stop c =
    let p = err_from_is_err_and c.from_residual.result c.from_residual.ensures.1 in
    rw (p.1, p.2) (c.in_err-span.ensures.stop _ c.loop-span.invariant.standing)

pub returns-in_err-read_separator-clause-stop : goal.returns-in_err-read_separator-clause-stop
returns-in_err-read_separator-clause-stop c =
    let less : c.loop-span.count < length c.loop-span.spans = omega (arith, c.loop-span.invariant.size, c.loop-span.invariant.few) in
    let p = err_from_is_err_and c.from_residual-in_err-read_separator.result c.from_residual-in_err-read_separator.ensures.1 in
    rw (p.1, p.2) (c.in_err-read_separator.ensures.stop _
    (behind_more c.args.bytes.now c.loop-span.spans c.loop-span.count c.in_ok-span.span c.from-end.result less c.from-end.ensures (c.in_ok-span.ensures.value _ c.loop-span.invariant.standing))
    (count_more c.args.bytes.now c.loop-span.spans c.loop-span.count c.in_ok-span.span less))

pub returns-in-End-clause-spans : goal.returns-in-End-clause-spans
returns-in-End-clause-spans c =
    let less : c.loop-span.count < length c.loop-span.spans = omega (arith, c.loop-span.invariant.size, c.loop-span.invariant.few) in
    spans_more c.args.bytes.now c.loop-span.spans c.loop-span.count c.in_ok-span.span less c.loop-span.invariant.spans c.in_ok-span.ensures.span

pub returns-in-End-clause-whole : goal.returns-in-End-clause-whole
returns-in-End-clause-whole c =
    let less : c.loop-span.count < length c.loop-span.spans = omega (arith, c.loop-span.invariant.size, c.loop-span.invariant.few) in
    let e = rw c.in-End.is at c.in_ok-read_separator.ensures.end in
    let b = behind_more c.args.bytes.now c.loop-span.spans c.loop-span.count c.in_ok-span.span c.from-end.result less c.from-end.ensures (c.in_ok-span.ensures.value _ c.loop-span.invariant.standing) in
    record {
      within = omega (arith, e.0);
      elements = map chars (texts_at c.args.bytes.now (take (c.loop-span.count + 1) (set c.loop-span.spans c.loop-span.count c.in_ok-span.span)));
      texts = texts_utf8 c.args.bytes.now _ (spans_more c.args.bytes.now c.loop-span.spans c.loop-span.count c.in_ok-span.span less c.loop-span.invariant.spans c.in_ok-span.ensures.span);
      spelled = whole_in c.args.bytes.now c.from-end.result _ b (omega (arith, count_more c.args.bytes.now c.loop-span.spans c.loop-span.count c.in_ok-span.span less)) (omega (arith, c.from-end.ensures, c.in_ok-span.ensures.room)) e.0 e.1;
    }

pub loop-span-preserved : goal.loop-span-preserved
loop-span-preserved c =
    let less : c.loop-span.count < length c.loop-span.spans = omega (arith, c.loop-span.invariant.size, c.loop-span.invariant.few) in
    let e = rw c.in-Other.is at c.in_ok-read_separator.ensures.other in
    let b = behind_more c.args.bytes.now c.loop-span.spans c.loop-span.count c.in_ok-span.span c.from-end.result less c.from-end.ensures (c.in_ok-span.ensures.value _ c.loop-span.invariant.standing) in
    let few : c.loop-span.count + 1 < 128 = omega (arith, c.loop-span.invariant.few, e.3) in
    record {
      standing = next_in c.args.bytes.now c.from-end.result _ b (omega (arith, count_more c.args.bytes.now c.loop-span.spans c.loop-span.count c.in_ok-span.span less, few)) e.0 e.1;
      spans = spans_more c.args.bytes.now c.loop-span.spans c.loop-span.count c.in_ok-span.span less c.loop-span.invariant.spans c.in_ok-span.ensures.span;
      size = length-set c.loop-span.spans c.loop-span.count c.in_ok-span.span ∙ c.loop-span.invariant.size;
      few = few;
      within = omega (arith, e.0);
      room = omega (arith, e.2);
    }
