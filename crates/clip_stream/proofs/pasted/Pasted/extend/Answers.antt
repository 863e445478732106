use Rattle.std.proofs.Common.{rules, ◌≡◌, ◌≤◌, ◌+◌, ◌-◌, ◌++◌, length, take, drop, ap, ◌∙◌, sym, arith, length-drop}
use Rattle.std.proofs.lemmas.List.{with_items_is, places, length-take-le}
use borrow.Rule.Slice.PartMut.{mid_of, post_of}
use Rattle.base64.specs.Engines.{standard}
use Rattle.base64.specs.GeneralPurpose.{decoded_bytes_of, decoded_of}
use Rattle.clip_stream.specs.Clips.{extended}
use Rattle.clip_stream.proofs.Decoding.{decoded_none, decoded_whole, extended-some}
use Rattle.clip_stream.proofs.pasted.Pasted.extend.Goals as goal

pub returns-in-Ok : goal.returns-in-Ok
returns-in-Ok c =
    let w = c.self.inside in
    let now = c.deref_mut.result.now in
    let old = mid_of w.end (length now - w.end) now in
    let input = c.as_bytes.result.now in
    let more = decoded_bytes_of standard input in
    let found = decoded_whole input (length old) c.in-Ok.count c.in-Ok.ensures.value in
    let front : take w.end now ≡ c.args.self.now = ap (take w.end) c.deref_mut.ensures.value ∙ c.self.view_is in
    let long : length now ≡ 262144 = ap length c.deref_mut.ensures.value ∙ sym w.bytes.ok.0 ∙ c.self.invariant.1 in
    let room : length old ≡ length now - w.end = length-take-le (length now - w.end) (drop w.end now) (omega (arith, length-drop w.end now)) in
    let fits : length c.args.self.now + c.in-Ok.count ≤ 262144 = omega (arith, found.2, room, long, ap length front, length-take-le w.end now (omega (arith, long, c.self.invariant))) in
    ap (λ s. extended c.args.self.now (decoded_of standard s)) (sym c.as_bytes.ensures.value)
    ∙ ap (extended c.args.self.now) found.0
    ∙ rw (with_items_is w.bytes (take w.end now ++ (c.decode_slice.new.output ++ post_of w.end (length now - w.end) now)) (search (rules, places)))
    (extended-some w.end c.in-Ok.count c.args.self.now now c.decode_slice.new.output (post_of w.end (length now - w.end) now) more (drop (length more) old) front (omega (arith, long, c.self.invariant)) c.in-Ok.ensures.written found.1 fits)

pub returns-in-Err : goal.returns-in-Err
returns-in-Err c =
    let w = c.self.inside in
    let now = c.deref_mut.result.now in
    let old = mid_of w.end (length now - w.end) now in
    let front : take w.end now ≡ c.args.self.now = ap (take w.end) c.deref_mut.ensures.value ∙ c.self.view_is in
    let long : length now ≡ 262144 = ap length c.deref_mut.ensures.value ∙ sym w.bytes.ok.0 ∙ c.self.invariant.1 in
    let room : length old ≡ length now - w.end = length-take-le (length now - w.end) (drop w.end now) (omega (arith, length-drop w.end now)) in
    ap (λ s. extended c.args.self.now (decoded_of standard s)) (sym c.as_bytes.ensures.value)
    ∙ decoded_none c.as_bytes.result.now c.args.self.now (length old) c.in-Err.field-0 (omega (arith, room, long, ap length front, length-take-le w.end now (omega (arith, long, c.self.invariant)))) c.in-Err.ensures.value
