use Rattle.std.proofs.Common.{◌<◌, ◌+◌, ◌-◌, ◌++◌, length, take, drop, append_assoc, ap, ◌∙◌, arith}
use Rattle.std.specs.Prelude.{◌==◌}
use Rattle.clip_stream.specs.Typed.{stroke, strokes_of}
use Rattle.clip_stream.proofs.Rooms.{rest_slice}
use Rattle.clip_stream.proofs.Typing.{size_fits, strokes-step}
use Rattle.clip_stream.proofs.keys.type_some.Goals as goal

pub overflow_add-at : goal.overflow_add-at
overflow_add-at c =
    let bytes = c.args.bytes.now in
    let at = c.loop-at.at in
    let d = c.decode_lossy-character in
    let fits = size_fits at d.result.1 bytes (take (length bytes - at) (drop at bytes)) (omega (arith, c.len.ensures)) (rest_slice at bytes) d.ensures.size in
    omega (arith, fits.1, c.len.ensures)

pub loop-at-smaller : goal.loop-at-smaller
loop-at-smaller c =
    let bytes = c.args.bytes.now in
    let at = c.loop-at.at in
    let d = c.decode_lossy-character in
    let fits = size_fits at d.result.1 bytes (take (length bytes - at) (drop at bytes)) (omega (arith, c.len.ensures)) (rest_slice at bytes) d.ensures.size in
    omega (arith, fits.0, fits.1)

pub loop-at-preserved : goal.loop-at-preserved
loop-at-preserved c =
    let bytes = c.args.bytes.now in
    let at = c.loop-at.at in
    let d = c.decode_lossy-character in
    let before : at < length bytes = omega (arith, c.len.ensures) in
    let fits = size_fits at d.result.1 bytes (take (length bytes - at) (drop at bytes)) (omega arith) (rest_slice at bytes) d.ensures.size in
    let behind = strokes_of (d.result.0 == 13) (drop (at + d.result.1) bytes) in
    record {
      typed =
          ap (λ x. x ++ behind) c.put_stroke.ensures.appended ∙ append_assoc c.loop-at.into.items (stroke c.keysym_behind.result) behind
          ∙ ap (λ k. c.loop-at.into.items ++ (stroke k ++ behind)) c.keysym_behind.ensures
          ∙ ap (λ x. c.loop-at.into.items ++ x) (strokes-step c.loop-at.returned at d.result.1 d.result.0 bytes (take (length bytes - at) (drop at bytes)) (omega arith) (rest_slice at bytes) d.ensures.char d.ensures.size)
          ∙ c.loop-at.invariant.typed;
      within = fits.1;
      capacity = omega arith;
    }
