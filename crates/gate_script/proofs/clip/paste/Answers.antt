use Rattle.std.proofs.Common.{◌-◌, length, take, drop, ◌∙◌, arith}
use Rattle.clip_stream.proofs.Rooms.{rest_slice}
use Rattle.gate_script.proofs.ClipLaws.{feed_failed, feed_next}
use Rattle.gate_script.proofs.clip.paste.Goals as goal

-- a write failed
pub returns-in-Err-clause-written : goal.returns-in-Err-clause-written
returns-in-Err-clause-written g c =
    let piece = c.args.piece.now in
    let at = c.loop-at.at in
    feed_failed c.args.paster.now c.loop-at.paster c.feed-at.new.self c.drain.new.paster at c.feed-at.result piece (take (length piece - at) (drop at piece)) _ _ _ c.loop-at.invariant.written c.feed-at.ensures.fed (rest_slice at piece) _ c.in-Err.ensures.written

pub loop-at-preserved : goal.loop-at-preserved
loop-at-preserved g c =
    let piece = c.args.piece.now in
    let at = c.loop-at.at in
    let i = c.loop-at.invariant in
    record {
      some = omega (arith, i.some);
      within = omega (arith, c.feed-at.ensures.within);
      written = feed_next c.args.paster.now c.loop-at.paster c.feed-at.new.self c.drain.new.paster at c.feed-at.result piece (take (length piece - at) (drop at piece)) _ _ _ i.written c.feed-at.ensures.fed (rest_slice at piece) c.in-Ok.ensures.written;
      begun = c.drain.ensures.ended ∙ c.feed-at.ensures.begun;
      room = c.in-Ok.ensures.room;
      later = omega (arith, i.later, c.drain.ensures.later);
    }
