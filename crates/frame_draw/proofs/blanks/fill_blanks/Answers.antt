use Rattle.frame_draw.proofs.Leading.{leads_both}
use Rattle.frame_draw.proofs.blanks.fill_blanks.Goals as goal

pub loop-place-preserved : goal.loop-place-preserved
loop-place-preserved c =
    leads_both c.args.now.now c.args.list.now.items c.loop-place.list.items c.fill_strip.new.list.items c.args.wanted.now c.loop-place.wanted c.fill_strip.new.wanted
    c.loop-place.invariant c.in_ok-place.ensures.fills
