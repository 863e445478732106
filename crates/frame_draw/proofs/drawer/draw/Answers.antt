use Rattle.std.proofs.Common.{ap, length, ◌∙◌}
use Rattle.frame_draw.proofs.Leading.{flags_read}
use Rattle.frame_draw.proofs.drawer.draw.Goals as goal

pub draw_flagged-requires-clause-all : goal.draw_flagged-requires-clause-all
draw_flagged-requires-clause-all c = ap length c.deref_mut.ensures.value ∙ (c.in_ok-flags.ensures.all ∙ ap length c.as_slice.ensures.keys)

pub returns-clause-along : goal.returns-clause-along
returns-clause-along c = λ rest copies fits left.
    let now = c.args.now.now in
    c.draw_flagged.ensures.along rest copies fits
    (flags_read now c.in_ok-flags.flags.items c.deref_mut.result.now c.as_slice.result.now c.cols.result copies c.args.wanted c.deref_mut.ensures.value c.as_slice.ensures.keys c.cols.ensures c.in_ok-flags.ensures.told left)
