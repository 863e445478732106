use Rattle.std.proofs.Common.{rules, ◌+◌, take, refl}
use Rattle.std.proofs.lemmas.List.{take_more}
use Rattle.frame_draw.proofs.Marking.{marked_past, marked_set}
use Rattle.frame_draw.proofs.wanted.flags_of_list.Goals as goal
use Rattle.frame_draw.proofs.wanted.flags_of_list.Goals.{then-place-len, else-place-len}

pub loop-entry-preserved : goal.loop-entry-preserved
loop-entry-preserved c =
    let i = c.loop-entry.entry-index in
    let list = c.args.list.now in
    elim c.if-place-len.branch [
      | then-place-len w ↦
          rw (w.flags-is)
          (marked_set c.args.cols c.args.total (take i list) (take (i + 1) list) _ _ c.loop-entry.flags.items _ (take_more list i _ c.loop-entry-test.true) refl (search rules) refl c.loop-entry.invariant)
      | else-place-len w ↦
          rw (w.flags-is)
          (marked_past c.args.cols c.args.total (take i list) (take (i + 1) list) _ _ c.loop-entry.flags.items (take_more list i (0, 0) c.loop-entry-test.true) refl (search rules) c.loop-entry.invariant)
    ]
