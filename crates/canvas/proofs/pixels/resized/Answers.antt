use Rattle.std.proofs.Common.{sym, ◌∙◌}
use Rattle.canvas.proofs.Sizes.{resized_shows, written_back}
use Rattle.canvas.proofs.pixels.resized.Goals as goal

pub returns : goal.returns
returns c =
    resized_shows c.args.pixels.now c.deref_mut.result.now c.overlay.new.target _ c.args.old_width c.args.old_height c.args.width c.args.height c.min.result c.min-2.result
    (written_back c.overlay.new.target c.in_ok-new.new.items c.in_ok-new.new.len (sym (c.overlay.auto.target ∙ c.deref_mut.ensures.len)))
    c.min.ensures c.min-2.ensures (c.deref_mut.ensures.value ∙ c.in_ok-new.ensures) c.overlay.auto.target c.overlay.ensures
