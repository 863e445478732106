use Rattle.std.proofs.Common.{◌+◌, ◌-◌, ◌∙◌, ap, rules}
use Rattle.std.proofs.lemmas.List.{with_items_is, places}
use Rattle.std.specs.Prelude.{slice_range}
use borrow.Rule.Slice.PartMut.{put_mid}
use Rattle.gate_model.specs.terminal.Cells.{moved_left}
use Rattle.screen_grid.proofs.Windows.{mid_seen, range_seen, range_size, left_size}
use Rattle.screen_grid.proofs.window.Window.move_left.Goals as goal

pub returns : goal.returns
returns c =
    let w = c.self.inside in
    let view = c.args.self.now in
    let s = c.args.start in
    let e = c.args.end in
    let now = c.deref_mut.result.now in
    let part = slice_range view s e in
    let seen = range_seen w.held.items now view w.base w.size s e c.deref_mut.ensures.value c.self.view_is c.self.invariant c.requires.order c.requires.within in
    rw (with_items_is w.held (put_mid (w.base + s) (w.base + e - (w.base + s)) now c.move_left.new.run) (search (rules, places)))
    (mid_seen w.held.items now c.move_left.new.run (moved_left c.args.n part) view w.base w.size s e
    c.deref_mut.ensures.value c.self.view_is c.self.invariant c.requires.order c.requires.within (c.move_left.ensures ∙ ap (moved_left c.args.n) seen)
    (left_size part c.args.n ∙ range_size view s e c.requires.order c.requires.within))
