use Rattle.std.proofs.Common.{◌+◌, ◌-◌, length, replicate, ◌∙◌, ap, rules}
use Rattle.std.proofs.lemmas.List.{length-replicate, with_items_is, places}
use borrow.Rule.Slice.PartMut.{put_mid}
use Rattle.gate_model.specs.terminal.Cells.{blank}
use Rattle.screen_grid.proofs.Windows.{mid_seen, range_seen, range_size}
use Rattle.screen_grid.proofs.window.Window.erase.Goals as goal

pub returns : goal.returns
returns c =
    let w = c.self.inside in
    let view = c.args.self.now in
    let s = c.args.start in
    let e = c.args.end in
    let n = e - s in
    let now = c.deref_mut.result.now in
    let part = range_seen w.held.items now view w.base w.size s e c.deref_mut.ensures.value c.self.view_is c.self.invariant c.requires.order c.requires.within in
    let blanks = c.erase.ensures ∙ ap (λ run. replicate (length run) blank) part ∙ ap (λ k. replicate k blank) (range_size view s e c.requires.order c.requires.within) in
    rw (with_items_is w.held (put_mid (w.base + s) (w.base + e - (w.base + s)) now c.erase.new.run) (search (rules, places)))
    (mid_seen w.held.items now c.erase.new.run (replicate n blank) view w.base w.size s e
    c.deref_mut.ensures.value c.self.view_is c.self.invariant c.requires.order c.requires.within blanks (length-replicate n blank))
