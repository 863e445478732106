use Rattle.std.proofs.Common.{◌≤◌, ◌+◌, ◌-◌, length, ◌∙◌, rules, arith}
use Rattle.std.proofs.lemmas.List.{with_items_is, places}
use borrow.Rule.Slice.PartMut.{put_mid}
use Rattle.screen_grid.proofs.Windows.{mid_on, mid_back}
use Rattle.screen_grid.proofs.window.Window.slide.Goals as goal

pub returns-then-gone-len : goal.returns-then-gone-len
returns-then-gone-len c =
    let w = c.self.inside in
    let now = c.deref_mut.result.now in
    let gone = c.min-gone.result in
    let held : w.base + w.size ≤ length w.held.items = c.self.invariant in
    rw (with_items_is w.held (put_mid (w.base + w.size) (w.base + w.size + gone - (w.base + w.size)) now c.erase.new.run) (search (rules, places)))
    (mid_on w.held.items now c.erase.new.run c.args.self.now w.base w.size c.args.n gone c.deref_mut.ensures.value c.self.view_is held
    c.min-gone.ensures (omega (arith, c.if-gone-len.true, c.len.ensures, w.held.ok.0, held)) c.erase.ensures)

pub returns : goal.returns
returns c =
    let w = c.self.inside in
    let now = c.deref_mut-2.result.now in
    let gone = c.min-gone.result in
    let held : w.base + w.size ≤ length w.held.items = c.self.invariant in
    rw (with_items_is c.copy_within.new.self (put_mid (w.size - gone) (w.size - (w.size - gone)) now c.erase-2.new.run) (search (rules, places)))
    (mid_back w.held.items now c.erase-2.new.run c.args.self.now w.base w.size c.args.n gone (c.deref_mut-2.ensures.value ∙ c.copy_within.ensures.items) c.self.view_is held
    c.min-gone.ensures c.erase-2.ensures)
