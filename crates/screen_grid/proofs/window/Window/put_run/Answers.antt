use Rattle.std.proofs.Common.{◌≡◌, ◌+◌, ◌-◌, ◌∙◌, ap, length, map, take, drop, rules, arith}
use Rattle.std.proofs.lemmas.List.{length-map, with_items_is, places}
use borrow.Rule.Slice.PartMut.{put_mid}
use Rattle.screen_grid.specs.Runs.{like}
use Rattle.screen_grid.proofs.Windows.{mid_seen}
use Rattle.screen_grid.proofs.window.Window.put_run.Goals as goal

pub returns : goal.returns
returns c =
    let w = c.self.inside in
    let text = c.args.text.now in
    let s = c.args.at in
    let n = length text in
    let now = c.deref_mut.result.now in
    let end : w.base + s + n ≡ w.base + (s + n) = omega arith in
    rw (with_items_is w.held (put_mid (w.base + s) (w.base + s + n - (w.base + s)) now c.draw.new.run) (search (rules, places)))
    (ap (λ k. take w.size (drop w.base (put_mid (w.base + s) (k - (w.base + s)) now c.draw.new.run))) end
    ∙ mid_seen w.held.items now c.draw.new.run (map (like c.args.pen) text) c.args.self.now w.base w.size s (s + n)
    c.deref_mut.ensures.value c.self.view_is c.self.invariant (omega arith) c.requires.within c.draw.ensures
    (length-map text (like c.args.pen) ∙ omega arith))
