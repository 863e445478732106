use Rattle.std.proofs.Common.{◌<◌, ◌≤◌, ap, subst}
use Rattle.gate_model.specs.terminal.CellLaws.{IsFull}
use Rattle.gate_model.specs.terminal.Cells.{CellGrid}
use Rattle.screen_grid.proofs.MendedPlaces.{all_more, none_mended, some_more}
use Rattle.screen_grid.proofs.grid.Grid.mend_places.Goals as goal

pub loop-x-init : goal.loop-x-init
loop-x-init c = none_mended c.args.self.now c.args.y (subst IsFull c.self.view_is c.self.invariant.size)

pub loop-x-preserved : goal.loop-x-preserved
loop-x-preserved c =
    let low = subst (λ n. c.loop-x.x < n) (ap (λ (g : CellGrid). g.cols) c.self.view_is) c.loop-x-test.true in
    some_more c.args.self.now c.loop-x.self c.mend_at.new.self c.loop-x.x c.args.y low c.requires.row c.mend_at.ensures c.loop-x.invariant

pub returns : goal.returns
returns c =
    let all = subst (λ n. n ≤ c.loop-x.x) (ap (λ (g : CellGrid). g.cols) c.self.view_is) c.loop-x-test.false in
    all_more c.args.self.now c.loop-x.self c.loop-x.x c.args.y all c.loop-x.invariant
