use Rattle.std.proofs.Common.{◌<◌, ◌≤◌, ap, arith, subst}
use Rattle.gate_model.specs.terminal.CellLaws.{IsFull}
use Rattle.gate_model.specs.terminal.Cells.{CellGrid}
use Rattle.screen_grid.proofs.MendedPlaces.{all_rows, no_row, row_more}
use Rattle.screen_grid.proofs.grid.Grid.mend_rows.Goals as goal

pub loop-y-init : goal.loop-y-init
loop-y-init c = no_row c.args.self.now (subst IsFull c.self.view_is c.self.invariant.size)

pub mend_places-requires : goal.mend_places-requires
mend_places-requires c =
    let low = subst (λ n. c.loop-y.y < n) (ap (λ (g : CellGrid). g.rows) c.self.view_is) c.loop-y-test.true in
    record { row = omega (arith, low, c.loop-y.invariant.rows) }

pub loop-y-preserved : goal.loop-y-preserved
loop-y-preserved c =
    let low = subst (λ n. c.loop-y.y < n) (ap (λ (g : CellGrid). g.rows) c.self.view_is) c.loop-y-test.true in
    row_more c.args.self.now c.loop-y.self c.mend_places.new.self c.loop-y.y low c.loop-y.invariant c.mend_places.ensures

pub returns : goal.returns
returns c =
    let all = subst (λ n. n ≤ c.loop-y.y) (ap (λ (g : CellGrid). g.rows) c.self.view_is) c.loop-y-test.false in
    all_rows c.args.self.now c.loop-y.self c.loop-y.y all c.loop-y.invariant
