use Rattle.std.proofs.Common.{◌*◌, ◌∙◌, ap, take, arith}
use Rattle.std.proofs.lemmas.List.{take-replicate}
use Rattle.gate_model.specs.terminal.Cells.{blank}
use Rattle.screen_grid.proofs.window.Window.new.Goals as goal

pub returns : goal.returns
returns c = ap (take c.args.count) c.in_ok-held.ensures ∙ take-replicate c.args.count (2 * c.args.count) blank (omega arith)
