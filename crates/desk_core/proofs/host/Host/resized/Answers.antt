use Rattle.std.proofs.Common.{ap, ◌∙◌}
use Rattle.gate_model.specs.terminal.Resizing.{resized}
use Rattle.gate_model.specs.terminal.Terminal.{Terminal}
use Rattle.desk_core.proofs.host.Host.resized.Goals as goal

pub returns : goal.returns
returns c = c.in_ok-resize.ensures.state ∙ ap (λ (t : Terminal). resized c.args.cols c.args.rows t) c.in_ok-screen.ensures
