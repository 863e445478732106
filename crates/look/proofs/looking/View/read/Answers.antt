use Rattle.std.proofs.Common.{sym, ◌∙◌}
use Rattle.canvas.proofs.Playable.{playable}
use Rattle.look.proofs.looking.View.read.Goals as goal

pub take-requires-clause-playable : goal.take-requires-clause-playable
take-requires-clause-playable c = playable c.args.frame.now c.in-Some.instr (sym c.read_server.ensures ∙ c.in-Some.is)
