use Rattle.std.proofs.Common.{sym, ◌∙◌}
use Rattle.canvas.proofs.Playable.{playable}
use Rattle.canvas.proofs.texts.play_frame.Goals as goal

pub play-requires : goal.play-requires
play-requires c = playable c.args.frame.now c.in-Some.instr (sym c.read_server.ensures ∙ c.in-Some.is)
