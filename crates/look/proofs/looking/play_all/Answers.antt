use Rattle.std.proofs.Common.{List, subst, take}
use Rattle.std.proofs.lemmas.List.{take_all}
use Rattle.gate_model.specs.declared.instr.Instr.{Instr}
use Rattle.gate_model.specs.picture.Layers.{draw}
use Rattle.canvas.specs.Standing.{Stands}
use Rattle.canvas.proofs.Playable.{playable_at}
use Rattle.look.proofs.Seeing.{played_more}
use Rattle.look.proofs.looking.play_all.Goals as goal

pub play-requires : goal.play-requires
play-requires c = playable_at c.args.instrs.now c.loop-instr.instr-index _ c.requires c.loop-instr-test.true

pub loop-instr-preserved : goal.loop-instr-preserved
loop-instr-preserved c = λ m s. played_more m c.args.instrs.now c.loop-instr.instr-index _ c.play.new.self c.loop-instr-test.true (c.in_ok-play.ensures.played (draw m (take c.loop-instr.instr-index c.args.instrs.now)) (c.loop-instr.invariant m s))

pub returns : goal.returns
returns c = λ m s. subst (λ (is : List Instr). Stands c.loop-instr.canvas (draw m is)) (take_all c.loop-instr.instr-index c.args.instrs.now c.loop-instr-test.false) (c.loop-instr.invariant m s)
