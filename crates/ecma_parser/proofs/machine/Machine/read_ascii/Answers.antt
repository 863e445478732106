use Rattle.std.proofs.Common.{take, refl}
use Rattle.ecma_parser.specs.State.{control_by}
use Rattle.ecma_parser.proofs.FrontLaws.{from-ground}
use Rattle.ecma_parser.proofs.machine.Machine.read_ascii.Goals as goal

pub returns-then-begins_sequence-clause-gives : goal.returns-then-begins_sequence-clause-gives
returns-then-begins_sequence-clause-gives c =
    from-ground c.args.self.now c.read_sequence.new.self (control_by c.read_sequence.result.0 c.read_sequence.new.self.sequence) (take c.read_sequence.result.1 c.args.piece.now)
    (c.if-is_ground.ensures.0 refl) c.read_sequence.ensures.gives
