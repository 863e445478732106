use Rattle.std.proofs.Common.{[], ◌∷◌, refl}
use Rattle.ecma_parser.specs.State.{control_by}
use Rattle.ecma_parser.proofs.FrontLaws.{from-ground}
use Rattle.ecma_parser.proofs.machine.Machine.read.Goals as goal

pub returns-then-is_ground : goal.returns-then-is_ground
returns-then-is_ground c =
    from-ground c.args.self.now c.outside.new.self (control_by c.outside.result c.outside.new.self.sequence) (c.args.c ∷ [])
    (c.if-is_ground.ensures.0 refl) c.outside.ensures
