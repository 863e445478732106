use Rattle.std.proofs.Common.{◌++◌, take}
use Rattle.std.proofs.Math.Logic.{∥∥₁_map}
use Rattle.ecma_parser.specs.State.{control_by}
use Rattle.ecma_parser.proofs.ParserLaws.{run-ascii}
use Rattle.ecma_parser.proofs.parser.Parser.read_ascii.Goals as goal

pub invariant_of-self : goal.invariant_of-self
invariant_of-self c =
    let old = c.args.self.now in
    let run = take c.read_ascii.result.1 c.args.piece.now in
    record {
      past = ∥∥₁_map old.past (λ known. (
        known.0 ++ run,
        (run-ascii known.0 run old.held old.machine c.read_ascii.new.self (control_by c.read_ascii.result.0 c.read_ascii.new.self.sequence) known.1
            c.requires.alone c.read_ascii.ensures.ascii c.read_ascii.ensures.gives).past,
      ));
    }

pub returns-clause-controls : goal.returns-clause-controls
returns-clause-controls c = λ bytes past.
    let old = c.args.self.now in
    (run-ascii bytes (take c.read_ascii.result.1 c.args.piece.now) old.held old.machine c.read_ascii.new.self
    (control_by c.read_ascii.result.0 c.read_ascii.new.self.sequence) past c.requires.alone c.read_ascii.ensures.ascii c.read_ascii.ensures.gives).controls

pub returns-clause-state : goal.returns-clause-state
returns-clause-state c = λ bytes past.
    let old = c.args.self.now in
    (run-ascii bytes (take c.read_ascii.result.1 c.args.piece.now) old.held old.machine c.read_ascii.new.self
    (control_by c.read_ascii.result.0 c.read_ascii.new.self.sequence) past c.requires.alone c.read_ascii.ensures.ascii c.read_ascii.ensures.gives).past
