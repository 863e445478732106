use Rattle.std.proofs.Common.{◌++◌, ◌∷◌, [], take, sym, ◌∙◌}
use Rattle.std.proofs.Math.Logic.{∥∥₁_map}
use Rattle.ecma_parser.specs.State.{control_by}
use Rattle.ecma_parser.proofs.HeldLaws.{read-front}
use Rattle.ecma_parser.proofs.ParserLaws.{run-whole}
use Rattle.ecma_parser.proofs.parser.Parser.read_char.Goals as goal

pub invariant_of-self : goal.invariant_of-self
invariant_of-self c =
    let old = c.args.self.now in
    let run = take c.decode-found.result.1 c.args.piece.now in
    let front = read-front c.args.piece.now c.in-Some.c c.decode-found.result.1 (sym c.in-Some.is ∙ c.decode-found.ensures.char) c.decode-found.ensures.size in
    record {
      past = ∥∥₁_map old.past (λ known. (
        known.0 ++ run,
        (run-whole known.0 run (c.in-Some.c ∷ []) old.held old.machine c.read.new.self (control_by c.read.result c.read.new.self.sequence) known.1
            c.requires.alone front.1 c.read.ensures).past,
      ));
    }

pub returns-in-Some-clause-within : goal.returns-in-Some-clause-within
returns-in-Some-clause-within c =
    (read-front c.args.piece.now c.in-Some.c c.decode-found.result.1 (sym c.in-Some.is ∙ c.decode-found.ensures.char) c.decode-found.ensures.size).0

pub returns-in-Some-clause-controls : goal.returns-in-Some-clause-controls
returns-in-Some-clause-controls c = λ bytes past.
    let old = c.args.self.now in
    let front = read-front c.args.piece.now c.in-Some.c c.decode-found.result.1 (sym c.in-Some.is ∙ c.decode-found.ensures.char) c.decode-found.ensures.size in
    (run-whole bytes (take c.decode-found.result.1 c.args.piece.now) (c.in-Some.c ∷ []) old.held old.machine c.read.new.self
    (control_by c.read.result c.read.new.self.sequence) past c.requires.alone front.1 c.read.ensures).controls

pub returns-in-Some-clause-state : goal.returns-in-Some-clause-state
returns-in-Some-clause-state c = λ bytes past.
    let old = c.args.self.now in
    let front = read-front c.args.piece.now c.in-Some.c c.decode-found.result.1 (sym c.in-Some.is ∙ c.decode-found.ensures.char) c.decode-found.ensures.size in
    (run-whole bytes (take c.decode-found.result.1 c.args.piece.now) (c.in-Some.c ∷ []) old.held old.machine c.read.new.self
    (control_by c.read.result c.read.new.self.sequence) past c.requires.alone front.1 c.read.ensures).past
