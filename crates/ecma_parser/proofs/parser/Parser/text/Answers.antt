use Rattle.std.proofs.Common.{take, refl}
use Rattle.ecma_parser.proofs.ParserLaws.{run-text}
use Rattle.ecma_parser.proofs.parser.Parser.text.Goals as goal

pub returns-clause-controls : goal.returns-clause-controls
returns-clause-controls c = λ bytes past.
    let s = c.args.self.now in
    (run-text bytes (take c.text_length.result c.args.piece.now) s.held s.machine past c.requires.alone (c.if-not-is_ground.ensures.0 refl) c.text_length.ensures.printable).controls

pub returns-clause-state : goal.returns-clause-state
returns-clause-state c = λ bytes past.
    let s = c.args.self.now in
    (run-text bytes (take c.text_length.result c.args.piece.now) s.held s.machine past c.requires.alone (c.if-not-is_ground.ensures.0 refl) c.text_length.ensures.printable).past
