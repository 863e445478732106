use Rattle.script_grammar.proofs.PieceLaws.{position-none}
use Rattle.script_grammar.proofs.pieces.line_length.Goals as goal

pub returns-in-None-clause-length : goal.returns-in-None-clause-length
returns-in-None-clause-length c = position-none c.args.bytes.now c.in-None.ensures
