use Rattle.std.proofs.Common.{refl}
use Rattle.ecma_parser.proofs.SequenceLaws.{kept-digit}
use Rattle.ecma_parser.proofs.sequence.Sequence.push_digit.Goals as goal

pub returns : goal.returns
returns c = λ text h. kept-digit _ _ c.args.self.now _ text c.args.byte h c.requires.room c.requires.from c.requires.to refl refl refl refl c.add_digit.ensures
