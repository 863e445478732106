use Rattle.ecma_parser.proofs.SequenceLaws.{kept-separator}
use Rattle.ecma_parser.proofs.sequence.Sequence.push_separator.Goals as goal

pub returns : goal.returns
returns c =
    let passed = c.next_place.ensures in
    λ text h. kept-separator c.args.self.now c.next_place.new.self text h c.requires.room passed.same.0 passed.same.1 passed.place passed.count passed.same.2
