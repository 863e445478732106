use Rattle.std.proofs.Common.{◌∷◌, [], ◌++◌, sym, subst, arith}
use Rattle.ecma_parser.specs.Sequence.{Holds}
use Rattle.ecma_parser.proofs.SequenceLaws.{void-long, void-other, not_plain}
use Rattle.ecma_parser.proofs.sequence.Sequence.push.Goals as goal

pub returns-in-59-clause-kept : goal.returns-in-59-clause-kept
returns-in-59-clause-kept c = λ kept text h other.
    subst (λ d. Holds c.push_separator.new.self (text ++ d ∷ [])) (sym c.in-59.is) (c.push_separator.ensures text h)

pub returns-in-0-to-9-clause-kept : goal.returns-in-0-to-9-clause-kept
returns-in-0-to-9-clause-kept c = λ kept text h other. c.push_digit.ensures text h

pub returns-then-self-ge-MOST_CHARACTERS-clause-void : goal.returns-then-self-ge-MOST_CHARACTERS-clause-void
returns-then-self-ge-MOST_CHARACTERS-clause-void c = λ void text h other. void-long text c.args.c (omega (arith, h.long))

pub returns-in_default-clause-void : goal.returns-in_default-clause-void
returns-in_default-clause-void c = λ void text h other. void-other text c.args.c other (not_plain c.args.c (λ is. absurd (omega arith)) (λ from. omega arith))
