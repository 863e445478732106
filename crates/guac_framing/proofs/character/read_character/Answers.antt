use Rattle.std.proofs.Common.{sym, subst, arith}
use Rattle.guac_framing.specs.Answers.{IsStopped}
use Rattle.guac_framing.proofs.Stops.{stop_in_value, stop_lead, stop_long_character}
use Rattle.guac_framing.proofs.character.read_character.Goals as goal

pub returns-then-at-bytes-clause-stop : goal.returns-then-at-bytes-clause-stop
returns-then-at-bytes-clause-stop c = λ values chars i.
    stop_in_value c.args.bytes.now c.args.at c.args.left values chars record { value = i; within = c.requires.within; room = c.requires.room } (omega (arith, c.if-at-bytes.true))

pub returns-in_default-clause-stop : goal.returns-in_default-clause-stop
returns-in_default-clause-stop c = λ values chars i.
    subst (IsStopped c.args.bytes.now) (sym c.bad.ensures)
    (stop_lead c.args.bytes.now c.args.at c.args.left values chars record { value = i; within = c.requires.within; room = c.requires.room }
    (omega (arith, c.requires.within, c.if-at-bytes.false)) c.in_default.ensures.none)

pub returns-then-at-due-gt-MOST_INSTRUCTION-clause-stop : goal.returns-then-at-due-gt-MOST_INSTRUCTION-clause-stop
returns-then-at-due-gt-MOST_INSTRUCTION-clause-stop c = λ values chars i.
    subst (IsStopped c.args.bytes.now) (sym c.bad-then-at-due-gt-MOST_INSTRUCTION.ensures)
    (stop_long_character c.args.bytes.now c.args.at c.args.left values chars c.in-Some.due.bytes c.in-Some.due.least c.in-Some.due.most record { value = i; within = c.requires.within; room = c.requires.room }
    (omega (arith, c.requires.within, c.if-at-bytes.false)) c.in-Some.ensures.some c.if-at-due-gt-MOST_INSTRUCTION.true)

pub returns-clause-stop : goal.returns-clause-stop
returns-clause-stop c = λ values chars i. c.read_due.ensures.stop values chars c.args.left i (omega (arith, c.if-at-due-gt-MOST_INSTRUCTION.false))
