use Rattle.std.proofs.Common.{◌∙◌, sym, subst, arith}
use Rattle.guac_framing.specs.Answers.{IsStopped}
use Rattle.guac_framing.proofs.Stops.{stop_behind, stop_separator, stop_many, stop_long_element}
use Rattle.guac_framing.proofs.separator.read_separator.Goals as goal

pub returns-then-at-bytes-clause-stop : goal.returns-then-at-bytes-clause-stop
returns-then-at-bytes-clause-stop c = λ values i n.
    stop_behind c.args.bytes.now c.args.at values record { behind = i; within = c.requires.within; room = c.requires.room } (omega (arith, c.if-at-bytes.true))

pub returns-in-44-clause-stop : goal.returns-in-44-clause-stop
returns-in-44-clause-stop c = λ values i n.
    subst (IsStopped c.args.bytes.now) (sym c.bad.ensures)
    (stop_many c.args.bytes.now c.args.at values record { behind = i; within = c.requires.within; room = c.requires.room }
    (omega (arith, c.requires.within, c.if-at-bytes.false)) c.in-44.is (n ∙ c.if-count-eq-MOST_ELEMENTS.true))

pub returns-in-44-2-clause-stop : goal.returns-in-44-2-clause-stop
returns-in-44-2-clause-stop c = λ values i n.
    subst (IsStopped c.args.bytes.now) (sym c.bad-in-44-2.ensures)
    (stop_long_element c.args.bytes.now c.args.at values record { behind = i; within = c.requires.within; room = c.requires.room }
    (omega (arith, c.requires.within, c.if-at-bytes.false)) c.in-44.is (omega (arith, i.count, n, c.if-count-eq-MOST_ELEMENTS.false)) c.if-at-gt-MOST_INSTRUCTION.true)

pub returns-in_default-clause-stop : goal.returns-in_default-clause-stop
returns-in_default-clause-stop c = λ values i n.
    subst (IsStopped c.args.bytes.now) (sym c.bad-in_default.ensures)
    (stop_separator c.args.bytes.now c.args.at values record { behind = i; within = c.requires.within; room = c.requires.room }
    (omega (arith, c.requires.within, c.if-at-bytes.false)) (λ e. omega (arith, e)) (λ e. omega (arith, e)))
