use Rattle.std.proofs.Common.{◌≡◌, ◌≤◌, ◌+◌, ◌*◌, ℕ, get_or, sym, subst, arith, inl, inr, refl}
use Rattle.guac_framing.specs.Answers.{IsStopped}
use Rattle.guac_framing.specs.Scanned.{HasDigits}
use Rattle.guac_framing.proofs.Stops.{stop_in_length, stop_digit, stop_sixth, stop_long_length}
use Rattle.guac_framing.proofs.Steps.{value_in, more_digits}
use Rattle.guac_framing.proofs.length.read_length.Goals as goal
use Rattle.guac_framing.proofs.length.read_length.Goals.{else-byte-eq46-via-then-byte-eq46+else-at-start, else-byte-eq46-via-else-byte-eq46}

pub returns-then-at-start-eq-MOST_DIGITS-clause-stop : goal.returns-then-at-start-eq-MOST_DIGITS-clause-stop
returns-then-at-start-eq-MOST_DIGITS-clause-stop c = λ values i.
    subst (IsStopped c.args.bytes.now) (sym c.bad.ensures)
    (stop_sixth c.args.bytes.now c.args.start c.loop-at.at c.loop-at.length values
    record { begun = i; digits = c.loop-at.invariant.digits; within = omega arith; short = c.loop-at.invariant.short; room = c.loop-at.invariant.room; first = c.requires.room }
    (omega arith) c.if-is_ascii_digit.ensures.cases (omega arith))

pub returns-then-at-length-gt-MOST_INSTRUCTION-clause-stop : goal.returns-then-at-length-gt-MOST_INSTRUCTION-clause-stop
returns-then-at-length-gt-MOST_INSTRUCTION-clause-stop c = λ values i.
    subst (IsStopped c.args.bytes.now) (sym c.bad-then-at-length-gt-MOST_INSTRUCTION.ensures)
    (stop_long_length c.args.bytes.now c.args.start c.loop-at.at c.loop-at.length values
    record { begun = i; digits = c.loop-at.invariant.digits; within = omega arith; short = c.loop-at.invariant.short; room = c.loop-at.invariant.room; first = c.requires.room }
    (omega arith) c.if-is_ascii_digit.ensures.cases (omega (arith, c.loop-at.invariant.short)) (omega (arith, c.from.ensures)))

pub returns-then-at-start-clause-value : goal.returns-then-at-start-clause-value
returns-then-at-start-clause-value c = λ values i.
    value_in c.args.bytes.now c.args.start c.loop-at.at c.loop-at.length values i c.loop-at.invariant.digits (omega arith) c.loop-at.invariant.short (omega arith) c.if-byte-eq46.true

pub returns-else-byte-eq46-clause-stop : goal.returns-else-byte-eq46-clause-stop
returns-else-byte-eq46-clause-stop c = λ values i.
    let none : (48 ≤ get_or c.args.bytes.now c.loop-at.at 0) × (get_or c.args.bytes.now c.loop-at.at 0 ≤ 57) → ⊥ =
    λ d. elim c.if-is_ascii_digit.ensures.cases [ inl h ↦ omega (arith, h, d.0) | inr h ↦ omega (arith, h, d.1) ] in
    let first : get_or c.args.bytes.now c.loop-at.at 0 ≡ 46 → c.loop-at.at ≤ c.args.start =
    λ e. elim c.else-byte-eq46.branch [ else-byte-eq46-via-then-byte-eq46+else-at-start w ↦ omega (arith, w.if-at-start.false) | else-byte-eq46-via-else-byte-eq46 w ↦ absurd (w.if-byte-eq46.false e) ] in
    subst (IsStopped c.args.bytes.now) (sym c.bad-else-byte-eq46.ensures)
    (stop_digit c.args.bytes.now c.args.start c.loop-at.at c.loop-at.length values
    record { begun = i; digits = c.loop-at.invariant.digits; within = omega arith; short = c.loop-at.invariant.short; room = c.loop-at.invariant.room; first = c.requires.room }
    (omega arith) none first)

pub loop-at-preserved : goal.loop-at-preserved
loop-at-preserved c = record {
  digits = subst (λ (d : ℕ). HasDigits c.args.bytes.now c.args.start (c.loop-at.at + 1) (c.loop-at.length * 10 + d)) (sym c.from.ensures)
      (more_digits c.args.bytes.now c.args.start c.loop-at.at c.loop-at.length (get_or c.args.bytes.now c.loop-at.at 0) c.loop-at.invariant.digits (omega arith) refl c.if-is_ascii_digit.ensures.cases);
  short = omega (arith, c.loop-at.invariant.short);
  room = λ less. omega arith;
}

pub returns-clause-stop : goal.returns-clause-stop
returns-clause-stop c = λ values i.
    stop_in_length c.args.bytes.now c.args.start c.loop-at.at c.loop-at.length values
    record { begun = i; digits = c.loop-at.invariant.digits; within = omega arith; short = c.loop-at.invariant.short; room = c.loop-at.invariant.room; first = c.requires.room }
    (omega arith)
