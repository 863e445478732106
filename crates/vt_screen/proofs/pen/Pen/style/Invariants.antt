use Rattle.std.proofs.Common.{◌≡◌, drop}
use Rattle.gate_model.specs.terminal.Pens.{styled, styled_after}
use Rattle.vt_screen.proofs.pen.Pen.style.Given as goal

-- the numbers that are left make of the pen what all make of the first one
abbrev pub invariant-loop-i : goal.invariant-loop-i
invariant-loop-i l = styled_after l.skipped l.self (drop l.i l.numbers) ≡ styled l.fn.self l.numbers
