use Rattle.std.proofs.Common.{◌≡◌, ◌+◌, arith, drop, sym, ◌∙◌}
use Rattle.std.proofs.lemmas.Grind.{common_steps}
use Rattle.std.proofs.lemmas.List.{take_rest}
use Rattle.gate_model.specs.terminal.Pens.{colour_size}
use Rattle.vt_screen.proofs.Styles.{after_skipped, after_colour, after_number}
use Rattle.vt_screen.proofs.pen.Pen.style.Goals as goal
use Rattle.vt_screen.proofs.pen.Pen.style.Goals.{then-skipped-gt0, else-skipped-gt0+then-is_colour, else-skipped-gt0+else-is_colour}

pub loop-i-preserved : goal.loop-i-preserved
loop-i-preserved c =
    let numbers = c.args.numbers.now in
    let i = c.loop-i.i in
    elim c.if-skipped-gt0.branch [
      | then-skipped-gt0 w ↦
          let e = after_skipped c.loop-i.skipped c.loop-i.self numbers i (omega arith) (omega arith) in
          rw (w.skipped-is, w.self-is) (sym e ∙ c.loop-i.invariant)
      | else-skipped-gt0+then-is_colour w ↦
          let none : c.loop-i.skipped ≡ 0 = omega arith in
          let e = after_colour c.loop-i.self numbers i (omega arith) (sym w.is_colour.ensures ∙ w.if-is_colour.true) in
          let rest : c.if-skipped-gt0.skipped ≡ colour_size (drop (i + 1) numbers) = grind (arith, common_steps) in
          let before = rw none at c.loop-i.invariant in
          rw (rest, w.self-is, w.choose.ensures, w.chosen_index.ensures, take_rest numbers (i + 1)) (sym e ∙ before)
      | else-skipped-gt0+else-is_colour w ↦
          let none : c.loop-i.skipped ≡ 0 = omega arith in
          let e = after_number c.loop-i.self numbers i (omega arith) (sym w.is_colour.ensures ∙ w.if-is_colour.false) in
          let before = rw none at c.loop-i.invariant in
          rw (w.skipped-is, none, w.self-is, w.set.ensures, w.choice.ensures) (sym e ∙ before)
    ]
