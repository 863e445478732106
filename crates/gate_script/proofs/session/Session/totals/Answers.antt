use Rattle.std.proofs.Common.{Bool, refl, sym, subst, ◌∙◌, arith}
use Rattle.script_grammar.specs.declared.line.Line.TheVariants.{Totals as TellTotals}
use Rattle.gate_script.specs.Seeing.{AgreeWithFirst, Canvases}
use Rattle.gate_script.specs.Told.{totals_lines}
use Rattle.gate_script.specs.declared.sight.Sight.TheVariants.{Played}
use Rattle.gate_script.proofs.SessionLaws.{told_alone, totals_are_told}
use Rattle.gate_script.proofs.session.Session.totals.Goals as goal

pub returns : goal.returns
returns c = λ h now at.
    let s = c.args.self.now in
    let sum = c.in_ok-pixel_sum.field-0 in
    let agree = c.agree_with_first.result in
    told_alone Played now s c.args.reply.now c.say_totals.new.self h at (TellTotals c.args.totals) (totals_lines c.args.totals c.len.result c.stamp.result sum agree) s
    (λ answers. (
      totals_lines c.args.totals c.len.result c.stamp.result sum agree,
      totals_are_told now s c.args.reply.now c.args.reply.now h at c.args.totals c.len.result c.stamp.result sum agree c.deref.result.now c.deref.ensures.value (omega (arith, c.len.ensures)) (c.stamp.ensures h at.stands) c.in_ok-pixel_sum.ensures.none c.in_ok-pixel_sum.ensures.sum
          (subst (λ (cs : Canvases). AgreeWithFirst cs agree) c.deref-2.ensures.value c.agree_with_first.ensures),
      answers,
    ))
    refl refl c.say_totals.result c.say_totals.ensures
