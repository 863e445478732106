use Rattle.std.proofs.Common.{◌≡◌, ◌∷◌, suc, List, ap, refl, sym, ◌∙◌, subst}
use Rattle.std.specs.Prelude.{Result, Err}
use Rattle.std.specs.Option.{is_some}
use Rattle.std.proofs.lemmas.Result.{err_from_is_err_and}
use Rattle.script_grammar.specs.declared.line.Line.TheVariants.{Take}
use Rattle.script_grammar.specs.declared.order.Order.{Order}
use Rattle.gate_script.specs.declared.stop.Stop.{Stop}
use Rattle.gate_script.specs.declared.sight.Sight.TheVariants.{Played}
use Rattle.gate_script.specs.Loading.{LoadAt, TakesEnd, takes_behind}
use Rattle.gate_script.specs.Sinks.{held}
use Rattle.gate_script.proofs.LoadLaws.{no_memory_behind, none_waits, one_take_more, round_follows}
use Rattle.gate_script.proofs.load.Load.take_all.Goals as goal

pub returns-then-level-eq0-clause-step : goal.returns-then-level-eq0-clause-step
returns-then-level-eq0-clause-step g c = λ orders began w.
    let s = c.loop-taken.invariant.done orders began w in
    (c.loop-taken._taken, record { stands = s; all_taken = none_waits c.level.result s.at.play.history (c.level.ensures Played s.at.play s.at.stands) c.if-level-eq0.true })

pub line-requires-clause-follows : goal.line-requires-clause-follows
line-requires-clause-follows g c = round_follows (is_some c.loop-taken.self.run.state.session) (Take 65536) c.loop-taken.invariant.opened tt

pub loop-taken-preserved : goal.loop-taken-preserved
loop-taken-preserved g c = record {
  opened = c.in_ok-line.ensures.open;
  done = λ orders began w.
      let n = held (g.A.Sink.written c.line.new.answers) (g.A.Sink.faults c.line.new.answers) (g.F.Sink.written c.line.new.frames) (g.F.Sink.faults c.line.new.frames) in
      subst (λ (os : List Order). LoadAt os c.line.new.self began n) (sym (one_take_more orders c.loop-taken._taken)) (c.in_ok-line.ensures.step (takes_behind orders c.loop-taken._taken) began (c.loop-taken.invariant.done orders began w));
}

pub returns-in_err-line-clause-step : goal.returns-in_err-line-clause-step
returns-in_err-line-clause-step g c = λ orders began w.
    let p = err_from_is_err_and c.from_residual.result c.from_residual.ensures.1 in
    let stop = c.in_err-line.field-0.0 in
    let e : c.from_residual.result ≡ Err stop = p.1 ∙ ap (λ (s : Stop). Err s) p.2 in
    let n = held (g.A.Sink.written c.line.new.answers) (g.A.Sink.faults c.line.new.answers) (g.F.Sink.written c.line.new.frames) (g.F.Sink.faults c.line.new.frames) in
    subst (λ (x : Result (Unit {0}) Stop). TakesEnd orders x c.line.new.self began n) (sym e)
    (suc c.loop-taken._taken, c.in_err-line.ensures.step (takes_behind orders c.loop-taken._taken) began (c.loop-taken.invariant.done orders began w))

pub returns-clause-step : goal.returns-clause-step
returns-clause-step g c = λ orders began w.
    let s = c.loop-taken.invariant.done orders began w in
    let n = held (g.A.Sink.written c.loop-taken.answers) (g.A.Sink.faults c.loop-taken.answers) (g.F.Sink.written c.loop-taken.frames) (g.F.Sink.faults c.loop-taken.frames) in
    (c.loop-taken._taken, no_memory_behind (takes_behind orders c.loop-taken._taken) c.loop-taken.self.run began n s.at)
