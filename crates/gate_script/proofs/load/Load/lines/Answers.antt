use Rattle.std.proofs.Common.{◌≡◌, ◌++◌, ◌∷◌, [], List, map, reverse, ap, append-nil, arith, refl, sym, ◌∙◌, subst}
use Rattle.std.specs.Prelude.{Result, Err}
use Rattle.std.proofs.lemmas.List.Sorted.{All-permutation}
use Rattle.std.specs.Option.{is_some}
use Rattle.std.proofs.lemmas.Result.{err_from_is_err_and}
use Rattle.script_grammar.specs.declared.order.Order.{Order}
use Rattle.script_grammar.specs.declared.order.Order.TheVariants.{Untold}
use Rattle.script_load.specs.Rounds.{IsRoundLine, untold}
use Rattle.gate_script.specs.declared.stop.Stop.{Stop}
use Rattle.gate_script.specs.Loading.{LoadAt, LoadEnds}
use Rattle.gate_script.specs.Sinks.{held}
use Rattle.gate_script.proofs.LoadLaws.{all_popped, last_popped, popped, round_follows, round_in_range, some_ended, stopped_more}
use Rattle.gate_script.proofs.load.Load.lines.Goals as goal

pub loop-line-init : goal.loop-line-init
loop-line-init g c = record {
  opened = c.requires.open;
  rounds = All-permutation IsRoundLine c.args.lines.items c.reverse.new.self.items c.reverse.ensures.permutation c.requires.rounds;
  done = ([], sym c.reverse.ensures.items ∙ sym (append-nil c.reverse.new.self.items), λ orders began w. w);
}

pub line-requires-clause-follows : goal.line-requires-clause-follows
line-requires-clause-follows g c = round_follows (is_some c.loop-line.self.run.state.session) c.in-Some.line c.loop-line.invariant.opened (last_popped c.loop-line.lines.items c.pop.new.self.items c.in-Some.line c.in-Some.ensures.items c.loop-line.invariant.rounds).1

pub line-requires-clause-range : goal.line-requires-clause-range
line-requires-clause-range g c = round_in_range c.in-Some.line (last_popped c.loop-line.lines.items c.pop.new.self.items c.in-Some.line c.in-Some.ensures.items c.loop-line.invariant.rounds).1

pub loop-line-preserved : goal.loop-line-preserved
loop-line-preserved g c =
    let ended = c.loop-line.invariant.done.0 in
    let line = c.in-Some.line in
    record {
      opened = c.in_ok-line.ensures.open;
      rounds = (last_popped c.loop-line.lines.items c.pop.new.self.items line c.in-Some.ensures.items c.loop-line.invariant.rounds).0;
      done = (
        line ∷ ended,
        popped (reverse c.args.lines.items) c.loop-line.lines.items c.pop.new.self.items ended line c.loop-line.invariant.done.1 c.in-Some.ensures.items,
        λ orders began w. c.in_ok-line.ensures.step (map Untold ended ++ orders) began (c.loop-line.invariant.done.2 orders began w),
      );
    }

pub returns-in_err-line-clause-step : goal.returns-in_err-line-clause-step
returns-in_err-line-clause-step g c = λ orders began w.
    let p = err_from_is_err_and c.from_residual.result c.from_residual.ensures.1 in
    let stop = c.in_err-line.field-0.0 in
    let e : c.from_residual.result ≡ Err stop = p.1 ∙ ap (λ (s : Stop). Err s) p.2 in
    let n = held (g.A.Sink.written c.line.new.answers) (g.A.Sink.faults c.line.new.answers) (g.F.Sink.written c.line.new.frames) (g.F.Sink.faults c.line.new.frames) in
    let ended = c.loop-line.invariant.done.0 in
    let line = c.in-Some.line in
    let all = reverse c.args.lines.items in
    subst (λ (x : Result (Unit {0}) Stop). LoadEnds (untold c.args.lines.items orders) x c.line.new.self began n) (sym e)
    (stopped_more (Untold line ∷ (map Untold ended ++ orders)) (untold c.args.lines.items orders) stop began n
    (some_ended all c.pop.new.self.items (line ∷ ended) orders (popped all c.loop-line.lines.items c.pop.new.self.items ended line c.loop-line.invariant.done.1 c.in-Some.ensures.items))
    (c.in_err-line.ensures.step (map Untold ended ++ orders) began (c.loop-line.invariant.done.2 orders began w)))

pub returns-clause-step : goal.returns-clause-step
returns-clause-step g c = λ orders began w.
    let n = held (g.A.Sink.written c.loop-line.answers) (g.A.Sink.faults c.loop-line.answers) (g.F.Sink.written c.loop-line.frames) (g.F.Sink.faults c.loop-line.frames) in
    subst (λ (os : List Order). LoadAt os c.loop-line.self began n) (all_popped (reverse c.args.lines.items) c.loop-line.lines.items c.loop-line.invariant.done.0 orders c.loop-line.invariant.done.1 (omega (arith, c.in_default.ensures.cases.0)))
    (c.loop-line.invariant.done.2 orders began w)
