use Rattle.std.proofs.Common.{◌≡◌, ◌∷◌, ℕ, List, Bool, ap, refl, sym, ◌∙◌, subst, arith}
use Rattle.std.specs.Prelude.{Result, Err}
use Rattle.std.specs.Option.{is_some}
use Rattle.std.proofs.lemmas.Result.{err_from_is_err_and}
use Rattle.script_grammar.specs.declared.order.Order.TheVariants.{Untold}
use Rattle.gate_script.specs.declared.kind.Kind.{Kind}
use Rattle.gate_script.specs.declared.load.Load.{Load}
use Rattle.gate_script.specs.declared.stop.Stop.{Stop}
use Rattle.gate_script.specs.declared.sight.Sight.TheVariants.{Played}
use Rattle.gate_script.specs.Loading.{LoadEnds, counted}
use Rattle.gate_script.specs.Sinks.{held}
use Rattle.gate_script.proofs.LoadLaws.{line_stops, load_goes_on, may_be_placed, no_memory_before, no_memory_behind}
use Rattle.gate_script.proofs.load.Load.line.Goals as goal

pub order-requires : goal.order-requires
order-requires g c = record { few = omega (arith, c.if-self-ge-MOST_ENTRIES.false); placed = may_be_placed (is_some c.args.self.now.run.state.session) c.args.line c.requires.follows; range = c.requires.range; sees = tt }

pub returns-then-self-ge-MOST_ENTRIES-clause-step : goal.returns-then-self-ge-MOST_ENTRIES-clause-step
returns-then-self-ge-MOST_ENTRIES-clause-step g c = λ orders began w.
    no_memory_before orders c.args.line c.args.self.now began (held (g.A.Sink.written c.args.answers.now) (g.A.Sink.faults c.args.answers.now) (g.F.Sink.written c.args.frames.now) (g.F.Sink.faults c.args.frames.now)) w

pub returns-in_err-order-clause-step : goal.returns-in_err-order-clause-step
returns-in_err-order-clause-step g c = λ orders began w.
    let p = err_from_is_err_and c.from_residual.result c.from_residual.ensures.1 in
    let stop = c.in_err-order.field-0.0 in
    let e : c.from_residual.result ≡ Err stop = p.1 ∙ ap (λ (s : Stop). Err s) p.2 in
    let b = held (g.A.Sink.written c.args.answers.now) (g.A.Sink.faults c.args.answers.now) (g.F.Sink.written c.args.frames.now) (g.F.Sink.faults c.args.frames.now) in
    let n = held (g.A.Sink.written c.order.new.answers) (g.A.Sink.faults c.order.new.answers) (g.F.Sink.written c.order.new.frames) (g.F.Sink.faults c.order.new.frames) in
    let l : Load = record { run = c.order.new.self; totals = c.args.self.now.totals } in
    subst (λ (x : Result (Unit {0}) Stop). LoadEnds (Untold c.args.line ∷ orders) x l began n) (sym e)
    (line_stops orders c.args.line c.args.self.now began b n w c.requires.follows (omega (arith, c.if-self-ge-MOST_ENTRIES.false)) stop (c.in_err-order.ensures.step orders began w.at))

pub returns-in-Some-clause-step : goal.returns-in-Some-clause-step
returns-in-Some-clause-step g c = λ orders began w.
    let b = held (g.A.Sink.written c.args.answers.now) (g.A.Sink.faults c.args.answers.now) (g.F.Sink.written c.args.frames.now) (g.F.Sink.faults c.args.frames.now) in
    let n = held (g.A.Sink.written c.order.new.answers) (g.A.Sink.faults c.order.new.answers) (g.F.Sink.written c.order.new.frames) (g.F.Sink.faults c.order.new.frames) in
    let go = c.in_ok-order.ensures.goes_on orders began w.at in
    load_goes_on orders c.args.line c.args.self.now began b n w c.requires.follows (record { run = c.order.new.self; totals = c.in-Some.totals }) go c.level-before.result c.level-after.result
    (c.level-before.ensures Played w.at.play w.at.stands) (c.level-after.ensures Played go.next.play go.next.stands)
    (c.in-Some.ensures ∙ ap (λ (k : Kind). counted c.args.self.now.totals k c.level-before.result c.level-after.result) c.kind_of-kind.ensures)

pub returns-in-None-clause-step : goal.returns-in-None-clause-step
returns-in-None-clause-step g c = λ orders began w.
    let n = held (g.A.Sink.written c.order.new.answers) (g.A.Sink.faults c.order.new.answers) (g.F.Sink.written c.order.new.frames) (g.F.Sink.faults c.order.new.frames) in
    no_memory_behind (Untold c.args.line ∷ orders) c.order.new.self began n (c.in_ok-order.ensures.goes_on orders began w.at).next
