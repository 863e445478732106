use Rattle.std.proofs.Common.{◌≡◌, ◌+◌, ◌≤◌, ◌∷◌, ℕ, List, ap, refl, sym, ◌∙◌, subst, arith}
use Rattle.std.specs.Prelude.{All, Result, Err}
use Rattle.std.proofs.lemmas.Result.{err_from_is_err_and}
use Rattle.script_grammar.specs.declared.order.Order.{Order}
use Rattle.script_load.specs.Words.{drawn}
use Rattle.script_load.specs.Rounds.{IsRoundLine, rounds_done, takes_done}
use Rattle.script_load.specs.Draws.{stand_of}
use Rattle.script_load.proofs.RoundLaws.{round_plain, turn_plain}
use Rattle.gate_script.specs.declared.stop.Stop.{Stop}
use Rattle.gate_script.specs.declared.stop.Stop.TheVariants.{NoMemory}
use Rattle.gate_script.specs.Loading.{LoadAt, LoadEnds, LoadStopped}
use Rattle.gate_script.specs.Sinks.{held}
use Rattle.gate_script.proofs.LoadRun.{no_memory_in_rounds, one_round, one_turn, stopped_in_rounds}
use Rattle.gate_script.proofs.load.Load.rounds.Goals as goal

pub loop-round-init : goal.loop-round-init
loop-round-init g c = record { opened = c.requires.open; is_drawn = c.new-drawn.ensures.drawn; seed = c.new-drawn.ensures.seed; round = c.new-drawn.ensures.round; within = omega arith; done = λ began w. w }

pub lines-requires-clause-rounds : goal.lines-requires-clause-rounds
lines-requires-clause-rounds g c = subst (All IsRoundLine) (sym c.in_ok-lines.ensures.lines) (round_plain (drawn c.loop-round.drawn.seed) (c.loop-round.drawn.round + 1) (stand_of c.loop-round.drawn))

pub lines-requires-2-clause-rounds : goal.lines-requires-2-clause-rounds
lines-requires-2-clause-rounds g c = subst (All IsRoundLine) (sym c.in_ok-turn.ensures) (turn_plain (stand_of c.loop-round.drawn).others)

pub returns-in_err-lines-clause-step : goal.returns-in_err-lines-clause-step
returns-in_err-lines-clause-step g c = λ began w.
    let p = err_from_is_err_and c.from_residual.result c.from_residual.ensures.1 in
    let e : c.from_residual.result ≡ Err NoMemory = p.1 ∙ ap (λ (s : Stop). Err s) p.2 in
    let n = held (g.A.Sink.written c.loop-round.answers) (g.A.Sink.faults c.loop-round.answers) (g.F.Sink.written c.loop-round.frames) (g.F.Sink.faults c.loop-round.frames) in
    subst (λ (x : Result (Unit {0}) Stop). LoadEnds (takes_done (drawn c.args.seed) c.args.rounds 0) x c.loop-round.self began n) (sym e)
    (no_memory_in_rounds c.args.seed c.args.rounds began n c.loop-round._round c.loop-round.invariant.within c.loop-round.self (c.loop-round.invariant.done began w))

pub returns-in_err-lines-2-clause-step : goal.returns-in_err-lines-2-clause-step
returns-in_err-lines-2-clause-step g c = λ began w.
    let p = err_from_is_err_and c.from_residual-in_err-lines-2.result c.from_residual-in_err-lines-2.ensures.1 in
    let stop = c.in_err-lines-2.field-0.0 in
    let e : c.from_residual-in_err-lines-2.result ≡ Err stop = p.1 ∙ ap (λ (s : Stop). Err s) p.2 in
    let k = c.loop-round._round in
    let n = held (g.A.Sink.written c.lines.new.answers) (g.A.Sink.faults c.lines.new.answers) (g.F.Sink.written c.lines.new.frames) (g.F.Sink.faults c.lines.new.frames) in
    let more = one_round c.args.seed k c.loop-round.drawn _ c.loop-round.invariant.seed c.loop-round.invariant.round c.in_ok-lines.ensures.lines in
    subst (λ (x : Result (Unit {0}) Stop). LoadEnds (takes_done (drawn c.args.seed) c.args.rounds 0) x c.lines.new.self began n) (sym e)
    (stopped_in_rounds c.args.seed c.args.rounds began n (k + 1) (omega (arith, c.loop-round-test.true)) stop
    (subst (λ (os : List Order). LoadStopped os stop began n) more (c.in_err-lines-2.ensures.step (rounds_done (drawn c.args.seed) k) began (c.loop-round.invariant.done began w))))

pub loop-round-preserved : goal.loop-round-preserved
loop-round-preserved g c = record {
  opened = c.in_ok-lines-2.ensures.open;
  is_drawn = c.in_ok-lines.ensures.drawn;
  seed = c.in_ok-lines.ensures.seed ∙ c.loop-round.invariant.seed;
  round = c.in_ok-lines.ensures.round ∙ ap (λ (k : ℕ). k + 1) c.loop-round.invariant.round;
  within = omega (arith, c.loop-round-test.true);
  done = λ began w.
      let k = c.loop-round._round in
      let n = held (g.A.Sink.written c.lines.new.answers) (g.A.Sink.faults c.lines.new.answers) (g.F.Sink.written c.lines.new.frames) (g.F.Sink.faults c.lines.new.frames) in
      let more = one_round c.args.seed k c.loop-round.drawn _ c.loop-round.invariant.seed c.loop-round.invariant.round c.in_ok-lines.ensures.lines in
      subst (λ (os : List Order). LoadAt os c.lines.new.self began n) more (c.in_ok-lines-2.ensures.step (rounds_done (drawn c.args.seed) k) began (c.loop-round.invariant.done began w));
}

pub returns-in_err-turn-clause-step : goal.returns-in_err-turn-clause-step
returns-in_err-turn-clause-step g c = λ began w.
    let p = err_from_is_err_and c.from_residual-in_err-turn.result c.from_residual-in_err-turn.ensures.1 in
    let e : c.from_residual-in_err-turn.result ≡ Err NoMemory = p.1 ∙ ap (λ (s : Stop). Err s) p.2 in
    let n = held (g.A.Sink.written c.loop-round.answers) (g.A.Sink.faults c.loop-round.answers) (g.F.Sink.written c.loop-round.frames) (g.F.Sink.faults c.loop-round.frames) in
    subst (λ (x : Result (Unit {0}) Stop). LoadEnds (takes_done (drawn c.args.seed) c.args.rounds 0) x c.loop-round.self began n) (sym e)
    (no_memory_in_rounds c.args.seed c.args.rounds began n c.loop-round._round c.loop-round.invariant.within c.loop-round.self (c.loop-round.invariant.done began w))

pub returns-clause-step : goal.returns-clause-step
returns-clause-step g c = λ began w.
    let k = c.loop-round._round in
    let n = held (g.A.Sink.written c.lines-2.new.answers) (g.A.Sink.faults c.lines-2.new.answers) (g.F.Sink.written c.lines-2.new.frames) (g.F.Sink.faults c.lines-2.new.frames) in
    let last : k ≡ c.args.rounds = omega (arith, c.loop-round-test.false, c.loop-round.invariant.within) in
    let all = one_turn c.args.seed c.args.rounds c.loop-round.drawn _ c.loop-round.invariant.seed (c.loop-round.invariant.round ∙ last) c.in_ok-turn.ensures in
    subst (λ (os : List Order). LoadEnds os c.lines-2.result c.lines-2.new.self began n) all
    (c.lines-2.ensures.step (rounds_done (drawn c.args.seed) c.args.rounds) began (subst (λ (j : ℕ). LoadAt (rounds_done (drawn c.args.seed) j) c.loop-round.self began (held (g.A.Sink.written c.loop-round.answers) (g.A.Sink.faults c.loop-round.answers) (g.F.Sink.written c.loop-round.frames) (g.F.Sink.faults c.loop-round.frames))) last (c.loop-round.invariant.done began w)))
