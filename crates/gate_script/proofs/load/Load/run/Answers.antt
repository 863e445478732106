use Rattle.std.proofs.Common.{◌≡◌, ◌∷◌, ap, refl, sym, ◌∙◌, subst}
use Rattle.std.specs.Prelude.{Result, Err}
use Rattle.std.proofs.lemmas.Result.{err_from_is_err_and}
use Rattle.script_load.specs.Words.{drawn}
use Rattle.script_load.specs.Rounds.{takes_done}
use Rattle.gate_script.specs.declared.stop.Stop.{Stop}
use Rattle.gate_script.specs.Loading.{LoadRunEnds, takes_behind}
use Rattle.gate_script.specs.Sinks.{held}
use Rattle.gate_script.proofs.LoadRun.{stopped_in_open, stopped_in_takes, stopped_in_turn, told_last}
use Rattle.gate_script.proofs.load.Load.run.Goals as goal

pub returns-in_err-open : goal.returns-in_err-open
returns-in_err-open g c =
    let p = err_from_is_err_and c.from_residual.result c.from_residual.ensures.1 in
    let stop = c.in_err-open.field-0.0 in
    let e : c.from_residual.result ≡ Err stop = p.1 ∙ ap (λ (s : Stop). Err s) p.2 in
    let b = held (g.A.Sink.written c.args.answers.now) (g.A.Sink.faults c.args.answers.now) (g.F.Sink.written c.args.frames.now) (g.F.Sink.faults c.args.frames.now) in
    let n = held (g.A.Sink.written c.open.new.answers) (g.A.Sink.faults c.open.new.answers) (g.F.Sink.written c.open.new.frames) (g.F.Sink.faults c.open.new.frames) in
    subst (λ (x : Result (Unit {0}) Stop). LoadRunEnds c.args.seed c.args.rounds x b n) (sym e) (stopped_in_open c.args.seed c.args.rounds b n stop (c.in_err-open.ensures.step b (c.requires.stands b)))

pub returns-in_err-rounds : goal.returns-in_err-rounds
returns-in_err-rounds g c =
    let p = err_from_is_err_and c.from_residual-in_err-rounds.result c.from_residual-in_err-rounds.ensures.1 in
    let stop = c.in_err-rounds.field-0.0 in
    let e : c.from_residual-in_err-rounds.result ≡ Err stop = p.1 ∙ ap (λ (s : Stop). Err s) p.2 in
    let b = held (g.A.Sink.written c.args.answers.now) (g.A.Sink.faults c.args.answers.now) (g.F.Sink.written c.args.frames.now) (g.F.Sink.faults c.args.frames.now) in
    let n = held (g.A.Sink.written c.rounds.new.answers) (g.A.Sink.faults c.rounds.new.answers) (g.F.Sink.written c.rounds.new.frames) (g.F.Sink.faults c.rounds.new.frames) in
    subst (λ (x : Result (Unit {0}) Stop). LoadRunEnds c.args.seed c.args.rounds x b n) (sym e)
    (stopped_in_turn c.args.seed c.args.rounds b n stop (c.in_err-rounds.ensures.step b (c.in_ok-open.ensures.step b (c.requires.stands b))))

pub returns-in_err-take_all : goal.returns-in_err-take_all
returns-in_err-take_all g c =
    let p = err_from_is_err_and c.from_residual-in_err-take_all.result c.from_residual-in_err-take_all.ensures.1 in
    let stop = c.in_err-take_all.field-0.0 in
    let e : c.from_residual-in_err-take_all.result ≡ Err stop = p.1 ∙ ap (λ (s : Stop). Err s) p.2 in
    let b = held (g.A.Sink.written c.args.answers.now) (g.A.Sink.faults c.args.answers.now) (g.F.Sink.written c.args.frames.now) (g.F.Sink.faults c.args.frames.now) in
    let n = held (g.A.Sink.written c.take_all.new.answers) (g.A.Sink.faults c.take_all.new.answers) (g.F.Sink.written c.take_all.new.frames) (g.F.Sink.faults c.take_all.new.frames) in
    let at_turn = c.in_ok-rounds.ensures.step b (c.in_ok-open.ensures.step b (c.requires.stands b)) in
    let t = c.in_err-take_all.ensures.step (takes_done (drawn c.args.seed) c.args.rounds 0) b at_turn in
    subst (λ (x : Result (Unit {0}) Stop). LoadRunEnds c.args.seed c.args.rounds x b n) (sym e) (stopped_in_takes c.args.seed c.args.rounds b n t.0 stop t.1)

pub returns : goal.returns
returns g c =
    let b = held (g.A.Sink.written c.args.answers.now) (g.A.Sink.faults c.args.answers.now) (g.F.Sink.written c.args.frames.now) (g.F.Sink.faults c.args.frames.now) in
    let m = held (g.A.Sink.written c.take_all.new.answers) (g.A.Sink.faults c.take_all.new.answers) (g.F.Sink.written c.take_all.new.frames) (g.F.Sink.faults c.take_all.new.frames) in
    let n = held (g.A.Sink.written c.tell.new.answers) (g.A.Sink.faults c.tell.new.answers) (g.F.Sink.written c.tell.new.frames) (g.F.Sink.faults c.tell.new.frames) in
    let at_turn = c.in_ok-rounds.ensures.step b (c.in_ok-open.ensures.step b (c.requires.stands b)) in
    let t = c.in_ok-take_all.ensures.step (takes_done (drawn c.args.seed) c.args.rounds 0) b at_turn in
    told_last c.args.seed c.args.rounds b n t.0 c.take_all.new.self m t.1 c.tell.result (c.tell.ensures (takes_behind (takes_done (drawn c.args.seed) c.args.rounds 0) t.0) b t.1.stands)
