use Rattle.std.proofs.Common.{◌≡◌, ◌≤◌, true}
use Rattle.std.specs.Option.{is_some}
use Rattle.script_load.specs.Words.{drawn}
use Rattle.script_load.specs.Rounds.{load_begins, rounds_done}
use Rattle.script_load.specs.Draws.{IsDrawn}
use Rattle.gate_script.specs.Sinks.{Sinks, held}
use Rattle.gate_script.specs.Loading.{LoadAt}
use Rattle.gate_script.proofs.load.Load.rounds.Given as goal

abbrev pub invariant-loop-round : goal.invariant-loop-round
invariant-loop-round g l = record {
  opened : is_some l.self.run.state.session ≡ true;
  is_drawn : IsDrawn l.drawn;
  seed : l.drawn.seed ≡ l.seed;
  round : l.drawn.round ≡ l._round;
  within : l._round ≤ l.rounds;
  done : (began : Sinks) → LoadAt load_begins l.fn.self began (held (g.A.Sink.written l.fn.answers) (g.A.Sink.faults l.fn.answers) (g.F.Sink.written l.fn.frames) (g.F.Sink.faults l.fn.frames))
      → LoadAt (rounds_done (drawn l.seed) l._round) l.self began (held (g.A.Sink.written l.answers) (g.A.Sink.faults l.answers) (g.F.Sink.written l.frames) (g.F.Sink.faults l.frames));
}
