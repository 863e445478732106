use Rattle.std.proofs.Common.{◌≡◌, ◌≤◌, ℕ, List}
use Rattle.gate_outside.specs.Edge.{gained}
use Rattle.shared_desk.specs.Members.{Stays}
use Rattle.user_serve.specs.Outlets.{HasShown}
use Rattle.user_serve.proofs.showing.show_all.Given as goal

abbrev pub invariant-loop : goal.invariant-loop
invariant-loop g l =
    let written = g.K.Sink.written in
    record {
      stays : Stays l.fn.pass l.pass;
      so_far : (bytes : List ℕ) × (written l.sink ≡ gained (written l.fn.sink) bytes) × HasShown l.fn.pass.viewer l.fn.pass.view l.pass.view bytes;
      later : g.K.Sink.faults l.fn.sink ≤ g.K.Sink.faults l.sink;
    }
