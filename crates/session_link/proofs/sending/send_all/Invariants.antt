use Rattle.std.proofs.Common.{◌≡◌, ◌≤◌, ℕ, List}
use Rattle.gate_outside.specs.Edge.{gained}
use Rattle.session_link.specs.Senders.{HasSentAll}
use Rattle.session_link.proofs.sending.send_all.Given as goal

abbrev pub invariant-loop : goal.invariant-loop
invariant-loop g l =
    let written = g.K.Sink.written in
    record {
      session : l.pass.session ≡ l.fn.pass.session;
      so_far : (bytes : List ℕ) × (written l.sink ≡ gained (written l.fn.sink) bytes) × HasSentAll l.fn.pass.view l.pass.view bytes;
      later : g.K.Sink.faults l.fn.sink ≤ g.K.Sink.faults l.sink;
    }
