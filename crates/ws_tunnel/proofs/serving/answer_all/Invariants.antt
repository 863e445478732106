use Rattle.std.proofs.Common.{◌≤◌}
use Rattle.shared_desk.specs.Members.{Stays}
use Rattle.ws_tunnel.specs.Links.{Exchanges}
use Rattle.ws_tunnel.specs.Runs.{SoFar}
use Rattle.ws_tunnel.proofs.serving.answer_all.Given as goal

abbrev pub invariant-loop : goal.invariant-loop
invariant-loop g l =
    let left = g.M.Messages.left in
    let sent = g.M.Messages.sent in
    record {
      stays : Stays l.fn.reader l.reader × Stays l.fn.writer l.writer;
      so_far : Exchanges (left l.fn.link) (left l.link) (sent l.fn.link) (sent l.link) (λ received texts. SoFar l.fn.reader.viewer l.fn.reader.view.seen l.reader.view l.writer.view l.first received texts);
      later : g.M.Messages.faults l.fn.link ≤ g.M.Messages.faults l.link;
    }
