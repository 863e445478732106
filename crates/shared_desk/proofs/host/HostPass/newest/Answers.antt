use Rattle.std.proofs.Common.{ap}
use Rattle.gate_model.specs.declared.entry.Entry.{Entry}
use Rattle.turn_lock.specs.declared.view.View.{View}
use Rattle.shared_desk.proofs.Hosts.{keeps_seen}
use Rattle.shared_desk.proofs.host.HostPass.newest.Goals as goal

pub invariant_of-self : goal.invariant_of-self
invariant_of-self c = keeps_seen c.self.inside.member c.newest.new.self c.self.inside.spare c.self.inside.out c.self.invariant c.newest.ensures.session
    (ap (λ (v : View Entry). v.mark) c.newest.ensures.loads.view) (ap (λ (v : View Entry). v.given) c.newest.ensures.loads.view) (ap (λ (v : View Entry). v.seen) c.newest.ensures.loads.view)
