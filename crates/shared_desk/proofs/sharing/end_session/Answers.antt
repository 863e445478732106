use Rattle.std.proofs.Common.{◌≤◌, List, length, subst}
use Rattle.gate_model.specs.Sequences.{IsLater}
use Rattle.gate_model.specs.declared.entry.Entry.{Entry}
use Rattle.desk_core.specs.Desk.{Stands}
use Rattle.shared_desk.specs.Hosts.{HostState}
use Rattle.shared_desk.proofs.sharing.end_session.Goals as goal

pub returns-clause-desk : goal.returns-clause-desk
returns-clause-desk g c = subst (λ (s : HostState). (h : List Entry) × Stands c.finish.result h × IsLater s.view.seen h × (s.view.known ≤ length h)) c.host.view_is c.finish.ensures
