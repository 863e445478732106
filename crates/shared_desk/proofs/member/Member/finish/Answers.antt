use Rattle.std.proofs.Common.{◌≤◌, List, length, subst, sym}
use Rattle.gate_model.specs.Sequences.{IsLater}
use Rattle.gate_model.specs.declared.entry.Entry.{Entry}
use Rattle.desk_core.specs.Desk.{Stands}
use Rattle.shared_desk.specs.Members.{PassState}
use Rattle.shared_desk.proofs.member.Member.finish.Goals as goal

pub returns : goal.returns
returns g c =
    let f = c.finish.ensures in
    subst (λ (s : PassState). (h : List Entry) × Stands c.into_desk.result h × IsLater s.view.seen h × (s.view.known ≤ length h)) c.self.view_is (f.0, subst (λ d. Stands d f.0) (sym c.into_desk.ensures) f.1.0, f.2, f.3)
