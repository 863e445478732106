use Rattle.std.proofs.Common.{rules, ◌≡◌, ◌+◌, Some, sym, subst}
use Rattle.std.specs.Prelude.{Option}
use Rattle.atomic_table.specs.Seated.{TableId}
use Rattle.shared_desk.specs.HostParts.{KeepsHost}
use Rattle.shared_desk.proofs.Hosts.{may_link, may_send, keeps_linked}
use Rattle.shared_desk.proofs.host.HostPass.link.Goals as goal

pub part-link-requires-clause-may : goal.part-link-requires-clause-may
part-link-requires-clause-may c =
    let was : c.self.inside.spare ≡ Some c.in_ok-first.field-0 = search rules in
    may_link c.self.inside.member c.in_ok-first.field-0 c.self.inside.out (subst (λ (s : Option TableId). KeepsHost c.self.inside.member s c.self.inside.out) was c.self.invariant)

pub part-sender-requires-clause-may : goal.part-sender-requires-clause-may
part-sender-requires-clause-may c =
    let was : c.self.inside.spare ≡ Some c.in_ok-first.field-0 = search rules in
    may_send c.self.inside.member c.part-link.new.self c.in_ok-first.field-0 c.self.inside.out (subst (λ (s : Option TableId). KeepsHost c.self.inside.member s c.self.inside.out) was c.self.invariant) c.part-link.ensures.giver

pub invariant_of-self-2 : goal.invariant_of-self-2
invariant_of-self-2 c =
    let was : c.self.inside.spare ≡ Some c.in_ok-first.field-0 = search rules in
    subst (λ (s : Option TableId). KeepsHost c.part-sender.new.self s (c.self.inside.out + 2)) (sym c.take.ensures.after)
    (keeps_linked c.self.inside.member c.part-link.new.self c.part-sender.new.self c.in_ok-first.field-0 c.self.inside.out (subst (λ (s : Option TableId). KeepsHost c.self.inside.member s c.self.inside.out) was c.self.invariant) c.part-link.ensures.giver c.part-sender.ensures.giver)
