use Rattle.std.proofs.Common.{arith, ◌≤◌, ◌+◌, ◌*◌, ◌∙◌, sym, ap, subst}
use Rattle.gate_model.specs.session.History.{joined}
use Rattle.shared_desk.specs.Hosts.{HostState, unlinked}
use Rattle.shared_desk.proofs.Hosts.{below_at, may_read, may_write, keeps_placed}
use Rattle.shared_desk.proofs.host.HostPass.place.Goals as goal

pub part-reader-requires-clause-may : goal.part-reader-requires-clause-may
part-reader-requires-clause-may c = may_read c.self.inside.member c.args.viewer _ (below_at c.self.inside.member _ c.args.viewer (ap (λ (s : HostState). s.view) c.self.view_is) c.requires.given) (omega (arith, c.from-mark.ensures))

pub part-writer-requires-clause-may : goal.part-writer-requires-clause-may
part-writer-requires-clause-may c =
    may_write c.self.inside.member c.part-reader.new.self c.args.viewer _ _ (below_at c.self.inside.member _ c.args.viewer (ap (λ (s : HostState). s.view) c.self.view_is) c.requires.given) c.part-reader.ensures.giver (omega (arith, c.from-mark.ensures)) (omega (arith, c.from-mark.ensures))

pub invariant_of-self : goal.invariant_of-self
invariant_of-self c =
    keeps_placed c.self.inside.member c.part-reader.new.self c.part-writer.new.self c.self.inside.spare c.self.inside.out c.args.viewer _ _ c.self.invariant (below_at c.self.inside.member _ c.args.viewer (ap (λ (s : HostState). s.view) c.self.view_is) c.requires.given)
    (c.requires.last ∙ sym (ap (λ (s : HostState). joined s.view.seen) c.self.view_is)) c.requires.first
    (subst (λ (s : HostState). s.out + unlinked s.linked ≤ 2 * c.args.viewer) (sym c.self.view_is) c.requires.few)
    (c.part-writer.ensures.session.0 ∙ c.part-reader.ensures.session.0) c.part-reader.ensures.giver c.part-writer.ensures.giver (omega (arith, c.from-mark.ensures)) (omega (arith, c.from-mark.ensures))
