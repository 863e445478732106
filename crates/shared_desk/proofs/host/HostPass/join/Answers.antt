use Rattle.std.proofs.Common.{rules, ◌≡◌, ap, sym, subst, refl}
use Rattle.std.specs.Prelude.{Err, Result}
use Rattle.gate_model.specs.declared.join_refusal.JoinRefusal.{JoinRefusal}
use Rattle.shared_desk.specs.declared.place.Place.{Place}
use Rattle.shared_desk.specs.HostParts.{host_state}
use Rattle.shared_desk.specs.Hosts.{HostState, JoinEnds}
use Rattle.shared_desk.proofs.Hosts.{keeps_turn, below_joined, room_joined, join_leaves, join_refused, has_joined}
use Rattle.shared_desk.proofs.host.HostPass.join.Goals as goal

-- no memory for its passes
pub returns-in_default-clause-step : goal.returns-in_default-clause-step
returns-in_default-clause-step g c = c.refuse.ensures.step c.args.into.now.items

pub invariant_of-self : goal.invariant_of-self
invariant_of-self g c = keeps_turn _ _ _ _ _ c.self.invariant c.join.ensures.session c.join.ensures.called

pub invariant_of-self-2 : goal.invariant_of-self-2
invariant_of-self-2 g c = keeps_turn _ _ _ _ _ c.self.invariant c.join.ensures.session c.join.ensures.called

pub returns-in_err-joined-clause-step : goal.returns-in_err-joined-clause-step
returns-in_err-joined-clause-step g c =
    let is : c.from_residual.result ≡ Err c.in_err-joined.field-0.0 = search rules in
    subst (λ (r : Result Place JoinRefusal). JoinEnds c.args.self.now.view c.args.asked r c.join.new.self.view c.args.into.now.items c.join.new.into.items) (sym is)
    (join_refused _ _ _ c.args.asked c.in_err-joined.field-0.0 _ _ (ap (λ (s : HostState). s.view) c.self.view_is) c.in_err-joined.ensures.called)

pub place-requires-clause-last : goal.place-requires-clause-last
place-requires-clause-last g c = sym (join_leaves c.self.inside.member.view c.join.new.self.view c.args.asked c.in_ok-joined.joined _ _ c.in_ok-joined.ensures.called).now

pub place-requires-clause-given : goal.place-requires-clause-given
place-requires-clause-given g c = below_joined c.self.inside.member c.join.new.self c.self.inside.spare c.self.inside.out c.args.asked c.in_ok-joined.joined _ _ c.self.invariant c.in_ok-joined.ensures.called

pub place-requires-clause-few : goal.place-requires-clause-few
place-requires-clause-few g c = room_joined c.self.inside.member c.join.new.self c.self.inside.spare c.self.inside.out c.args.asked c.in_ok-joined.joined _ _ c.self.invariant c.in_ok-joined.ensures.called

pub returns-clause-step : goal.returns-clause-step
returns-clause-step g c = has_joined _ _ c.join.new.self.view c.args.asked c.in_ok-joined.joined (host_state c.join.new.self c.self.inside.spare c.self.inside.out) c.place.new.self c.place.result _ _ (ap (λ (s : HostState). s.view) c.self.view_is) c.in_ok-joined.ensures.called refl c.place.ensures.place c.place.ensures.view
