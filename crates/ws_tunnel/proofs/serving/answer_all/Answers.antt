use Rattle.std.proofs.Common.{◌≡◌, ◌++◌, ◌∙◌, [], ap, sym, subst, arith, List, Option, ℕ, false}
use Rattle.gate_model.specs.session.Delivered.{ended}
use Rattle.ws_tunnel.specs.Links.{came_messages, sent_messages}
use Rattle.ws_tunnel.proofs.Going.{far_last, far_next, far_none}
use Rattle.ws_tunnel.proofs.Meeting.{still_one, stayed, stays_on}
use Rattle.ws_tunnel.proofs.Openings.{came_none, came_twice, sent_none, sent_twice}
use Rattle.ws_tunnel.proofs.serving.answer_all.Goals as goal

pub loop-init : goal.loop-init
loop-init g c = record { stays = (stayed _, stayed _); so_far = ([], [], sym (came_none _), sym (sent_none _), far_none _ _ _ _ c.requires.start); later = omega arith }

pub answer_next-requires : goal.answer_next-requires
answer_next-requires g c =
    let i = c.loop.invariant in
    record { one = still_one _ _ _ _ c.requires.one i.stays.0 i.stays.1; going = subst (λ (n : ℕ). ended c.loop.reader.view.seen n ≡ false) (sym i.stays.0.viewer) i.so_far.4.going }

pub loop-preserved : goal.loop-preserved
loop-preserved g c =
    let i = c.loop.invariant in
    let p = i.so_far in
    let n = c.answer_next.ensures in
    let s = c.in-Ok.ensures.ran in
    record {
      stays = (stays_on _ _ _ i.stays.0 n.stays.0, stays_on _ _ _ i.stays.1 n.stays.1);
      so_far = (
        p.0 ++ s.0,
        p.1 ++ s.1,
        p.2 ∙ (ap (λ (o : Option (List (List ℕ))). came_messages p.0 o) s.2 ∙ came_twice p.0 s.0 _),
        s.3 ∙ (ap (λ (o : Option (List (List ℕ))). sent_messages o s.1) p.3 ∙ sent_twice _ p.1 s.1),
        far_next _ _ _ _ _ _ _ p.4 _ _ _ (g.M.Messages.left c.answer_next.new.link) _ _ _ i.stays.0.viewer s.4,
      );
      later = omega (arith, i.later, n.faults.1);
    }

pub returns-in-Err-clause-ran : goal.returns-in-Err-clause-ran
returns-in-Err-clause-ran g c =
    let i = c.loop.invariant in
    let p = i.so_far in
    let s = c.in-Err.ensures.ran in (
      p.0 ++ s.0,
      p.1 ++ s.1,
      p.2 ∙ (ap (λ (o : Option (List (List ℕ))). came_messages p.0 o) s.2 ∙ came_twice p.0 s.0 _),
      s.3 ∙ (ap (λ (o : Option (List (List ℕ))). sent_messages o s.1) p.3 ∙ sent_twice _ p.1 s.1),
      far_last _ _ _ _ _ _ _ p.4 _ _ _ _ _ _ c.in-Err.end i.stays.0.viewer s.4,
    )
