use Rattle.std.proofs.Common.{rules, [], ◌≡◌, ℕ, List, Bool, true, false, length, take, drop, refl, ap, sym, ◌∙◌, subst, arith, length-take}
use Rattle.std.proofs.lemmas.List.{take-append-drop}
use Rattle.gate_outside.proofs.Moved.{gained-none}
use Rattle.session_link.proofs.Sent.{TakesOne, one_taken, sent_end, sent_nothing, sent_one, sent_part}
use Rattle.session_link.proofs.sending.send_next.Goals as goal

pub returns-then-closed-clause-sent : goal.returns-then-closed-clause-sent
returns-then-closed-clause-sent g c =
    let t = c.take-taken in
    let kept : length t.new.into ≡ length c.args.piece.now = search rules in
    let many : length (take t.result.count t.new.into) ≡ t.result.count = omega (arith, length-take t.result.count t.new.into, kept, t.ensures.fills.within) in
    let k = one_taken _ _ (length c.args.piece.now) t.result t.new.into t.ensures.called t.ensures.takes.next t.ensures.takes.taken t.ensures.takes.sent many in
    let shut : t.result.closed ≡ true = c.if-closed.true in (
      [],
      sym (gained-none _),
      sent_end _ _ (length c.args.piece.now) (take t.result.count t.new.into) c.requires (omega (arith, many, c.if-count-eq0.true)) (subst (λ (b : Bool). TakesOne c.args.pass.now.view t.new.self.view (length c.args.piece.now) (take t.result.count t.new.into) b) shut k),
    )

pub returns-else-closed-clause-sent : goal.returns-else-closed-clause-sent
returns-else-closed-clause-sent g c =
    let t = c.take-taken in
    let kept : length t.new.into ≡ length c.args.piece.now = search rules in
    let many : length (take t.result.count t.new.into) ≡ t.result.count = omega (arith, length-take t.result.count t.new.into, kept, t.ensures.fills.within) in
    let k = one_taken _ _ (length c.args.piece.now) t.result t.new.into t.ensures.called t.ensures.takes.next t.ensures.takes.taken t.ensures.takes.sent many in
    ([], sym (gained-none _), sent_nothing _ _ _ _ _ (omega (arith, many, c.if-count-eq0.true)) k)

pub returns-in-Ok-clause-sent : goal.returns-in-Ok-clause-sent
returns-in-Ok-clause-sent g c =
    let t = c.take-taken in
    let kept : length t.new.into ≡ length c.args.piece.now = search rules in
    let many : length (take t.result.count t.new.into) ≡ t.result.count = omega (arith, length-take t.result.count t.new.into, kept, t.ensures.fills.within) in
    let k = one_taken _ _ (length c.args.piece.now) t.result t.new.into t.ensures.called t.ensures.takes.next t.ensures.takes.taken t.ensures.takes.sent many in
    (take t.result.count t.new.into, c.in-Ok.ensures.ok, sent_one _ _ _ _ _ k)

pub returns-in-Err-clause-sent : goal.returns-in-Err-clause-sent
returns-in-Err-clause-sent g c =
    let t = c.take-taken in
    let kept : length t.new.into ≡ length c.args.piece.now = search rules in
    let many : length (take t.result.count t.new.into) ≡ t.result.count = omega (arith, length-take t.result.count t.new.into, kept, t.ensures.fills.within) in
    let k = one_taken _ _ (length c.args.piece.now) t.result t.new.into t.ensures.called t.ensures.takes.next t.ensures.takes.taken t.ensures.takes.sent many in
    let bs = take t.result.count t.new.into in
    let part = c.in-Err.ensures.part in
    (take part.0 bs, part.2, sent_part _ _ _ bs (take part.0 bs) _ k (drop part.0 bs, sym (take-append-drop part.0 bs)))
