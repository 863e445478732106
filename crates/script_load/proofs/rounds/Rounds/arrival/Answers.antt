use Rattle.std.proofs.Common.{◌≡◌, ◌<◌, ◌≤◌, ap, sym, ◌∙◌, arith, length}
use Rattle.script_load.specs.Rounds.{Stand}
use Rattle.script_load.proofs.RoundLaws.{came_in, came_out}
use Rattle.script_load.proofs.rounds.Rounds.arrival.Goals as goal

pub returns-in_ok-push-clause-others : goal.returns-in_ok-push-clause-others
returns-in_ok-push-clause-others c = c.in_ok-push.ensures.items ∙ sym (ap (λ (s : Stand). s.others) (came_in (record { drawn = 0; others = c.args.self.now.others.items; joined = c.args.self.now.joined }) (omega (arith, c.if-len-lt-MOST_OTHERS.true, c.len.ensures))))

pub returns-in_ok-push-clause-joined : goal.returns-in_ok-push-clause-joined
returns-in_ok-push-clause-joined c = sym (ap (λ (s : Stand). s.joined) (came_in (record { drawn = 0; others = c.args.self.now.others.items; joined = c.args.self.now.joined }) (omega (arith, c.if-len-lt-MOST_OTHERS.true, c.len.ensures))))

pub returns-else-len-lt-MOST_OTHERS-clause-others : goal.returns-else-len-lt-MOST_OTHERS-clause-others
returns-else-len-lt-MOST_OTHERS-clause-others c = c.remove.ensures.items ∙ sym (ap (λ (s : Stand). s.others) (came_out (record { drawn = 0; others = c.args.self.now.others.items; joined = c.args.self.now.joined }) (omega (arith, c.if-len-lt-MOST_OTHERS.false, c.len.ensures))))

pub returns-else-len-lt-MOST_OTHERS-clause-joined : goal.returns-else-len-lt-MOST_OTHERS-clause-joined
returns-else-len-lt-MOST_OTHERS-clause-joined c = sym (ap (λ (s : Stand). s.joined) (came_out (record { drawn = 0; others = c.args.self.now.others.items; joined = c.args.self.now.joined }) (omega (arith, c.if-len-lt-MOST_OTHERS.false, c.len.ensures))))
