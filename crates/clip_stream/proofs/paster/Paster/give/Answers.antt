use Rattle.std.proofs.Common.{take, sym, ◌∙◌, arith}
use Rattle.clip_stream.proofs.Steps.{none_waits, rest-gives}
use Rattle.clip_stream.specs.Sources.{counted}
use Rattle.clip_stream.proofs.paster.Paster.give.Goals as goal

pub returns-clause-gave : goal.returns-clause-gave
returns-clause-gave c more =
    let s = c.args.self.now in
    rest-gives s.is_raw s.clip.clip s.kept c.saturating_sub-self.result c.give-n.result c.most-most.result s.held c.give-n.new.self (take c.give-n.result c.give-n.new.into) (counted s.is_ended more) s.clip.waiting
    (none_waits s.clip.waiting (sym c.waits.ensures ∙ c.if-waits.false)) (omega (arith, c.give-n.ensures.count)) c.most-most.ensures.within c.most-most.ensures.kept c.saturating_sub-self.ensures c.give-n.ensures.left c.give-n.ensures.given
