use Rattle.std.proofs.Common.{sym, ◌∙◌}
use Rattle.user_serve.proofs.Heard.{option_end, option_other}
use Rattle.user_serve.proofs.hearing.take_up.Goals as goal

pub returns-then-is_end-clause-taken : goal.returns-then-is_end-clause-taken
returns-then-is_end-clause-taken g c = option_end _ c.args.act c.in-Some.act _ c.in-Some.is (sym c.is_end.ensures ∙ c.if-is_end.true)

pub returns-else-is_end-clause-taken : goal.returns-else-is_end-clause-taken
returns-else-is_end-clause-taken g c = option_other _ c.args.act c.in-Some.act _ _ _ c.in-Some.is (sym c.is_end.ensures ∙ c.if-is_end.false) c.write.ensures.wrote
