use Rattle.user_serve.proofs.Heard.{step_bad, step_more, step_whole}
use Rattle.user_serve.proofs.hearing.hear_next.Goals as goal

pub returns-in-Whole-clause-heard : goal.returns-in-Whole-clause-heard
returns-in-Whole-clause-heard g c = step_whole _ _ _ _ (g.S.Source.left c.args.source.now) c.args.rest.now.items _ c.args.at.now _ c.unread.ensures _ c.in-Whole.count _ c.in-Whole.ensures.whole c.read_client-act.ensures c.take_up.ensures.taken

pub returns-in-More-clause-heard : goal.returns-in-More-clause-heard
returns-in-More-clause-heard g c = step_more _ _ c.args.pass.now.view _ _ c.args.rest.now.items _ c.args.at.now _ c.unread.ensures _ _ c.read_more.ensures.at c.in-More.ensures.more c.read_more.ensures.read

pub returns-in-Bad-clause-heard : goal.returns-in-Bad-clause-heard
returns-in-Bad-clause-heard g c = step_bad _ _ _ c.args.rest.now.items _ c.args.at.now c.in-Bad.place c.unread.ensures record { place = c.in-Bad.ensures.bad; kind = c.in-Bad.ensures.kind; one_kind = c.in-Bad.ensures.one_kind }
