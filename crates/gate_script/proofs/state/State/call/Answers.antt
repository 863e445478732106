use Rattle.std.proofs.Common.{sym, subst}
use Rattle.std.specs.Prelude.{Option, Some, OnOk}
use Rattle.gate_script.specs.declared.session.Session.{Session}
use Rattle.gate_script.specs.Running.{LeavesOpen, StandsAt}
use Rattle.gate_script.proofs.RunLaws.{called, leaves_open}
use Rattle.gate_script.proofs.state.State.call.Goals as goal

pub returns-clause-step : goal.returns-clause-step
returns-clause-step c = λ p at.
    called c.args.sight c.args.line p c.args.self.now.moment c.in-Some.session c.call.new.self c.call.result c.args.self.now.reply c.call.new.reply (subst (λ (o : Option Session). StandsAt c.args.sight p c.args.self.now.moment o) c.in-Some.is at) c.call.ensures.step

pub returns-clause-open : goal.returns-clause-open
returns-clause-open c = subst (λ (o : Option Session). OnOk c.call.result (LeavesOpen c.args.line o (Some c.call.new.self))) (sym c.in-Some.is) (leaves_open c.args.line c.in-Some.session c.call.new.self c.call.result c.requires.call c.call.ensures.open)
