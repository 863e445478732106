use Rattle.std.proofs.Common.{◌≡◌, ◌∙◌, ap, inl, subst, sym}
use Rattle.std.specs.Prelude.{Err}
use Rattle.std.proofs.lemmas.Result.{err_from_is_err_and}
use Rattle.std.specs.Option.{is_some}
use Rattle.script_grammar.specs.declared.line.Line.{Line}
use Rattle.script_grammar.specs.declared.line.Line.TheVariants.{Start}
use Rattle.script_grammar.specs.Grammar.{in_place}
use Rattle.gate_script.specs.declared.halt.Halt.{Halt}
use Rattle.gate_script.specs.Calls.{Halts}
use Rattle.gate_script.specs.Plays.{Play}
use Rattle.gate_script.proofs.RunLaws.{has_started, moment_set, not_yet, nothing_told, once}
use Rattle.gate_script.proofs.state.State.line.Goals as goal

pub returns-in-Blank-clause-step : goal.returns-in-Blank-clause-step
returns-in-Blank-clause-step c = λ p at. rw c.in-Blank.is (nothing_told c.args.sight p c.args.self.now.moment c.args.self.now.session c.args.self.now.reply at)

pub returns-in-Bad-clause-step : goal.returns-in-Bad-clause-step
returns-in-Bad-clause-step c = λ p at. inl c.in-Bad.is

pub returns-in-At-clause-step : goal.returns-in-At-clause-step
returns-in-At-clause-step c = λ p at. rw c.in-At.is (moment_set c.args.sight c.in-At.now c.args.self.now.moment p c.args.self.now.session c.say.result c.args.self.now.reply c.say.new.self at c.say.ensures)

pub returns-in_ok-session-in-Start-clause-step : goal.returns-in_ok-session-in-Start-clause-step
returns-in_ok-session-in-Start-clause-step c = λ p at.
    let start : Line = Start c.in-Start.size c.in-Start.mode c.in-Start.entries in
    let placed = subst (λ (l : Line). in_place (is_some c.args.self.now.session) l ≡ l) c.in-Start.is c.requires.placed in
    let none = once (is_some c.args.self.now.session) c.in-Start.size c.in-Start.mode c.in-Start.entries placed in
    rw c.in-Start.is (has_started c.args.sight start p c.args.self.now.moment c.in_ok-session-in-Start.session c.args.self.now.reply c.start.new.reply (not_yet c.args.sight p c.args.self.now.moment c.args.self.now.session none at) (c.in_ok-session-in-Start.ensures.step c.args.sight))

pub returns-in_err-session-in-Start-clause-step : goal.returns-in_err-session-in-Start-clause-step
returns-in_err-session-in-Start-clause-step c = λ p at.
    let q = err_from_is_err_and c.from_residual.result c.from_residual.ensures.1 in
    let halt = c.in_err-session-in-Start.field-0.0 in
    let e : c.from_residual.result ≡ Err halt = q.1 ∙ ap (λ (s : Halt). Err s) q.2 in
    let start : Line = Start c.in-Start.size c.in-Start.mode c.in-Start.entries in
    let placed = subst (λ (l : Line). in_place (is_some c.args.self.now.session) l ≡ l) c.in-Start.is c.requires.placed in
    let none = once (is_some c.args.self.now.session) c.in-Start.size c.in-Start.mode c.in-Start.entries placed in
    let fresh = not_yet c.args.sight p c.args.self.now.moment c.args.self.now.session none at in
    rw (c.in-Start.is, e) (subst (λ (r : Play). Halts start r halt) (sym fresh) (c.in_err-session-in-Start.ensures.step c.args.sight))
