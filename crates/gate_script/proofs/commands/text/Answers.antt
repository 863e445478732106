use Rattle.std.proofs.Common.{◌≡◌, ◌∙◌, subst, arith}
use Rattle.gate_outside.specs.Edge.{Rose}
use Rattle.script_grammar.specs.declared.text_form.TextForm.{TextForm}
use Rattle.gate_script.specs.Outcomes.{Outcome, Ran}
use Rattle.gate_script.specs.Sinks.{held}
use Rattle.gate_script.proofs.CommandLaws.{outcome_of, read_cause, write_cause, run_later, failed_in}
use Rattle.gate_script.proofs.commands.text.Goals as goal

pub returns-clause-outcome : goal.returns-clause-outcome
returns-clause-outcome g c =
    let left = g.S.Source.left c.run-ended.new.source in
    let b = held (g.A.Sink.written c.args.answers.now) (g.A.Sink.faults c.args.answers.now) (g.F.Sink.written c.args.frames.now) (g.F.Sink.faults c.args.frames.now) in
    let n = held (g.A.Sink.written c.run-ended.new.answers) (g.A.Sink.faults c.run-ended.new.answers) (g.F.Sink.written c.run-ended.new.frames) (g.F.Sink.faults c.run-ended.new.frames) in
    outcome_of c.args.form c.status.result (g.S.Source.left c.args.source.now) left b n (g.A.Sink.written c.status.new.answers) (Rose (g.S.Source.faults c.args.source.now) (g.S.Source.faults c.run-ended.new.source)) (Rose (g.A.Sink.faults c.run-ended.new.answers) (g.A.Sink.faults c.status.new.answers)) c.run-ended.result c.run-ended.ensures.ran c.status.ensures.ended

pub returns-clause-only : goal.returns-clause-only
returns-clause-only g c = (returns-clause-outcome g c).holds.only

pub returns-clause-read_fault : goal.returns-clause-read_fault
returns-clause-read_fault g c = λ is.
    let b = held (g.A.Sink.written c.args.answers.now) (g.A.Sink.faults c.args.answers.now) (g.F.Sink.written c.args.frames.now) (g.F.Sink.faults c.args.frames.now) in
    let n = held (g.A.Sink.written c.run-ended.new.answers) (g.A.Sink.faults c.run-ended.new.answers) (g.F.Sink.written c.run-ended.new.frames) (g.F.Sink.faults c.run-ended.new.frames) in
    let ran = c.run-ended.ensures.ran in
    read_cause c.args.form ran.bytes (g.S.Source.left c.run-ended.new.source) (Rose (g.S.Source.faults c.args.source.now) (g.S.Source.faults c.run-ended.new.source)) (Rose (g.A.Sink.faults c.run-ended.new.answers) (g.A.Sink.faults c.status.new.answers)) c.status.result (g.A.Sink.written c.status.new.answers) b n c.run-ended.result ran.holds c.status.ensures.ended is

pub returns-clause-write_fault : goal.returns-clause-write_fault
returns-clause-write_fault g c = λ is.
    let b = held (g.A.Sink.written c.args.answers.now) (g.A.Sink.faults c.args.answers.now) (g.F.Sink.written c.args.frames.now) (g.F.Sink.faults c.args.frames.now) in
    let n = held (g.A.Sink.written c.run-ended.new.answers) (g.A.Sink.faults c.run-ended.new.answers) (g.F.Sink.written c.run-ended.new.frames) (g.F.Sink.faults c.run-ended.new.frames) in
    let ran = c.run-ended.ensures.ran in
    let Source = Rose (g.S.Source.faults c.args.source.now) (g.S.Source.faults c.run-ended.new.source) in
    let Last = Rose (g.A.Sink.faults c.run-ended.new.answers) (g.A.Sink.faults c.status.new.answers) in
    failed_in (g.A.Sink.faults c.args.answers.now) (g.A.Sink.faults c.run-ended.new.answers) (g.A.Sink.faults c.status.new.answers) (g.F.Sink.faults c.args.frames.now) (g.F.Sink.faults c.run-ended.new.frames)
    (run_later c.args.form ran.bytes (g.S.Source.left c.run-ended.new.source) Source Last c.status.result (g.A.Sink.written c.status.new.answers) b n c.run-ended.result ran.holds).0 c.status.ensures.later
    (write_cause c.args.form ran.bytes (g.S.Source.left c.run-ended.new.source) Source Last c.status.result (g.A.Sink.written c.status.new.answers) b n c.run-ended.result ran.holds c.status.ensures.ended is)

pub returns-clause-later_answers : goal.returns-clause-later_answers
returns-clause-later_answers g c =
    let b = held (g.A.Sink.written c.args.answers.now) (g.A.Sink.faults c.args.answers.now) (g.F.Sink.written c.args.frames.now) (g.F.Sink.faults c.args.frames.now) in
    let n = held (g.A.Sink.written c.run-ended.new.answers) (g.A.Sink.faults c.run-ended.new.answers) (g.F.Sink.written c.run-ended.new.frames) (g.F.Sink.faults c.run-ended.new.frames) in
    let ran = c.run-ended.ensures.ran in
    let l = run_later c.args.form ran.bytes (g.S.Source.left c.run-ended.new.source) (Rose (g.S.Source.faults c.args.source.now) (g.S.Source.faults c.run-ended.new.source)) (Rose (g.A.Sink.faults c.run-ended.new.answers) (g.A.Sink.faults c.status.new.answers)) c.status.result (g.A.Sink.written c.status.new.answers) b n c.run-ended.result ran.holds in
    omega (arith, l.0, c.status.ensures.later)

pub returns-clause-later_frames : goal.returns-clause-later_frames
returns-clause-later_frames g c =
    let b = held (g.A.Sink.written c.args.answers.now) (g.A.Sink.faults c.args.answers.now) (g.F.Sink.written c.args.frames.now) (g.F.Sink.faults c.args.frames.now) in
    let n = held (g.A.Sink.written c.run-ended.new.answers) (g.A.Sink.faults c.run-ended.new.answers) (g.F.Sink.written c.run-ended.new.frames) (g.F.Sink.faults c.run-ended.new.frames) in
    let ran = c.run-ended.ensures.ran in
    (run_later c.args.form ran.bytes (g.S.Source.left c.run-ended.new.source) (Rose (g.S.Source.faults c.args.source.now) (g.S.Source.faults c.run-ended.new.source)) (Rose (g.A.Sink.faults c.run-ended.new.answers) (g.A.Sink.faults c.status.new.answers)) c.status.result (g.A.Sink.written c.status.new.answers) b n c.run-ended.result ran.holds).1
