use Rattle.std.proofs.Common.{inl, arith}
use Rattle.gate_outside.specs.Edge.{Rose}
use Rattle.gate_script.specs.Sinks.{held}
use Rattle.gate_script.proofs.CommandLaws.{failed_in}
use Rattle.gate_script.proofs.LoadEndings.{load_failed, load_later, load_outcome}
use Rattle.gate_script.proofs.commands.load.Goals as goal

pub returns-clause-outcome : goal.returns-clause-outcome
returns-clause-outcome g c =
    let b = held (g.A.Sink.written c.args.answers.now) (g.A.Sink.faults c.args.answers.now) (g.F.Sink.written c.args.frames.now) (g.F.Sink.faults c.args.frames.now) in
    let n = held (g.A.Sink.written c.run-loaded.new.answers) (g.A.Sink.faults c.run-loaded.new.answers) (g.F.Sink.written c.run-loaded.new.frames) (g.F.Sink.faults c.run-loaded.new.frames) in
    load_outcome c.args.seed c.args.rounds c.status.result b n (g.A.Sink.written c.status.new.answers) (Rose (g.A.Sink.faults c.run-loaded.new.answers) (g.A.Sink.faults c.status.new.answers)) c.run-loaded.result c.run-loaded.ensures c.status.ensures.ended

pub returns-clause-only : goal.returns-clause-only
returns-clause-only g c = (returns-clause-outcome g c).holds.only

pub returns-clause-write_fault : goal.returns-clause-write_fault
returns-clause-write_fault g c = λ is.
    let b = held (g.A.Sink.written c.args.answers.now) (g.A.Sink.faults c.args.answers.now) (g.F.Sink.written c.args.frames.now) (g.F.Sink.faults c.args.frames.now) in
    let n = held (g.A.Sink.written c.run-loaded.new.answers) (g.A.Sink.faults c.run-loaded.new.answers) (g.F.Sink.written c.run-loaded.new.frames) (g.F.Sink.faults c.run-loaded.new.frames) in
    failed_in (g.A.Sink.faults c.args.answers.now) (g.A.Sink.faults c.run-loaded.new.answers) (g.A.Sink.faults c.status.new.answers) (g.F.Sink.faults c.args.frames.now) (g.F.Sink.faults c.run-loaded.new.frames)
    (load_later c.args.seed c.args.rounds c.status.result b n (g.A.Sink.written c.status.new.answers) c.run-loaded.result c.run-loaded.ensures).0 c.status.ensures.later
    (inl (load_failed c.args.seed c.args.rounds c.status.result b n (g.A.Sink.written c.status.new.answers) (Rose (g.A.Sink.faults c.run-loaded.new.answers) (g.A.Sink.faults c.status.new.answers)) c.run-loaded.result c.run-loaded.ensures c.status.ensures.ended is))

pub returns-clause-later_answers : goal.returns-clause-later_answers
returns-clause-later_answers g c =
    let b = held (g.A.Sink.written c.args.answers.now) (g.A.Sink.faults c.args.answers.now) (g.F.Sink.written c.args.frames.now) (g.F.Sink.faults c.args.frames.now) in
    let n = held (g.A.Sink.written c.run-loaded.new.answers) (g.A.Sink.faults c.run-loaded.new.answers) (g.F.Sink.written c.run-loaded.new.frames) (g.F.Sink.faults c.run-loaded.new.frames) in
    let l = load_later c.args.seed c.args.rounds c.status.result b n (g.A.Sink.written c.status.new.answers) c.run-loaded.result c.run-loaded.ensures in
    omega (arith, l.0, c.status.ensures.later)

pub returns-clause-later_frames : goal.returns-clause-later_frames
returns-clause-later_frames g c =
    let b = held (g.A.Sink.written c.args.answers.now) (g.A.Sink.faults c.args.answers.now) (g.F.Sink.written c.args.frames.now) (g.F.Sink.faults c.args.frames.now) in
    let n = held (g.A.Sink.written c.run-loaded.new.answers) (g.A.Sink.faults c.run-loaded.new.answers) (g.F.Sink.written c.run-loaded.new.frames) (g.F.Sink.faults c.run-loaded.new.frames) in
    (load_later c.args.seed c.args.rounds c.status.result b n (g.A.Sink.written c.status.new.answers) c.run-loaded.result c.run-loaded.ensures).1
