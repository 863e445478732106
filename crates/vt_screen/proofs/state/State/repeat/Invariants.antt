use Rattle.std.proofs.Common.{◌≡◌, ◌-◌}
use Rattle.gate_model.specs.terminal.Printing.{printed_often}
use Rattle.vt_screen.proofs.state.State.repeat.Given as goal

-- the turns that are left lead where all of them lead from the state before
abbrev pub invariant-loop : goal.invariant-loop
invariant-loop l = printed_often (l.count - l.counter) l.ch l.self ≡ printed_often l.count l.ch l.fn.self
