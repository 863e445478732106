use Rattle.std.proofs.Common.{◌≡◌, ◌≤◌, ◌-◌, length, map, take}
use Rattle.gate_model.specs.terminal.Screens.{after_controls}
use Rattle.gate_model.specs.declared.control.Control.TheVariants.{Print}
use Rattle.vt_screen.proofs.screen.Screen.print_run.Given as goal

-- the bytes before the place are printed
abbrev pub invariant-loop-at : goal.invariant-loop-at
invariant-loop-at l = record { within : l.at ≤ length l.text; printed : l.self ≡ after_controls l.fn.self (map Print (take l.at l.text)) }

abbrev pub decreases-loop-at : goal.decreases-loop-at
decreases-loop-at l = length l.text - l.at
