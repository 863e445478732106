use Rattle.std.proofs.Common.{length, ◌-◌}
use Rattle.record_play.proofs.Captures.{HasLogged}
use Rattle.record_play.proofs.logging.read_log.Given as goal

abbrev pub invariant-loop-at : goal.invariant-loop-at
invariant-loop-at l = HasLogged l.bytes l.at l.log.text.items l.log.mods

abbrev pub decreases-loop-at : goal.decreases-loop-at
decreases-loop-at l = length l.bytes - l.at
