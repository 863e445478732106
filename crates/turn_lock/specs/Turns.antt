-- What contracts say of a turn (this project's own).
use Rattle.std.specs.Borrow.{MutBor}
use Rattle.turn_lock.specs.Passes.{view_of}
use Rattle.turn_lock.specs.declared.lock.TurnLock.{TurnLock}
use Rattle.turn_lock.specs.declared.pass.Pass.{Pass}
use Rattle.turn_lock.specs.declared.turn.Turn.{Turn}
use Rattle.turn_lock.specs.declared.view.View.{View}

module _ {X E : Type 0} where
  -- the lock
  abbrev pub lock_in : Turn X E → TurnLock X E
  lock_in t = t.lock.now

  -- the pass, as the turn borrows it
  abbrev pub pass_in : Turn X E → MutBor (Pass X E)
  pass_in t = t.pass

  -- what the pass knows
  abbrev pub view_in : Turn X E → View E
  view_in t = view_of t.pass.now

  -- the value
  abbrev pub value_in : Turn X E → X
  value_in t = t.value
