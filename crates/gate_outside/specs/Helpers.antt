-- What those who serve a session tell of themselves, and what each call does to it (this project's own).
use Rattle.std.specs.Prelude.{◌≡◌, ◌≤◌, ℕ, List, Option}
use Rattle.gate_outside.specs.Edge.{CountsFault}

-- how many dials and how many starts of a job have failed, and the draws that are to come, by their number from 0, where
-- the dice tell them. A count never falls, and stands still at 2^64 - 1
pub record HelperView : Type 0 where
  pub dial_faults : ℕ
  pub start_faults : ℕ
  pub draws : Option (ℕ → List ℕ)

-- a call that may tell of a dial that failed, and touches nothing else
pub record Dials (failed : Type 0) (before after : HelperView) : Type 0 where
  pub dials : CountsFault failed before.dial_faults after.dial_faults
  pub starts : after.start_faults ≡ before.start_faults
  pub draws : after.draws ≡ before.draws

-- the same of a job that wasn't started
pub record Starts (failed : Type 0) (before after : HelperView) : Type 0 where
  pub starts : CountsFault failed before.start_faults after.start_faults
  pub dials : after.dial_faults ≡ before.dial_faults
  pub draws : after.draws ≡ before.draws

-- a call that may tell of either; nothing is said of the draws
pub record CountsFaults (undialed unstarted : Type 0) (before after : HelperView) : Type 0 where
  pub dials : CountsFault undialed before.dial_faults after.dial_faults
  pub starts : CountsFault unstarted before.start_faults after.start_faults

-- no count rose; nothing is said of the draws
pub record KeepsCounts (before after : HelperView) : Type 0 where
  pub dials : after.dial_faults ≡ before.dial_faults
  pub starts : after.start_faults ≡ before.start_faults

-- no count fell
pub record NeverFell (before after : HelperView) : Type 0 where
  pub dials : before.dial_faults ≤ after.dial_faults
  pub starts : before.start_faults ≤ after.start_faults
