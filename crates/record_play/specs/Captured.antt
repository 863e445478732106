-- What is read of a captured stream of a client (the Guacamole manual, "The Guacamole protocol"; the limit is this
-- project's own).
use Rattle.std.specs.Prelude.{◌≡◌, ◌⊎◌, ℕ, ◌+◌, ◌<◌, ◌≤◌, List, [], ◌++◌, length, drop, map}
use Rattle.gate_model.specs.text.ClientMeaning.{act_of}
use Rattle.guac_framing.specs.Found.{IsBadPlace, IsUnfinished}
use Rattle.guac_framing.specs.Splits.{Splits}
use Rattle.record_play.specs.KeyLog.{log}
use Rattle.record_play.specs.Recorded.{most_recorded}
use Rattle.record_play.specs.declared.fault.RecordFault.{RecordFault}
use Rattle.record_play.specs.declared.fault.RecordFault.TheVariants.{Bad, NoMemory}

-- these instructions, one after the other, with nothing but an unfinished one behind them
pub record IsCaptured (bytes : List ℕ) (instructions : List (List (List ℕ))) : Type 0 where
  pub few : length bytes ≤ most_recorded
  pub at : ℕ
  pub splits : Splits bytes instructions (drop at bytes)
  pub unfinished : (drop at bytes ≡ []) ⊎ IsUnfinished (drop at bytes)

-- the log of the keys among them was appended
abbrev pub IsLogged : List ℕ → List ℕ → List ℕ → Type 0
IsLogged bytes old new = (instructions : List (List (List ℕ))) × IsCaptured bytes instructions × (new ≡ old ++ log (map act_of instructions))

-- behind whole instructions, which end at a place, stands the first bad byte; or nothing before the limit is bad,
-- and a byte stands behind it
pub data IsBadBehind (bytes : List ℕ) (at place : ℕ) : Type 0 where
  Byte : (own : ℕ) → IsBadPlace (drop at bytes) own → place ≡ at + own → place < most_recorded → IsBadBehind bytes at place
  Long : most_recorded < length bytes → place ≡ most_recorded → (most_recorded ≤ at) ⊎ (IsUnfinished (drop at bytes) ⊎ ((own : ℕ) × IsBadPlace (drop at bytes) own × (most_recorded ≤ at + own))) → IsBadBehind bytes at place

pub record IsBadStream (bytes : List ℕ) (place : ℕ) : Type 0 where
  pub instructions : List (List (List ℕ))
  pub at : ℕ
  pub within : at ≤ length bytes
  pub splits : Splits bytes instructions (drop at bytes)
  pub bad : IsBadBehind bytes at place

-- the first bad byte, or want of memory
abbrev pub IsBadStreamOf : List ℕ → RecordFault → Type 0
IsBadStreamOf bytes (Bad place) = IsBadStream bytes place
IsBadStreamOf bytes NoMemory = Unit {0}
