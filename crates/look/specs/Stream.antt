-- What is read of a stream of instructions (the Guacamole manual, "The Guacamole protocol"), and which of
-- its syncs is asked for (this project's own).
use Rattle.std.specs.Prelude.{◌≡◌, ℕ, ◌+◌, ◌≤◌, List, [], ◌∷◌, ◌++◌, length, drop, Bool, true, false, nat_le, Option, option_to_list}
use Rattle.std.specs.List.{filter_map}
use Rattle.gate_model.specs.declared.instr.Instr.{Instr}
use Rattle.gate_model.specs.text.ServerMeaning.{instr_of}
use Rattle.guac_framing.specs.Splits.{Splits}
use Rattle.record_play.specs.Stamps.{stamp_of}
use Rattle.look.specs.declared.until.Until.{Until}
use Rattle.look.specs.declared.until.Until.TheVariants.{Last, Frame, Stamp}

-- the bytes before the place are whole instructions, each the list of its elements, and those of them that the
-- gateway sends are these
pub record HasRead (text : List ℕ) (place : ℕ) (instrs : List Instr) : Type 0 where
  pub elements : List (List (List ℕ))
  pub within : place ≤ length text
  pub splits : Splits text elements (drop place text)
  pub meant : instrs ≡ filter_map instr_of elements

-- the stamps of the syncs, in order
abbrev pub stamps : List Instr → List ℕ
stamps instrs = filter_map stamp_of instrs

-- the sync of this number and stamp is among those up to the one that is asked for
abbrev pub is_asked : Until → ℕ → ℕ → Bool
is_asked Last number stamp = true
is_asked (Frame most) number stamp = nat_le number most
is_asked (Stamp most) number stamp = nat_le stamp most

-- none of these syncs is, where so many stand before them
abbrev pub AreUnasked : Until → ℕ → List ℕ → Type 0
AreUnasked until before [] = Unit {0}
AreUnasked until before (stamp ∷ stamps) = (is_asked until (before + 1) stamp ≡ false) × AreUnasked until (before + 1) stamps

-- one more instruction, or none, is read up to a further place
pub record GoesOn (text : List ℕ) (before : ℕ) (instr : Option Instr) (place : ℕ) : Type 0 where
  pub step : (instrs : List Instr) → HasRead text before instrs → HasRead text place (instrs ++ option_to_list instr)
