-- Laws about recordings and captured streams (this project's own). Public functions of `laws` prove each law.
use Rattle.std.specs.Prelude.{◌≡◌, ℕ, List, [], ◌∷◌, ◌++◌}
use Rattle.gate_model.specs.declared.instr.Instr.TheVariants.{Sync}
use Rattle.gate_model.specs.picture.Layers.{ShowsPicture, draw, nothing, visible}
use Rattle.gate_model.specs.session.Delivered.{delivered}
use Rattle.gate_model.specs.session.History.{History, at, upto}
use Rattle.gate_model.specs.session.Steps.{Legal}
use Rattle.gate_model.specs.session.Truth.{Faithful}
use Rattle.gate_model.specs.terminal.Screens.{shown}
use Rattle.gate_model.specs.text.Text.{texts}
use Rattle.record_play.specs.Captured.{IsBadStream, IsCaptured}
use Rattle.record_play.specs.Recorded.{HasRead, IsFault, IsRecorded, Placed, instrs_of}

-- no bytes are a recording and have a fault
abbrev pub RecordedOrFault : Type 0
RecordedOrFault = (bytes : List ℕ) (placed : List Placed) (cut place : ℕ) → IsRecorded bytes placed cut → IsFault bytes place → ⊥

-- bytes are a recording in one way
abbrev pub RecordedOnce : Type 0
RecordedOnce = (bytes : List ℕ) (one other : List Placed) (cut left : ℕ) → IsRecorded bytes one cut → IsRecorded bytes other left → (one ≡ other) × (cut ≡ left)

-- the first fault of a recording stands at one place
abbrev pub FaultIsOne : Type 0
FaultIsOne = (bytes : List ℕ) (place other : ℕ) → IsFault bytes place → IsFault bytes other → place ≡ other

-- no bytes are a stream of a client and have a bad one
abbrev pub CapturedOrBad : Type 0
CapturedOrBad = (bytes : List ℕ) (instructions : List (List (List ℕ))) (place : ℕ) → IsCaptured bytes instructions → IsBadStream bytes place → ⊥

-- bytes are a stream of a client in one way
abbrev pub CapturedOnce : Type 0
CapturedOnce = (bytes : List ℕ) (one other : List (List (List ℕ))) → IsCaptured bytes one → IsCaptured bytes other → one ≡ other

-- the first bad byte of a stream stands at one place
abbrev pub BadIsOne : Type 0
BadIsOne = (bytes : List ℕ) (place other : ℕ) → IsBadStream bytes place → IsBadStream bytes other → place ≡ other

-- of the first bytes that the gateway sent to a viewer of a legal and true history, whole instructions up to a sync
-- draw, from nothing, the picture of the screen at that stamp
abbrev pub SyncsShowTheScreen : Type 0
SyncsShowTheScreen = (h : History) (viewer stamp end : ℕ) (bytes rest : List ℕ) (older : List Placed) → Legal h → Faithful h → texts (delivered h viewer) ≡ bytes ++ rest
    → HasRead bytes (record { instr = Sync stamp; end = end } ∷ older) → ShowsPicture (draw nothing (instrs_of older ++ Sync stamp ∷ []) visible) (shown (at (upto h stamp)))
