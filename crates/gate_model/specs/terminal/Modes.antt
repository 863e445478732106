-- Modes (ECMA-48, SM and RM with IRM; the private modes DECCKM, DECAWM and DECTCEM).
use Rattle.std.specs.Prelude.{ℕ, List, [], ◌∷◌, Bool, ◌||◌, ◌==◌, if◌then◌else◌}
use Rattle.std.specs.List.{list_any}
use Rattle.gate_model.specs.terminal.Terminal.{Modes}

-- a mode of this number is there
abbrev pub is_mode : Bool → ℕ → Bool
is_mode private n = if private then n == 1 || n == 7 || n == 25 else n == 4

-- the mode is set or reset; a number without a mode changes nothing
abbrev pub mode_set : Bool → Bool → ℕ → Modes → Modes
mode_set private on n modes =
    if private then (
    if n == 1 then record modes { cursor_keys = on } else (
    if n == 7 then record modes { wrap = on } else (
    if n == 25 then record modes { visible = on } else modes))) else (
    if n == 4 then record modes { insert = on } else modes)

-- each parameter in order
abbrev pub modes_set : Bool → Bool → List ℕ → Modes → Modes
modes_set private on [] modes = modes
modes_set private on (n ∷ ns) modes = modes_set private on ns (mode_set private on n modes)

-- at least one of the parameters names a mode
abbrev pub names_mode : Bool → List ℕ → Bool
names_mode private parameters = list_any (is_mode private) parameters
