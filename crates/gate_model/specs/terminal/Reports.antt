-- What a screen reports to the Telnet host (ECMA-48, DSR and CPR, DA).
use Rattle.std.specs.Prelude.{ℕ, ◌+◌, List, [], ◌∷◌, ◌++◌, ◌&&◌, ◌==◌, if◌then◌else◌, decimal, codes}
use Rattle.gate_model.specs.declared.control.Control.{Control}
use Rattle.gate_model.specs.declared.control.Control.TheVariants.{Print, Code, Esc, Csi}
use Rattle.gate_model.specs.declared.control.Params.{Params}
use Rattle.gate_model.specs.terminal.Arguments.{first_choice}
use Rattle.gate_model.specs.terminal.Terminal.{Terminal}

-- CPR: ESC `[`, the row, `;`, the column, `R`, both counted from 1
abbrev pub position_report : Terminal → List ℕ
position_report t = 0x1B ∷ 0x5B ∷ decimal (t.y + 1) ++ 0x3B ∷ decimal (t.x + 1) ++ 0x52 ∷ []

-- DA: a VT102
abbrev pub device_report : List ℕ
device_report = 0x1B ∷ codes "[?6c"

-- DSR 6 (CSI n) and DA 0 (CSI c)
abbrev pub sequence_report : Params → ℕ → Terminal → List ℕ
sequence_report params last t =
    if last == 0x6E && first_choice params == 6 then position_report t else (
    if last == 0x63 && first_choice params == 0 then device_report else [])

-- the report of a control function, or none
abbrev pub report : Control → Terminal → List ℕ
report (Print c) t = []
report (Code c) t = []
report (Esc last) t = []
report (Csi private params last) t = if private then [] else sequence_report params last t
