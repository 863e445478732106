-- What a client is written in the handshake (the Guacamole manual, "The Guacamole protocol").
use Rattle.std.specs.Prelude.{ℕ, List, [], ◌∷◌, codes}
use Rattle.std.specs.Str.{chars}
use Rattle.gate_model.specs.text.Text.{text, text_of_elements}
use Rattle.gate_model.specs.declared.instr.Instr.TheVariants.{Error}
use Rattle.guac_handshake.specs.declared.request.Selected.{Selected}
use Rattle.guac_handshake.specs.declared.request.Selected.TheVariants.{Telnet, Known}
use Rattle.guac_handshake.specs.declared.stop.Stop.{Stop}
use Rattle.guac_handshake.specs.declared.stop.Stop.TheVariants as stop
use Rattle.std.specs.Prelude.{Option, Some, None}

-- the parameters that `connect` is to have
abbrev pub args_text : Selected → List ℕ
args_text Telnet = codes "4.args,13.VERSION_1_1_0,8.hostname,4.port,13.terminal-type,9.read-only,7.sharing;"
args_text (Known id) = codes "4.args,13.VERSION_1_1_0,9.read-only;"

-- the same where nothing is known of what is selected
abbrev pub args_for : Option Selected → List ℕ
args_for None = []
args_for (Some selected) = args_text selected

abbrev pub ready_text : List ℕ → List ℕ
ready_text id = text_of_elements (codes "ready" ∷ chars id ∷ [])

abbrev pub error_text : ℕ → List ℕ
error_text status = text (Error status)

-- a write failed, or memory was wanting
abbrev pub IsWriteStop : Stop → Type 0
IsWriteStop (stop.Refused status) = ⊥
IsWriteStop stop.Ended = ⊥
IsWriteStop stop.ReadFault = ⊥
IsWriteStop stop.WriteFault = Unit {0}
IsWriteStop stop.NoMemory = Unit {0}
