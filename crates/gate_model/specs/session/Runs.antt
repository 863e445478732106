-- Lists of calls after a history: the answers, the entries that they add, and what joins and reads give
-- (this project's own).
use Rattle.std.specs.Prelude.{◌≡◌, List, [], ◌∷◌, ◌++◌, Ok}
use Rattle.gate_model.specs.declared.answer.Answer.{Answer}
use Rattle.gate_model.specs.declared.answer.Answer.TheVariants.{Join as joined_as}
use Rattle.gate_model.specs.declared.entry.Entry.{Entry}
use Rattle.gate_model.specs.declared.event.Event.{Event}
use Rattle.gate_model.specs.declared.event.Event.TheVariants.{Read as read}
use Rattle.gate_model.specs.declared.instr.Instr.{Instr}
use Rattle.gate_model.specs.session.Calls.{Step}
use Rattle.gate_model.specs.session.Delivered.{delivered, given}
use Rattle.gate_model.specs.session.History.{History}

-- what the entries that a call adds give the viewer that joins, or reads
abbrev pub handed_out : History → Event → Answer → List Entry → List Instr
handed_out h event answer [] = []
handed_out h (read viewer) answer (e ∷ es) = given h (delivered h viewer) viewer e
handed_out h event (joined_as (Ok joined)) (e ∷ es) = given h (delivered h joined.viewer) joined.viewer e
handed_out h event answer (e ∷ es) = []

-- calls one after the other: each is answered by its rule, and the entries that it adds, and what it hands
-- out, come after those before it
abbrev pub Runs : History → List Event → List Answer → History → List Instr → Type 0
Runs h [] [] g out = (g ≡ h) × (out ≡ [])
Runs h (event ∷ events) (answer ∷ answers) g out = (added : List Entry) × (rest : List Instr) × Step h event answer added × Runs (added ++ h) events answers g rest × (out ≡ handed_out h event answer added ++ rest)
Runs h events answers g out = ⊥
