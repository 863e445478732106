-- What changes of size tell, worked out.
use Rattle.std.specs.Prelude.{◌≡◌, ℕ, List, [], ◌∷◌, codes, Option, Some, None, Result, Ok, Err, refl}
use Rattle.gate_model.specs.declared.answer.Answer.TheVariants.{Resize as was_resized}
use Rattle.gate_model.specs.declared.cause.Cause.TheVariants.{Stopped}
use Rattle.gate_model.specs.declared.entry.Entry.TheVariants.{Size as size_entry}
use Rattle.gate_model.specs.declared.event.Event.TheVariants.{Resize as resize_to}
use Rattle.gate_model.specs.declared.instr.Instr.TheVariants.{Sync}
use Rattle.gate_model.specs.declared.resize_refusal.ResizeRefusal.{ResizeRefusal}
use Rattle.gate_model.specs.declared.resize_refusal.ResizeRefusal.TheVariants.{NoViewer, Closed, Denied, Same, Worn}
use Rattle.gate_model.specs.text.Text.{texts}
use Rattle.script_grammar.specs.declared.line.Line.TheVariants.{Resize}
use Rattle.gate_script.specs.Told.{answer_line, answer_to, frames_line, framing, refused_line, worn_by}
use Rattle.gate_script.specs.Plays.{event_of, opening}

abbrev told : Result ℕ ResizeRefusal → Option (List ℕ)
told result = answer_to (was_resized result) (resize_to 1 2 1)

-- the call of `size 1 2 1`
pub the_call : event_of (Resize 1 record { cols = 2; rows = 1 }) opening ≡ Some (resize_to 1 2 1)
the_call = refl

-- its answers
pub done : told (Ok 4) ≡ Some (answer_line (codes "sized") (4 ∷ []))
done = refl

pub passed_over : (told (Err Denied) ≡ Some (answer_line (codes "denied") [])) × (told (Err Same) ≡ Some (answer_line (codes "unchanged") []))
passed_over = (refl, refl)

pub refused : (told (Err NoViewer) ≡ Some (refused_line 516)) × (told (Err (Closed Stopped)) ≡ Some (refused_line 523))
refused = (refl, refl)

-- a full session has no answer: it ends the run
pub ended : (told (Err (Worn 3)) ≡ None) × (worn_by (was_resized (Err (Worn 3))) ≡ Some 3)
ended = (refl, refl)

-- the frame has the number 0
pub framed : framing [] (size_entry 1 2 1 4 (Sync 4 ∷ [])) ≡ frames_line 0 (texts (Sync 4 ∷ []))
framed = refl
