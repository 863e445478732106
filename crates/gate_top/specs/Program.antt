-- What the program has done, by its words and its status (this project's own).
use Rattle.std.specs.Prelude.{◌≡◌, ◌↔◌, ℕ, List, Some, None}
use Rattle.script_grammar.specs.declared.form.Form.{Form}
use Rattle.script_grammar.specs.Words.{form_of}

-- all words but those of the service, as `gate_script::command` has it: 2 tells exactly that they are none of the
-- forms, and then nothing was done; else the outcome is that of their form
pub record IsCommandStatus (words : List (List ℕ)) (idle : Type 0) (has_outcome : Form → Type 0) (status : ℕ) : Type 0 where
  pub usage : (form_of words ≡ None) ↔ (status ≡ 2)
  pub nothing : status ≡ 2 → idle
  pub outcome : (form : Form) → form_of words ≡ Some form → has_outcome form

-- a fault is told only where the count of the source, of a sink or of the net rose
pub record IsStatusCaused (read_failed write_failed net_failed : Type 0) (status : ℕ) : Type 0 where
  pub read_fault : status ≡ 4 → read_failed
  pub write_fault : status ≡ 5 → write_failed
  pub net_fault : status ≡ 8 → net_failed
