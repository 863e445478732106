-- What is written of the text of a refusal.
use Rattle.std.proofs.Common.{◌≡◌, ℕ, List, ◌++◌, take, drop, sym, ◌∙◌, append-nil, []}
use Rattle.std.specs.Prelude.{Option, Result, Ok, Err, OnErr, OnOk}
use Rattle.std.proofs.lemmas.List.{take-append-drop}
use Rattle.gate_model.specs.Sequences.{BeginsWith}
use Rattle.gate_outside.specs.Edge.{GainedFront, gained}

pub front_written : {T E : Type 0} (r : Result T E) (text whole : List ℕ) (old new : Option (List ℕ)) → text ≡ whole → OnOk r (new ≡ gained old text) → OnErr r (GainedFront old new text) → (written : List ℕ) × (new ≡ gained old written) × BeginsWith whole written
front_written (Ok done) text whole old new same all front = (text, all, ([], sym same ∙ sym (append-nil text)))
front_written (Err failed) text whole old new same all front = (take front.0 text, front.2, (drop front.0 text, sym same ∙ sym (take-append-drop front.0 text)))
