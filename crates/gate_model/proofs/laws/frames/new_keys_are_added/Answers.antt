use Rattle.gate_model.proofs.Layering.{same_keys, held-not_new, new-added}
use Rattle.gate_model.proofs.laws.frames.new_keys_are_added.Goals as goal

pub returns : goal.returns
returns c = record { same = same_keys; held = held-not_new; added = new-added }
