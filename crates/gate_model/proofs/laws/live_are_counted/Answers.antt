use Rattle.gate_model.proofs.LiveCounts.{live-counted, live-joined}
use Rattle.gate_model.proofs.laws.live_are_counted.Goals as goal

pub returns : goal.returns
returns c = record { counted = live-counted; numbered = live-joined }
