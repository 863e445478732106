use Rattle.gate_model.proofs.NoPaths.{no-paths}
use Rattle.gate_model.proofs.laws.frames_leave_no_path.Goals as goal

pub returns : goal.returns
returns c = no-paths
