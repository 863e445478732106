use Rattle.gate_model.proofs.Grown.{restores_of, growing-next}
use Rattle.gate_model.proofs.laws.given.pictures_restore.Goals as goal

pub returns : goal.returns
returns c = record { restores = restores_of; sizes = growing-next }
