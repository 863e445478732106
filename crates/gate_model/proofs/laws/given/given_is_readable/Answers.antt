use Rattle.gate_model.proofs.Readable.{delivered-readable, handed-readable}
use Rattle.gate_model.proofs.laws.given.given_is_readable.Goals as goal

pub returns : goal.returns
returns c = record { given = delivered-readable; handed = handed-readable }
