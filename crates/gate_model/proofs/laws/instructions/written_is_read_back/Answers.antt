use Rattle.gate_model.proofs.MeaningLaws.{read_back}
use Rattle.gate_model.proofs.TextLaws.{text_spells}
use Rattle.gate_model.proofs.laws.instructions.written_is_read_back.Goals as goal

pub returns-clause-spelled : goal.returns-clause-spelled
returns-clause-spelled c = text_spells

pub returns-clause-read : goal.returns-clause-read
returns-clause-read c = read_back
