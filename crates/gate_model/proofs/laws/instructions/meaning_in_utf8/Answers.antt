use Rattle.gate_model.proofs.MeaningLaws.{act_in_utf8, greeting_in_utf8, instr_in_utf8}
use Rattle.gate_model.proofs.laws.instructions.meaning_in_utf8.Goals as goal

pub returns-clause-client : goal.returns-clause-client
returns-clause-client c = act_in_utf8

pub returns-clause-greeting : goal.returns-clause-greeting
returns-clause-greeting c = greeting_in_utf8

pub returns-clause-server : goal.returns-clause-server
returns-clause-server c = instr_in_utf8
