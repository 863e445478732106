use Rattle.gate_model.proofs.TokenLaws.{tokens-cut}
use Rattle.gate_model.proofs.laws.telnet.tokens_of_any_cutting.Goals as goal

pub returns : goal.returns
returns c = tokens-cut
