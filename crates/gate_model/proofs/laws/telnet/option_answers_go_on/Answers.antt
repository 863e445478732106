use Rattle.gate_model.proofs.OptionLaws.{answers-go-on}
use Rattle.gate_model.proofs.laws.telnet.option_answers_go_on.Goals as goal

pub returns : goal.returns
returns c = answers-go-on
