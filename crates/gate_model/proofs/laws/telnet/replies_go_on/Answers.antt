use Rattle.gate_model.proofs.Cuts.{replies-go-on, replies-stay}
use Rattle.gate_model.proofs.laws.telnet.replies_go_on.Goals as goal

pub returns-clause-bytes : goal.returns-clause-bytes
returns-clause-bytes c = replies-go-on

pub returns-clause-size : goal.returns-clause-size
returns-clause-size c = replies-stay
