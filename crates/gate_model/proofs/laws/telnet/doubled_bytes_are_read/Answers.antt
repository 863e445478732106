use Rattle.gate_model.proofs.TokenLaws.{doubled-data, subnegotiation-read}
use Rattle.gate_model.proofs.laws.telnet.doubled_bytes_are_read.Goals as goal

pub returns-clause-data : goal.returns-clause-data
returns-clause-data c = doubled-data

pub returns-clause-subnegotiation : goal.returns-clause-subnegotiation
returns-clause-subnegotiation c = subnegotiation-read
