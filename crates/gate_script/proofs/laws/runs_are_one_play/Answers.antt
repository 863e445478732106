use Rattle.gate_script.proofs.OneRun.{finished_once, interrupted_once, refuses_once, halted_once}
use Rattle.gate_script.proofs.OneFault.{faults_once}
use Rattle.gate_script.proofs.OneLoad.{loaded_once}
use Rattle.gate_script.proofs.laws.runs_are_one_play.Goals as goal

pub returns-clause-finished : goal.returns-clause-finished
returns-clause-finished c = finished_once

pub returns-clause-interrupted : goal.returns-clause-interrupted
returns-clause-interrupted c = interrupted_once

pub returns-clause-refused : goal.returns-clause-refused
returns-clause-refused c = refuses_once

pub returns-clause-halted : goal.returns-clause-halted
returns-clause-halted c = halted_once

pub returns-clause-write_fault : goal.returns-clause-write_fault
returns-clause-write_fault c = faults_once

pub returns-clause-loaded : goal.returns-clause-loaded
returns-clause-loaded c = loaded_once
