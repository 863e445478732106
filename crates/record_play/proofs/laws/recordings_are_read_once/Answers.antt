use Rattle.record_play.proofs.Unique.{fault_is_one, recorded_once, recorded_or_fault}
use Rattle.record_play.proofs.laws.recordings_are_read_once.Goals as goal

pub returns-clause-apart : goal.returns-clause-apart
returns-clause-apart c = recorded_or_fault

pub returns-clause-once : goal.returns-clause-once
returns-clause-once c = recorded_once

pub returns-clause-first : goal.returns-clause-first
returns-clause-first c = fault_is_one
