use Rattle.record_play.proofs.Captures.{bad_is_one, captured_once, captured_or_bad}
use Rattle.record_play.proofs.laws.streams_are_read_once.Goals as goal

pub returns-clause-apart : goal.returns-clause-apart
returns-clause-apart c = captured_or_bad

pub returns-clause-once : goal.returns-clause-once
returns-clause-once c = captured_once

pub returns-clause-first : goal.returns-clause-first
returns-clause-first c = bad_is_one
