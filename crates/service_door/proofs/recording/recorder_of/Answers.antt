use Rattle.std.proofs.Common.{rules}
use Rattle.service_door.proofs.Joined.{joined_later}
use Rattle.service_door.proofs.Recorded.{wanted_seen}
use Rattle.service_door.proofs.recording.recorder_of.Goals as goal

pub returns-clause-seen : goal.returns-clause-seen
returns-clause-seen g c = wanted_seen c.args.wanted _ _ (grind rules) (joined_later _ _ _ _ _ _ c.in-Ok.ensures.step)
