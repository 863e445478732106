use Rattle.service_door.proofs.Stopping.{has_left}
use Rattle.service_door.proofs.door.leave.Goals as goal

pub returns : goal.returns
returns g c = has_left _ _ c.args.place.reader.viewer c.leave.result c.leave.ensures.called
