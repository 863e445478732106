use Rattle.service_door.proofs.session.Session.stop.Goals as goal

pub returns : goal.returns
returns g c = (c.close.result, c.close.ensures)
