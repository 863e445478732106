use Rattle.service_door.proofs.opening.open_session.Given as goal

abbrev pub ghosts-share : goal.ghosts-share
ghosts-share a = record { list = a.desk.past }
