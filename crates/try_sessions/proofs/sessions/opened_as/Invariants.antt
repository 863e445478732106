use Rattle.try_sessions.proofs.sessions.opened_as.Given as goal

abbrev pub ghosts-share : goal.ghosts-share
ghosts-share a = record { list = a.desk.past }
