use Rattle.time_session.proofs.sessions.opened.Given as goal

abbrev pub ghosts-share : goal.ghosts-share
ghosts-share a = record { list = a.desk.past }
