use Rattle.record_play.proofs.Sent.{shows_screen}
use Rattle.record_play.proofs.laws.syncs_show_the_screen.Goals as goal

pub returns : goal.returns
returns c = shows_screen
