use Rattle.user_serve.proofs.Shown.{written_front}
use Rattle.user_serve.proofs.laws.visits_show_the_screen.Goals as goal

pub returns : goal.returns
returns c = λ welcome visit heard shown left ran. record {
  front = written_front visit.outlet _ shown ran.outlet.wrote;
  faithful = c.histories_are_whole.ensures.faithful _ ran.outlet.sound.whole welcome.place.reader.viewer;
}
