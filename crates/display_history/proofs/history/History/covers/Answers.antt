use Rattle.std.proofs.Common.{ap}
use Rattle.display_history.specs.Keeping.{HistoryState}
use Rattle.display_history.proofs.Stands.{covers_exactly}
use Rattle.display_history.proofs.history.History.covers.Goals as goal

pub returns-clause-exact : goal.returns-clause-exact
returns-clause-exact c all h = rw (ap (λ (s : HistoryState). s.gone) c.self.view_is) (covers_exactly c.args.self.now all c.args.stamp h)
