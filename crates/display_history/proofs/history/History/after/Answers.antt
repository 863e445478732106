use Rattle.std.proofs.Common.{ap, sym, ◌∙◌}
use Rattle.display_history.specs.Keeping.{HistoryState, after_stamp}
use Rattle.display_history.proofs.Stands.{kept_rise, covers_exactly}
use Rattle.display_history.proofs.history.History.after.Goals as goal

pub after-requires : goal.after-requires
after-requires c = kept_rise (record { kept = c.self.inside.frames; gone = c.self.inside.gone }) c.self.invariant.0 c.self.invariant.1

pub returns-clause-all : goal.returns-clause-all
returns-clause-all c all h =
    c.after.ensures
    ∙ (ap (λ (s : HistoryState). after_stamp c.args.stamp s.kept) c.self.view_is
    ∙ sym ((covers_exactly c.args.self.now all c.args.stamp h).0 c.requires))
