use Rattle.std.proofs.Common.{subst}
use Rattle.shared_desk.specs.Members.{IsSound, KnowsViewer, ViewerState}
use Rattle.shared_desk.proofs.reader.ReaderPass.history_is_sound.Goals as goal

pub returns-clause-sound : goal.returns-clause-sound
returns-clause-sound c = subst (λ (s : ViewerState). IsSound s.view.seen) c.self.view_is c.history_is_sound.ensures

pub returns-clause-knows : goal.returns-clause-knows
returns-clause-knows c = subst (λ (s : ViewerState). KnowsViewer s.viewer s.view) c.self.view_is c.self.invariant.knows
