use Rattle.display_history.proofs.Texts.{texts_kept, texts_after}
use Rattle.display_history.proofs.laws.texts_are_kept.Goals as goal

pub returns-clause-kept : goal.returns-clause-kept
returns-clause-kept c = texts_kept

pub returns-clause-after : goal.returns-clause-after
returns-clause-after c = texts_after
