use Rattle.std.proofs.Common.{◌∙◌, sym}
use Rattle.gate_model.specs.session.History.{frames}
use Rattle.desk_core.proofs.laws.frames_are_kept.Goals as goal

pub returns : goal.returns
returns c = λ d h s. s.frames.kept.kept ∙ sym (c.texts_are_kept.ensures.kept (frames h))
