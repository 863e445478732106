use Rattle.std.proofs.Common.{◌∙◌, ap}
use Rattle.clip_stream.specs.Pasted.{Clipboard, has_some}
use Rattle.clip_stream.proofs.Typing.{waits_all}
use Rattle.clip_stream.proofs.clip.Clip.waits.Goals as goal

pub returns : goal.returns
returns c =
    let s = c.self.inside in
    c.has_some.ensures ∙ waits_all s.returned s.at s.waiting s.pasted c.self.invariant.1 ∙ ap (λ (k : Clipboard). has_some k.waiting) c.self.view_is
