use Rattle.std.proofs.Common.{◌∙◌}
use Rattle.clip_stream.proofs.Typing.{some_left}
use Rattle.clip_stream.proofs.waiting.Waiting.has_some.Goals as goal

pub returns : goal.returns
returns c =
    let w = c.self.inside in
    some_left w.given c.len.result w.text.items c.args.self.now (c.len.ensures ∙ w.text.ok.0) c.self.view_is
