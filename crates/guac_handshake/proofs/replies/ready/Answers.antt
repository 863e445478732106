use Rattle.std.proofs.Common.{ap, ◌∙◌}
use Rattle.guac_handshake.specs.Texts.{ready_text}
use Rattle.guac_handshake.proofs.Replying.{ready_parts}
use Rattle.guac_handshake.proofs.replies.ready.Goals as goal

pub returns : goal.returns
returns c =
    ready_parts _ _ _ c.as_str.result.now _ c.new-text.ensures.items c.in_ok-put_element.ensures.appended c.in_ok-put_element-2.ensures.appended c.in_ok-put_end.ensures.appended
    ∙ ap ready_text c.as_str.ensures
