use Rattle.std.proofs.Common.{◌++◌, ℕ, List, ap, ◌∙◌}
use Rattle.guac_handshake.specs.Texts.{ready_text}
use Rattle.guac_handshake.proofs.Replying.{ready_parts}
use Rattle.ws_tunnel.proofs.texts.ready.Goals as goal

pub returns : goal.returns
returns c =
    c.in_ok-extend_from_slice.ensures.items
    ∙ ap (λ (bs : List ℕ). bs ++ c.args.first.now) (ready_parts _ _ _ c.as_str.result.now _ c.new-text.ensures.items c.in_ok-put_element.ensures.appended c.in_ok-put_element-2.ensures.appended c.in_ok-put_end.ensures.appended ∙ ap ready_text c.as_str.ensures)
