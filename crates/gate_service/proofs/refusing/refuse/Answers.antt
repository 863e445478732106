use Rattle.std.proofs.Common.{◌≡◌, ap, ◌++◌, ◌∙◌}
use Rattle.guac_handshake.specs.Texts.{error_text}
use Rattle.gate_service.proofs.Fronts.{front_written}
use Rattle.gate_service.proofs.refusing.refuse.Goals as goal

pub returns-clause-written : goal.returns-clause-written
returns-clause-written g c =
    let text = c.deref.ensures.value ∙ c.in-Ok.ensures.appended ∙ ap (λ x. x ++ error_text 512) c.new-text.ensures.items in
    front_written c.write_all.result c.deref.result.now (error_text 512) _ _ text c.write_all.ensures.ok c.write_all.ensures.part
