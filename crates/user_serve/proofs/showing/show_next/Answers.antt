use Rattle.std.proofs.Common.{◌≡◌, ◌++◌, ℕ, List, take, drop, sym, ◌∙◌, ap}
use Rattle.std.proofs.lemmas.List.{take-append-drop}
use Rattle.gate_model.specs.text.Text.{texts}
use Rattle.user_serve.proofs.Shown.{step_as, step_failed, step_ran}
use Rattle.user_serve.proofs.showing.show_next.Goals as goal

pub returns-in-Err-clause-step : goal.returns-in-Err-clause-step
returns-in-Err-clause-step g c =
    let r = c.read-answer in
    let d = r.ensures.delivered in
    let part = c.in-Err.ensures.part in
    let text = c.as_slice.result.now in
    let is : text ≡ texts d.0 = c.as_slice.ensures.value ∙ d.2 ∙ ap (λ (bs : List ℕ). bs ++ texts d.0) c.clear.ensures.items in
    (take part.0 text, part.2, step_failed _ _ _ r.result _ _ r.ensures.gives d.0 d.1 (take part.0 text) (drop part.0 text, sym is ∙ sym (take-append-drop part.0 text)))

pub returns-in-Ok-clause-step : goal.returns-in-Ok-clause-step
returns-in-Ok-clause-step g c =
    let r = c.read-answer in
    let d = r.ensures.delivered in
    let text = c.as_slice.result.now in
    let is : text ≡ texts d.0 = c.as_slice.ensures.value ∙ d.2 ∙ ap (λ (bs : List ℕ). bs ++ texts d.0) c.clear.ensures.items in
    (text, c.in-Ok.ensures.ok, step_as _ _ _ text _ _ c.step_of.ensures (step_ran _ _ _ r.result _ _ r.ensures.gives d.0 d.1 c.history_is_sound.ensures.knows text is))
