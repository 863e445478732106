use Rattle.std.proofs.Common.{◌∙◌, ap, true}
use Rattle.std.proofs.lemmas.Result.{IfOk-weaker}
use Rattle.clap.specs.Simple.{app_of_fields, on_top}
use Rattle.serve_options.specs.Given.{with_faces, with_limits, with_notes, with_page, with_place}
use Rattle.serve_options.proofs.command.serve_command.Goals as goal

pub returns : goal.returns
returns c =
    let bare = ap app_of_fields c.no_binary_name-bare.ensures ∙ ap (on_top (λ s. record s { no_binary_name = true })) c.new.ensures.app in
    let noted = c.in_ok-noted.ensures ∙ ap with_notes (c.in_ok-placed.ensures ∙ ap with_place bare) in
    let limited = c.in_ok-limited.ensures ∙ ap with_limits noted in
    let shown = c.in_ok-shown.ensures ∙ ap with_faces limited in
    IfOk-weaker c.with_page.result _ _ (λ command h. h ∙ ap with_page shown) c.with_page.ensures
