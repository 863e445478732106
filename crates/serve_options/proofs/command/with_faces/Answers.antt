use Rattle.std.proofs.Common.{◌∙◌, ◌≡◌, [], ◌∷◌, Bool, ap, codes, false}
use Rattle.std.proofs.lemmas.Result.{IfOk-weaker}
use Rattle.clap.specs.Words.{Rule, rule_of, with_rule}
use Rattle.clap.specs.declared.builder.arg.Arg.{Arg}
use Rattle.serve_options.specs.Given.{faces_rule}
use Rattle.serve_options.proofs.command.with_faces.Goals as goal

-- whether it is for subcommands too
abbrev is_global : Arg → Bool
is_global a = a.global

pub returns : goal.returns
returns c =
    let faces_is : rule_of c.default_value-faces.result ≡ faces_rule = ap rule_of c.default_value-faces.ensures ∙ ap (λ (r : Rule). record r { defaults = codes "ascii" ∷ [] }) c.option.ensures.rule in
    let faces_own : c.default_value-faces.result.global ≡ false = ap is_global c.default_value-faces.ensures ∙ c.option.ensures.own in
    IfOk-weaker c.arg.result _ _ (λ command h. h.shape faces_own ∙ ap (with_rule _) faces_is) c.arg.ensures
