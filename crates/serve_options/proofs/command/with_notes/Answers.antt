use Rattle.std.proofs.Common.{◌∙◌, ◌≡◌, [], ◌∷◌, Bool, ap, ap₂, codes, false}
use Rattle.std.proofs.lemmas.Result.{IfOk-weaker}
use Rattle.clap.specs.Words.{Rule, rule_of, with_rule}
use Rattle.clap.specs.declared.builder.arg.Arg.{Arg}
use Rattle.serve_options.specs.Given.{log_format_rule, log_rule}
use Rattle.serve_options.proofs.command.with_notes.Goals as goal

-- whether it is for subcommands too
abbrev is_global : Arg → Bool
is_global a = a.global

pub returns : goal.returns
returns c =
    let log_is : rule_of c.default_value-level.result ≡ log_rule = ap rule_of c.default_value-level.ensures ∙ ap (λ (r : Rule). record r { defaults = codes "warn" ∷ [] }) c.option.ensures.rule in
    let format_is : rule_of c.default_value-format.result ≡ log_format_rule = ap rule_of c.default_value-format.ensures ∙ ap (λ (r : Rule). record r { defaults = codes "text" ∷ [] }) c.option-2.ensures.rule in
    let log_own : c.default_value-level.result.global ≡ false = ap is_global c.default_value-level.ensures ∙ c.option.ensures.own in
    let format_own : c.default_value-format.result.global ≡ false = ap is_global c.default_value-format.ensures ∙ c.option-2.ensures.own in
    let one = c.in_ok-arg.ensures.shape log_own ∙ ap (with_rule _) log_is in
    let two = c.in_ok-arg-2.ensures.shape format_own ∙ ap₂ with_rule one format_is in
    IfOk-weaker c.arg-3.result _ _ (λ command h. h.shape c.option-admin.ensures.own ∙ ap₂ with_rule two c.option-admin.ensures.rule) c.arg-3.ensures
