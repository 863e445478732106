use Rattle.std.proofs.Common.{◌∙◌, ◌≡◌, [], ◌∷◌, Bool, Some, ap, ap₂, codes, false}
use Rattle.std.proofs.lemmas.Result.{IfOk-weaker}
use Rattle.clap.specs.Words.{Rule, rule_of, with_rule}
use Rattle.clap.specs.declared.builder.action.ArgAction.TheVariants.{Append}
use Rattle.clap.specs.declared.builder.arg.Arg.{Arg}
use Rattle.serve_options.specs.Given.{allow_rule, linger_rule, silence_rule}
use Rattle.serve_options.proofs.command.with_limits.Goals as goal

-- whether it is for subcommands too
abbrev is_global : Arg → Bool
is_global a = a.global

pub returns : goal.returns
returns c =
    let allow_is : rule_of c.action-allow.result ≡ allow_rule = ap rule_of c.action-allow.ensures ∙ ap (λ (r : Rule). record r { action = Some Append }) c.option.ensures.rule in
    let silence_is : rule_of c.default_value-silence.result ≡ silence_rule = ap rule_of c.default_value-silence.ensures ∙ ap (λ (r : Rule). record r { defaults = codes "0" ∷ [] }) c.option-2.ensures.rule in
    let linger_is : rule_of c.default_value-linger.result ≡ linger_rule = ap rule_of c.default_value-linger.ensures ∙ ap (λ (r : Rule). record r { defaults = codes "0" ∷ [] }) c.option-3.ensures.rule in
    let allow_own : c.action-allow.result.global ≡ false = ap is_global c.action-allow.ensures ∙ c.option.ensures.own in
    let silence_own : c.default_value-silence.result.global ≡ false = ap is_global c.default_value-silence.ensures ∙ c.option-2.ensures.own in
    let linger_own : c.default_value-linger.result.global ≡ false = ap is_global c.default_value-linger.ensures ∙ c.option-3.ensures.own in
    let one = c.in_ok-arg.ensures.shape allow_own ∙ ap (with_rule _) allow_is in
    let two = c.in_ok-arg-2.ensures.shape silence_own ∙ ap₂ with_rule one silence_is in
    IfOk-weaker c.arg-3.result _ _ (λ command h. h.shape linger_own ∙ ap₂ with_rule two linger_is) c.arg-3.ensures
