use Rattle.std.proofs.Common.{◌∙◌, ◌≡◌, [], ◌∷◌, Bool, ap, ap₂, codes, false, true}
use Rattle.std.proofs.lemmas.Result.{IfOk-weaker}
use Rattle.clap.specs.Words.{Rule, rule_of, with_rule}
use Rattle.clap.specs.declared.builder.arg.Arg.{Arg}
use Rattle.serve_options.specs.Given.{port_rule, seed_rule}
use Rattle.serve_options.proofs.command.with_place.Goals as goal

-- whether it is for subcommands too
abbrev is_global : Arg → Bool
is_global a = a.global

pub returns : goal.returns
returns c =
    let seed_is : rule_of c.required-seed.result ≡ seed_rule = ap rule_of c.required-seed.ensures ∙ ap (λ (r : Rule). record r { required = true }) c.option.ensures.rule in
    let port_is : rule_of c.default_value-port.result ≡ port_rule = ap rule_of c.default_value-port.ensures ∙ ap (λ (r : Rule). record r { defaults = codes "4822" ∷ [] }) c.option-2.ensures.rule in
    let seed_own : c.required-seed.result.global ≡ false = ap is_global c.required-seed.ensures ∙ c.option.ensures.own in
    let port_own : c.default_value-port.result.global ≡ false = ap is_global c.default_value-port.ensures ∙ c.option-2.ensures.own in
    let one = c.in_ok-arg.ensures.shape seed_own ∙ ap (with_rule _) seed_is in
    let two = c.in_ok-arg-2.ensures.shape port_own ∙ ap₂ with_rule one port_is in
    IfOk-weaker c.arg-3.result _ _ (λ command h. h.shape c.option-recorder.ensures.own ∙ ap₂ with_rule two c.option-recorder.ensures.rule) c.arg-3.ensures
