use Rattle.std.proofs.Common.{◌∙◌, ◌≡◌, Bool, Some, ap, ap₂, codes, false}
use Rattle.std.proofs.lemmas.Result.{IfOk-weaker}
use Rattle.clap.specs.Words.{Rule, rule_of, with_rule}
use Rattle.clap.specs.declared.builder.action.ArgAction.TheVariants.{Append, SetTrue}
use Rattle.clap.specs.declared.builder.arg.Arg.{Arg}
use Rattle.serve_options.specs.Given.{name_rule, page_rule}
use Rattle.serve_options.proofs.command.with_page.Goals as goal

-- whether it is for subcommands too
abbrev is_global : Arg → Bool
is_global a = a.global

pub returns : goal.returns
returns c =
    let page_is : rule_of c.help-page.result ≡ page_rule =
    ap rule_of c.help-page.ensures
    ∙ (ap rule_of c.action.ensures
    ∙ ap (λ (r : Rule). record r { action = Some SetTrue }) (ap rule_of c.long.ensures ∙ ap (λ (r : Rule). record r { long = Some (codes "page") }) c.new.ensures.rule)) in
    let name_is : rule_of c.action-name.result ≡ name_rule = ap rule_of c.action-name.ensures ∙ ap (λ (r : Rule). record r { action = Some Append }) c.option.ensures.rule in
    let page_own : c.help-page.result.global ≡ false = ap is_global c.help-page.ensures ∙ (ap is_global c.action.ensures ∙ (ap is_global c.long.ensures ∙ c.new.ensures.optional.1)) in
    let name_own : c.action-name.result.global ≡ false = ap is_global c.action-name.ensures ∙ c.option.ensures.own in
    let one = c.in_ok-arg.ensures.shape page_own ∙ ap (with_rule _) page_is in
    IfOk-weaker c.arg-2.result _ _ (λ command h. h.shape name_own ∙ ap₂ with_rule one name_is) c.arg-2.ensures
