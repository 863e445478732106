use Rattle.std.proofs.Common.{◌∙◌, Bool, Some, ap}
use Rattle.clap.specs.Words.{Rule, rule_of}
use Rattle.clap.specs.declared.builder.arg.Arg.{Arg}
use Rattle.serve_options.proofs.command.option.Goals as goal

-- whether it is for subcommands too
abbrev is_global : Arg → Bool
is_global a = a.global

pub returns : goal.returns
returns c = record {
  rule =
      ap rule_of c.help.ensures
      ∙ (ap rule_of c.value_name.ensures
      ∙ ap (λ (r : Rule). record r { value_names = 1 }) (ap rule_of c.long.ensures ∙ ap (λ (r : Rule). record r { long = Some c.args.name.now }) c.new.ensures.rule));
  own = ap is_global c.help.ensures ∙ (ap is_global c.value_name.ensures ∙ (ap is_global c.long.ensures ∙ c.new.ensures.optional.1));
}
