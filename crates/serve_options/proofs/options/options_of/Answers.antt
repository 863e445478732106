use Rattle.std.proofs.Common.{◌≡◌, ◌∙◌}
use Rattle.serve_options.specs.declared.options.WordsFault.TheVariants.{Usage as usage}
use Rattle.serve_options.proofs.Parsed.{given_as, refused, taken}
use Rattle.serve_options.proofs.options.options_of.Goals as goal

pub returns-in-Err-clause-usage : goal.returns-in-Err-clause-usage
returns-in-Err-clause-usage c = λ e.
    let fault : c.fault_of.result ≡ usage = cc in
    refused _ _ c.in-Err.error c.in_ok-serve_command.ensures c.in-Err.ensures.kinds (c.fault_of.ensures fault)

pub returns-in-Ok-clause-given : goal.returns-in-Ok-clause-given
returns-in-Ok-clause-given c =
    given_as _ _ c.read.result (taken _ _ c.in-Ok.matches _ c.in_ok-serve_command.ensures c.in-Ok.ensures.kinds c.in-Ok.ensures.matches c.texts_in.ensures) c.read.ensures.given

pub returns-in-Ok-clause-usage : goal.returns-in-Ok-clause-usage
returns-in-Ok-clause-usage c = λ is.
    taken _ _ c.in-Ok.matches _ c.in_ok-serve_command.ensures c.in-Ok.ensures.kinds c.in-Ok.ensures.matches c.texts_in.ensures
    ∙ c.read.ensures.usage is
