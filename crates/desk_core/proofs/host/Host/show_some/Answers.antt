use Rattle.std.proofs.Common.{length, sym, ◌∙◌}
use Rattle.desk_core.proofs.DataRuns.{not_empty, text_showed}
use Rattle.desk_core.proofs.host.Host.show_some.Goals as goal

pub returns : goal.returns
returns c = text_showed c.args.self.now c.print_run.new.self c.args.bytes.now c.text-text.result.now c.args.into.now.items c.text-text.ensures.front
    (not_empty (length c.text-text.result.now) (sym c.is_empty.ensures ∙ c.if-is_empty.false)) c.text-text.ensures.controls c.text-text.ensures.state c.print_run.ensures
