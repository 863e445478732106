use Rattle.std.proofs.Common.{◌∙◌, ap, sym}
use Rattle.gate_model.specs.declared.act.Act.{Act}
use Rattle.viewer_book.specs.Book.{changed}
use Rattle.desk_core.specs.Viewers.{heeding}
use Rattle.desk_core.proofs.Bringing.{unheeded}
use Rattle.desk_core.proofs.desk.write.heed.Goals as goal

pub returns-in-Sync : goal.returns-in-Sync
returns-in-Sync c = c.acknowledge.ensures ∙ ap (λ (a : Act). changed c.args.book.now c.args.viewer (heeding a)) (sym c.in-Sync.is)

pub returns-in_default : goal.returns-in_default
returns-in_default c = unheeded c.args.book.now c.args.viewer c.args.act.now c.in_default.not-Sync
