use Rattle.std.proofs.Common.{sym, subst}
use Rattle.desk_core.specs.Desk.{DeskState, Stands}
use Rattle.desk_core.specs.State.{state}
use Rattle.desk_core.proofs.Results.{if_ok_both}
use Rattle.desk_core.proofs.Following.{follows}
use Rattle.desk_core.proofs.desk.Desk.heard.Goals as goal

pub returns : goal.returns
returns c = λ h stood.
    let d = state c.self.inside in
    let s : Stands d h = subst (λ (k : DeskState). Stands k h) (sym c.self.view_is) stood in
    if_ok_both c.hear.result _ _ _ (λ r goes_on says. follows d h c.args.bytes.now c.as_str.result.now c.cols-cols.result c.rows-rows.result r s c.as_str.ensures c.cols-cols.ensures c.rows-rows.ensures goes_on says) c.hear.ensures.host c.hear.ensures.replies
