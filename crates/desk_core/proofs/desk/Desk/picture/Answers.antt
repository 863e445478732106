use Rattle.std.proofs.Common.{sym, subst}
use Rattle.desk_core.specs.Desk.{DeskState, Stands}
use Rattle.desk_core.specs.State.{state}
use Rattle.desk_core.proofs.Results.{if_ok_three}
use Rattle.desk_core.proofs.Updating.{drawn_size, drawn_colours, pictures}
use Rattle.desk_core.proofs.desk.Desk.picture.Goals as goal

pub picture-requires-clause-size : goal.picture-requires-clause-size
picture-requires-clause-size c = drawn_size (state c.self.inside) c.self.invariant.0 c.self.invariant.1

pub picture-requires-clause-coloured : goal.picture-requires-clause-coloured
picture-requires-clause-coloured c = drawn_colours (state c.self.inside) c.self.invariant.0 c.self.invariant.1

pub returns : goal.returns
returns c = λ h stood.
    let d = state c.self.inside in
    let s : Stands d h = subst (λ (k : DeskState). Stands k h) (sym c.self.view_is) stood in
    if_ok_three c.picture.result _ _ _ _ (λ is shape makes few. pictures d h is c.stamp.result s c.pictures_restore.ensures.restores c.stamp.ensures shape makes few) c.picture.ensures.shape c.picture.ensures.makes c.picture.ensures.few
