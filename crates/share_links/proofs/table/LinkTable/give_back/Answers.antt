use Rattle.std.proofs.Common.{sym, ap, ◌∙◌, refl}
use Rattle.std.specs.Option.{option_copied_mut}
use Rattle.id_table.proofs.Apart.{from_some}
use Rattle.share_links.proofs.table.LinkTable.give_back.Goals as goal

pub returns-then-it : goal.returns-then-it
returns-then-it c =
    let at = sym c.get_mut.ensures.value ∙ ap option_copied_mut c.in-Some.is in
    let w = from_some _ _ _ c.in-Some.is (c.get_mut.follows.holds _) in
    (c.in-Some.it.now, _, at, record { id = refl; control = refl; uses = refl; left_is = c.one_more-it.ensures; revoked = refl }, (w.0, w.1))
