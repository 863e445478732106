use Rattle.std.proofs.Common.{Some, sym, ap, ◌∙◌}
use Rattle.std.specs.Option.{option_copied_mut}
use Rattle.id_table.specs.Maps.{had, lent_as}
use Rattle.id_table.proofs.Apart.{from_some, had_of, lent_of}
use Rattle.id_table.proofs.plain_shelf.PlainShelfShelf.lend.Goals as goal

pub returns-in-Some : goal.returns-in-Some
returns-in-Some g c =
    let at = sym c.get_mut.ensures.value ∙ ap option_copied_mut c.in-Some.is in
    let slot = c.in-Some.slot.now in
    let w = from_some _ _ _ c.in-Some.is (c.get_mut.follows.holds c.take.new.self) in (
      had_of _ slot at c.requires ∙ ap had (sym c.take.ensures.value),
      (
        w.0 ∙ (ap Some c.take.ensures.after ∙ (sym (lent_of _ slot at c.requires) ∙ ap lent_as (sym c.take.ensures.value))),
        w.1,
      ),
    )
