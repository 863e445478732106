use Rattle.std.proofs.Common.{Some}
use Rattle.id_table.proofs.Apart.{from_some}
use Rattle.id_table.proofs.plain_shelf.PlainShelfShelf.back.Goals as goal

pub returns-in-Some : goal.returns-in-Some
returns-in-Some g c = from_some _ _ _ c.in-Some.is (c.get_mut.follows.holds (Some c.args.value))
