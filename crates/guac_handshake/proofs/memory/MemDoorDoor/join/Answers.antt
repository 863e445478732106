use Rattle.std.proofs.Common.{rules}
use Rattle.id_table.specs.Tables.{held}
use Rattle.guac_handshake.specs.Names.{id_of_name}
use Rattle.guac_handshake.proofs.InMemory.{meets}
use Rattle.guac_handshake.proofs.memory.MemDoorDoor.join.Goals as goal

pub returns-in-Ok-clause-joins : goal.returns-in-Ok-clause-joins
returns-in-Ok-clause-joins g c = record { absent = search rules; ids = search rules; history = meets (id_of_name c.args.name.now) (held c.args.self.now.ids) _ _; out = search rules; asked = search rules; helper = search rules }

pub returns-in-Err-clause-joins : goal.returns-in-Err-clause-joins
returns-in-Err-clause-joins g c = record { absent = search rules; ids = search rules; history = meets (id_of_name c.args.name.now) (held c.args.self.now.ids) _ _; out = search rules; asked = search rules; helper = search rules }

pub returns-in_default-clause-joins : goal.returns-in_default-clause-joins
returns-in_default-clause-joins g c = record { absent = search rules; ids = search rules; history = meets (id_of_name c.args.name.now) (held c.args.self.now.ids) _ _; out = search rules; asked = search rules; helper = search rules }

pub returns-then-self-clause-joins : goal.returns-then-self-clause-joins
returns-then-self-clause-joins g c = record { absent = search rules; ids = search rules; history = meets (id_of_name c.args.name.now) (held c.args.self.now.ids) _ _; out = search rules; asked = search rules; helper = search rules }
