use Rattle.std.proofs.Common.{rules}
use Rattle.id_table.specs.Tables.{held}
use Rattle.gate_outside.specs.Draws.{listed_draw}
use Rattle.guac_handshake.proofs.InMemory.{all_there, has_conflict, not_all_there}
use Rattle.guac_handshake.proofs.memory.MemDoorDoor.open.Goals as goal

pub returns-in-Err-Conflict-clause-begins : goal.returns-in-Err-Conflict-clause-begins
returns-in-Err-Conflict-clause-begins g c = record {
  sessions = search rules;
  out = search rules;
  asked = search rules;
  helper = search rules;
  conflict = (
    λ is. has_conflict (held c.args.self.now.ids) _ _ _ c.in-Err-Conflict.field-0-is c.in-Err-Conflict.ensures.conflict,
    all_there (held c.args.self.now.ids) _ _ _ c.in-Err-Conflict.field-0-is c.in-Err-Conflict.ensures.conflict (λ n. listed_draw c.args.self.now.dice.listed.items c.args.self.now.dice.at n) c.in-Err-Conflict.ensures.drawn,
  );
}

pub returns-in-Ok-name_of-clause-begins : goal.returns-in-Ok-name_of-clause-begins
returns-in-Ok-name_of-clause-begins g c = record { sessions = search rules; out = search rules; asked = search rules; helper = search rules; conflict = (λ e. cc, not_all_there (held c.args.self.now.ids) (λ n. listed_draw c.args.self.now.dice.listed.items c.args.self.now.dice.at n) _ c.in-Ok-add.ensures.first) }

pub returns-in-Err-name_of-clause-begins : goal.returns-in-Err-name_of-clause-begins
returns-in-Err-name_of-clause-begins g c = record { sessions = search rules; conflict = search rules; out = search rules; asked = search rules; helper = search rules }
