use Rattle.http_tunnel.proofs.Connecting.{added_conflict, added_none, added_some}
use Rattle.http_tunnel.proofs.Places.{conflict_given, memory_given}
use Rattle.http_tunnel.proofs.connect.add_tunnel.Goals as goal

pub returns-in-Ok-clause-added : goal.returns-in-Ok-clause-added
returns-in-Ok-clause-added g c = added_some c.args.welcome _ _ _ (g.T.Shelf.told c.args.tunnels.now) (g.T.Shelf.told c.add.new.self) c.of.ensures c.in-Ok.ensures.added c.in-Ok.ensures.first

pub returns-in-Err-Conflict-clause-added : goal.returns-in-Err-Conflict-clause-added
returns-in-Err-Conflict-clause-added g c = added_conflict c.args.welcome _ _ _ _ (g.T.Shelf.told c.args.tunnels.now) (g.T.Shelf.told c.add.new.self) c.in-Err-Conflict.field-0-is c.in-Err-Conflict.ensures.same c.in-Err-Conflict.ensures.conflict c.in-Err-Conflict.ensures.drawn

pub returns-in-Err-NoMemory-clause-added : goal.returns-in-Err-NoMemory-clause-added
returns-in-Err-NoMemory-clause-added g c = added_none c.args.welcome _ (g.T.Shelf.told c.args.tunnels.now) (g.T.Shelf.told c.add.new.self) c.in-Err-NoMemory.ensures.same

pub returns-in-Err-Conflict-clause-gives : goal.returns-in-Err-Conflict-clause-gives
returns-in-Err-Conflict-clause-gives g c = conflict_given g.D.Door.id_of c.args.welcome _ _ _ _ _ _ c.in-Err-Conflict.field-0-is c.in-Err-Conflict.ensures.given_back c.of.ensures c.give_back.ensures

pub returns-in-Err-NoMemory-clause-gives : goal.returns-in-Err-NoMemory-clause-gives
returns-in-Err-NoMemory-clause-gives g c = memory_given g.D.Door.id_of c.args.welcome _ _ _ _ _ c.in-Err-NoMemory.field-0-is c.in-Err-NoMemory.ensures.given_back c.of.ensures c.give_back-in-Err-NoMemory.ensures
