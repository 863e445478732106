-- A shelf behind a lock may go to other threads, where its values may.
use denote.RattleType.{RattleType}
use denote.Param.Send.{IsSend, IsSync, sendable}
use denote.Param.SendFields.{as_row_send, declared_send, declared_sync, variants_send}
use Rattle.std.proofs.Crossing.{Arc-send, crosses}
use Rattle.std.proofs.MapsCrossing as maps
use Rattle.std.specs.contracts.option.Option as option
use Rattle.std.specs.contracts.sync.Mutex as mutex
use Rattle.std.specs.contracts.alloc.Global as Heap
use Rattle.std.specs.contracts.collections.BTreeMap as btree
use Rattle.std.specs.contracts.impls.GlobalAllocator.TheImpl.{ghosts}
use Rattle.uuid.specs.contracts.Uuid as uuid
use Rattle.uuid.specs.contracts.UuidOrd.TheImpl as uuid_ord
use Rattle.uuid.specs.contracts.UuidPartialEq.TheImpl as uuid_eq
use Rattle.uuid.specs.contracts.UuidPartialOrd.TheImpl as uuid_partial
use Rattle.id_table.specs.contracts.id_table.IdTable as table
use Rattle.id_table.specs.contracts.locked_shelf.Behind as behind
use Rattle.id_table.specs.contracts.locked_shelf.LockedShelf as locked
use Rattle.id_table.specs.contracts.plain_shelf.PlainShelf as plain

pub option_send : (V : RattleType) → IsSend V → IsSend (option.the_row V)
option_send V v = search (sendable, crosses, variants_send, v) depth 20

pub mutex_send : (T : RattleType) → IsSend T → IsSend (mutex.the_row T)
mutex_send T t = search (crosses, t) depth 10

pub mutex_sync : (T : RattleType) → IsSend T → IsSync (mutex.the_row T)
mutex_sync T t = search (crosses, t) depth 10

pub table_send : (V : RattleType) → IsSend V → IsSend (table.the_row V)
table_send V v =
    let values = btree.the_field uuid.the_row V Heap.the_row uuid_ord.ghosts uuid_eq.ghosts uuid_partial.ghosts ghosts in
    declared_send (table.the_type V) (as_row_send values (maps.BTreeMap-send uuid.the_row V uuid_ord.ghosts uuid_eq.ghosts uuid_partial.ghosts (search (sendable, crosses) depth 20) v), tt)

plain_send : (V : RattleType) → IsSend V → IsSend (plain.the_row V)
plain_send V v = declared_send (plain.the_type V) (table_send (option.the_row V) (option_send V v), tt)

behind_send : (V : RattleType) → IsSend V → IsSend (behind.the_row V)
behind_send V v = declared_send (behind.the_type V) (mutex_send _ (plain_send V v), (search (sendable, crosses) depth 20, tt))

behind_sync : (V : RattleType) → IsSend V → IsSync (behind.the_row V)
behind_sync V v = declared_sync (behind.the_type V) (mutex_sync _ (plain_send V v), (search (sendable, crosses) depth 20, tt))

pub locked_send : (V : RattleType) → IsSend V → IsSend (locked.the_row V)
locked_send V v = declared_send (locked.the_type V) (option_send _ (Arc-send (behind.the_row V) (behind_send V v) (behind_sync V v)), tt)
