-- The list, the counts of a link, and what is counted by them may go to other threads.
use denote.RattleType.{RattleType}
use denote.Hole.{as_row}
use denote.Struct.Field.{row_field}
use denote.Param.Send.{IsSend, IsSync, sendable}
use denote.Param.SendFields.{as_row_send, declared_send, declared_sync}
use Rattle.std.proofs.Crossing.{Arc-send, crosses}
use Rattle.std.proofs.MapsCrossing as maps
use Rattle.std.specs.contracts.option.Option as option
use Rattle.std.specs.contracts.sync.Mutex as mutex
use Rattle.std.specs.contracts.alloc.Global as Heap
use Rattle.std.specs.contracts.collections.BTreeMap as btree
use Rattle.std.specs.contracts.impls.GlobalAllocator.TheImpl.{ghosts}
use Rattle.uuid.specs.contracts.Uuid as uuid
use Rattle.uuid.specs.contracts.UuidOrd.TheImpl as uuid_ord
use Rattle.uuid.specs.contracts.UuidPartialEq.TheImpl as uuid_eq
use Rattle.uuid.specs.contracts.UuidPartialOrd.TheImpl as uuid_partial
use Rattle.session_list.specs.contracts.counts.Counts as counts
use Rattle.session_list.specs.contracts.ends.TrafficSink as sink
use Rattle.session_list.specs.contracts.ends.TrafficSource as source
use Rattle.session_list.specs.contracts.helper.TrafficHelper as helper
use Rattle.session_list.specs.contracts.list.SessionList as list
use Rattle.session_list.specs.contracts.list.Shared as shared
use Rattle.session_list.specs.contracts.row.Row as row
use Rattle.session_list.specs.contracts.traffic.Carried as carried
use Rattle.session_list.specs.contracts.traffic.Traffic as traffic

carried_send : IsSend carried.the_row
carried_send = search (sendable, crosses) depth 20

carried_sync : IsSync carried.the_row
carried_sync = search (sendable, crosses) depth 20

pub traffic_send : IsSend traffic.the_row
traffic_send = declared_send traffic.the_type (Arc-send carried.the_row carried_send carried_sync, (Arc-send carried.the_row carried_send carried_sync, tt))

row_send : IsSend row.the_row
row_send = search (traffic_send, sendable, crosses) depth 30

rows_send : IsSend (btree.the_field uuid.the_row row.the_row Heap.the_row uuid_ord.ghosts uuid_eq.ghosts uuid_partial.ghosts ghosts).row
rows_send = maps.BTreeMap-send uuid.the_row row.the_row uuid_ord.ghosts uuid_eq.ghosts uuid_partial.ghosts (search (sendable, crosses) depth 20) row_send

mutex_send : (T : RattleType) → IsSend T → IsSend (mutex.the_row T)
mutex_send T t = search (crosses, t) depth 10

mutex_sync : (T : RattleType) → IsSend T → IsSync (mutex.the_row T)
mutex_sync T t = search (crosses, t) depth 10

counts_send : IsSend counts.the_row
counts_send = search (sendable, crosses) depth 30

counts_sync : IsSync counts.the_row
counts_sync = search (sendable, crosses) depth 30

shared_send : IsSend shared.the_row
shared_send = declared_send shared.the_type (mutex_send _ rows_send, (counts_send, (Arc-send carried.the_row carried_send carried_sync, (search (sendable, crosses), tt))))

shared_sync : IsSync shared.the_row
shared_sync = declared_sync shared.the_type (mutex_sync _ rows_send, (counts_sync, (search (carried_send, carried_sync, sendable, crosses) depth 20, (search (sendable, crosses) depth 20, tt))))

pub list_send : IsSend list.the_row
list_send = declared_send list.the_type (search (sendable, crosses), (Arc-send shared.the_row shared_send shared_sync, tt))

counted_send : IsSend (option.the_row traffic.the_row)
counted_send = search (traffic_send, sendable, crosses) depth 20

-- a field of a type of the caller's
field_send : (R : RattleType) → IsSend R → IsSend (as_row (row_field R))
field_send R r = as_row_send (row_field R) r

pub source_send : (S : RattleType) → IsSend S → IsSend (source.the_row S)
source_send S s = declared_send (source.the_type S) (field_send S s, (counted_send, tt))

pub sink_send : (K : RattleType) → IsSend K → IsSend (sink.the_row K)
sink_send K k = declared_send (sink.the_type K) (field_send K k, (counted_send, tt))

pub helper_send : (H : RattleType) → IsSend H → IsSend (helper.the_row H)
helper_send H h = declared_send (helper.the_type H) (field_send H h, (traffic_send, (search (sendable, crosses), tt)))
