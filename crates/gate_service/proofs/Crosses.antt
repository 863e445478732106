-- The jobs may go to other threads.
use mathlib.Core.List.{[], ◌∷◌}
use mir.Syntax.{Sym}
use denote.RattleType.{RattleType}
use denote.Struct.Field.{u64-field}
use denote.Struct.Tuple.{TupleAt, type_at}
use denote.Param.Send.{IsSend, IsSync, sendable}
use denote.Param.SendFields.{declared_send}
use Rattle.std.proofs.Crossing.{Arc-send, crosses}
use Rattle.std.proofs.MapsCrossing as maps
use Rattle.std.specs.contracts.option.Option as option
use Rattle.std.specs.contracts.sync.Mutex as mutex
use Rattle.std.specs.contracts.alloc.Global as Heap
use Rattle.std.specs.contracts.collections.BTreeMap as btree
use Rattle.std.specs.contracts.impls.GlobalAllocator.TheImpl.{ghosts}
use Rattle.uuid.specs.contracts.Uuid as uuid
use Rattle.uuid.specs.contracts.UuidOrd.TheImpl as uuid_ord
use Rattle.uuid.specs.contracts.UuidPartialEq.TheImpl as uuid_eq
use Rattle.uuid.specs.contracts.UuidPartialOrd.TheImpl as uuid_partial
use Rattle.id_table.proofs.Crosses.{locked_send, mutex_send, mutex_sync, option_send, table_send}
use Rattle.http_tunnel.proofs.Crosses.{tunnel_send}
use Rattle.http_tunnel.specs.contracts.tunnel.Tunnel as tunnel
use Rattle.service_door.proofs.Crosses.{field_send, session_send}
use Rattle.service_door.specs.contracts.session.Session as session
use Rattle.share_links.specs.contracts.link.Link as link
use Rattle.share_links.specs.contracts.table.LinkTable as links
use Rattle.session_list.proofs.Crosses.{list_send, traffic_send}
use Rattle.thread_pool.proofs.Crosses.{pool_send}
use Rattle.thread_pool.specs.contracts.pool.Pool as pool
use Rattle.gate_model.specs.contracts.faces.Faces as faces
use Rattle.gate_service.specs.contracts.jobs.ConnectionJob as connection
use Rattle.gate_service.specs.contracts.jobs.Pair as pair
use Rattle.gate_service.specs.contracts.jobs.RecorderAddress as address
use Rattle.gate_service.specs.contracts.jobs.Tally as tally
use Rattle.gate_service.specs.contracts.paging.Page as page
use Rattle.gate_service.specs.contracts.seen.Seen as seen
use Rattle.gate_service.specs.contracts.seen.WatchedShelf as watched
use Rattle.gate_service.specs.contracts.tidying.TidyJob as tidy
use Rattle.gate_service.specs.contracts.worker.Worker as worker

-- the ends of a connection, until its job takes them
pair_send : (S K : RattleType) → IsSend S → IsSend K → IsSend (pair.the_row S K)
pair_send S K s k = declared_send (pair.the_type S K) (field_send S s, (field_send K k, tt))

ends_send : (S K : RattleType) → IsSend S → IsSend K → IsSend (mutex.the_row (option.the_row (pair.the_row S K)))
ends_send S K s k = mutex_send _ (option_send _ (pair_send S K s k))

ends_sync : (S K : RattleType) → IsSend S → IsSend K → IsSync (mutex.the_row (option.the_row (pair.the_row S K)))
ends_sync S K s k = mutex_sync _ (option_send _ (pair_send S K s k))

-- where a recorder listens
address_send : IsSend address.the_row
address_send = search (sendable, crosses) depth 20

-- when tunnels were asked for, and the shelf that notes it
looks_send : IsSend (btree.the_field uuid.the_row u64-field.row Heap.the_row uuid_ord.ghosts uuid_eq.ghosts uuid_partial.ghosts ghosts).row
looks_send = maps.BTreeMap-send uuid.the_row u64-field.row uuid_ord.ghosts uuid_eq.ghosts uuid_partial.ghosts (search (sendable, crosses) depth 20) (search (sendable, crosses) depth 20)

seen_send : IsSend seen.the_row
seen_send = declared_send seen.the_type (Arc-send _ (mutex_send _ looks_send) (mutex_sync _ looks_send), tt)

watched_send : IsSend watched.the_row
watched_send = declared_send watched.the_type (locked_send tunnel.the_row tunnel_send, (option_send seen.the_row seen_send, tt))

-- the links
link_send : IsSend link.the_row
link_send = search (sendable, crosses) depth 20

links_send : IsSend links.the_row
links_send = declared_send links.the_type (table_send link.the_row link_send, tt)

shared_links_send : IsSend (mutex.the_row links.the_row)
shared_links_send = mutex_send links.the_row links_send

-- the page
page_send : IsSend page.the_row
page_send = search (sendable, crosses) depth 20

page_sync : IsSync page.the_row
page_sync = search (sendable, crosses) depth 20

-- where a connection is counted
tally_send : IsSend tally.the_row
tally_send = declared_send tally.the_type (list_send, (traffic_send, (traffic_send, tt)))

faces_send : IsSend faces.the_row
faces_send = search sendable depth 20

connection_send : (S K H B L : RattleType) → IsSend S → IsSend K → IsSend H → IsSend B → IsSend L → IsSend (connection.the_row S K H B L)
connection_send S K H B L s k h b l =
    declared_send (connection.the_type S K H B L) (
      search (sendable, crosses),
      (
        Arc-send (mutex.the_row (option.the_row (pair.the_row S K))) (ends_send S K s k) (ends_sync S K s k),
        (
          locked_send session.the_row session_send,
          (watched_send, (Arc-send (mutex.the_row links.the_row) shared_links_send (mutex_sync links.the_row links_send), (field_send H h, (field_send H h, (field_send B b, (option_send address.the_row address_send, (faces_send, (option_send _ (Arc-send page.the_row page_send page_sync), (field_send L l, (tally_send, tt)))))))))),
        ),
      ),
    )

-- a thread's first connection, and where it is given the next
pub worker_send : (S K H B L : RattleType) → IsSend S → IsSend K → IsSend H → IsSend B → IsSend L → IsSend (worker.the_row S K H B L)
worker_send S K H B L s k h b l =
    let job = connection_send S K H B L s k h b l in
    declared_send (worker.the_type S K H B L) (job, (option_send (pool.the_row (connection.the_row S K H B L)) (pool_send (connection.the_row S K H B L) job), tt))

-- the job that gives up what nobody uses
pub tidy_send : (H B L : RattleType) → IsSend H → IsSend B → IsSend L → IsSend (tidy.the_row H B L)
tidy_send H B L h b l =
    declared_send (tidy.the_type H B L) (
      search (sendable, crosses),
      (
        locked_send session.the_row session_send,
        (watched_send, (Arc-send (mutex.the_row links.the_row) shared_links_send (mutex_sync links.the_row links_send), (field_send H h, (field_send H h, (field_send B b, (search (sendable, crosses), (search (sendable, crosses), (field_send L l, (list_send, tt))))))))),
      ),
    )

-- what a closure takes of two values
pub captures_send : (ν : Sym) (A B : RattleType) → IsSend A → IsSend B → IsSend (TupleAt ν (A ∷ B ∷ []))
captures_send ν A B a b = declared_send (type_at ν (A ∷ B ∷ [])) (field_send A a, (field_send B b, tt))
