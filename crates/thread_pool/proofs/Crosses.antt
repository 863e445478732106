-- The pool may go to other threads, where its jobs may.
use denote.RattleType.{RattleType}
use denote.Param.Send.{IsSend, IsSync, sendable}
use denote.Param.SendFields.{declared_send, declared_sync, variants_send}
use Rattle.std.proofs.Crossing.{Arc-send, Vec-send, crosses}
use Rattle.std.specs.contracts.option.Option as option
use Rattle.std.specs.contracts.sync.Mutex as mutex
use Rattle.thread_pool.specs.contracts.pool.Pool as pool
use Rattle.thread_pool.specs.contracts.pool.Shared as shared
use Rattle.thread_pool.specs.contracts.waiting.Seat as seat
use Rattle.thread_pool.specs.contracts.waiting.Waiting as waiting
use Rattle.wake_spot.specs.contracts.spot.Spot as spot

mutex_send : (T : RattleType) → IsSend T → IsSend (mutex.the_row T)
mutex_send T t = search (crosses, t) depth 10

mutex_sync : (T : RattleType) → IsSend T → IsSync (mutex.the_row T)
mutex_sync T t = search (crosses, t) depth 10

job_send : (J : RattleType) → IsSend J → IsSend (option.the_row J)
job_send J j = search (sendable, crosses, variants_send, j) depth 20

spot_send : IsSend spot.the_row
spot_send = search (sendable, crosses) depth 20

spot_sync : IsSync spot.the_row
spot_sync = search (sendable, crosses) depth 20

-- where one thread waits
seat_send : (J : RattleType) → IsSend J → IsSend (seat.the_row J)
seat_send J j = declared_send (seat.the_type J) (search (sendable, crosses), (mutex_send _ (job_send J j), (spot_send, tt)))

seat_sync : (J : RattleType) → IsSend J → IsSync (seat.the_row J)
seat_sync J j = declared_sync (seat.the_type J) (search (sendable, crosses), (mutex_sync _ (job_send J j), (spot_sync, tt)))

-- all who wait
waiting_send : (J : RattleType) → IsSend J → IsSend (waiting.the_row J)
waiting_send J j = declared_send (waiting.the_type J) (Vec-send _ (Arc-send (seat.the_row J) (seat_send J j) (seat_sync J j)), tt)

shared_send : (J : RattleType) → IsSend J → IsSend (shared.the_row J)
shared_send J j = declared_send (shared.the_type J) (mutex_send _ (waiting_send J j), (search (sendable, crosses) depth 20, tt))

shared_sync : (J : RattleType) → IsSend J → IsSync (shared.the_row J)
shared_sync J j = declared_sync (shared.the_type J) (mutex_sync _ (waiting_send J j), (search (sendable, crosses) depth 20, tt))

pub pool_send : (J : RattleType) → IsSend J → IsSend (pool.the_row J)
pool_send J j =
    declared_send (pool.the_type J) (
      search (sendable, crosses),
      (search (sendable, crosses) depth 20, (Arc-send (shared.the_row J) (shared_send J j) (shared_sync J j), tt)),
    )
