-- Passes of a session may go to other threads. A function that starts threads, where a closure takes a pass or a
-- reference to one, answers `requires-send-F` by `search`, with the pass's lemma first, since the search would
-- else open the pass: `search (heap_shared, writer_send, sendable, c.type_bounds.sync-R) depth 20`, with
-- `sendable` of `denote.Param.Send`. `heap_shared` is for a closure that takes the allocator.
use mir.Syntax.{given, Lifetime}
use base.Fml.{Lft}
use denote.RattleType.{RattleType}
use denote.Ref.{ShrRef}
use denote.Param.Send.{IsSend, IsSync, Frees, sendable, shr_send, view_send}
use denote.Param.SendFields.{declared_send, declared_sync, variants_send}
use Rattle.std.proofs.Crossing.{Arc-send, crosses, frees, send, sync}
use Rattle.std.specs.declared.alloc.Allocator as alloc
use Rattle.std.specs.contracts.alloc.Global as Heap
use Rattle.std.specs.contracts.option.Option as option
use Rattle.atomic_table.specs.contracts.owned.Table as table
use Rattle.atomic_table.specs.declared.shared.TableRule as rule
use Rattle.atomic_table.proofs.shared.Seat.TheSendSync as seat
use Rattle.atomic_table.proofs.shared.Shared.TheSendSync as shared
use Rattle.atomic_table.proofs.send_lease.SendLease.TheSendSync as lease
use Rattle.ghost_list.specs.contracts.list.GhostList as list
use Rattle.turn_lock.specs.contracts.lock.TurnLock as lock
use Rattle.turn_lock.specs.contracts.pass.Pass as pass
use Rattle.turn_lock.specs.contracts.rule.LockRule as lock_rule
use Rattle.turn_lock.specs.contracts.rule.LockRuleTableRuleOptionViewEntryGhostListEntry.TheImpl.{ghosts}
use Rattle.turn_lock.specs.contracts.view.View as view
use Rattle.turn_lock.specs.declared.kept.Kept.{Ghosts}
use Rattle.gate_model.specs.contracts.entry.Entry as entry
use Rattle.shared_desk.specs.contracts.held.Held as held
use Rattle.shared_desk.specs.contracts.held.HeldKept.TheImpl.{ghosts as kept}
use Rattle.shared_desk.specs.contracts.member.Member as member
use Rattle.shared_desk.specs.contracts.member.Member.TheInside as whole_member
use Rattle.shared_desk.specs.contracts.owners.Owners as owners
use Rattle.shared_desk.specs.contracts.owners.Owners.TheInside as whole_owners
use Rattle.shared_desk.specs.contracts.host.HostPass as host
use Rattle.shared_desk.specs.contracts.host.HostPass.TheInside as whole_host
use Rattle.shared_desk.specs.contracts.link.LinkPass as link
use Rattle.shared_desk.specs.contracts.link.LinkPass.TheInside as whole_link
use Rattle.shared_desk.specs.contracts.sender.SenderPass as sender
use Rattle.shared_desk.specs.contracts.sender.SenderPass.TheInside as whole_sender
use Rattle.shared_desk.specs.contracts.reader.ReaderPass as reader
use Rattle.shared_desk.specs.contracts.reader.ReaderPass.TheInside as whole_reader
use Rattle.shared_desk.specs.contracts.writer.WriterPass as writer
use Rattle.shared_desk.specs.contracts.writer.WriterPass.TheInside as whole_writer
use Rattle.shared_desk.specs.contracts.place.Place as place
use Rattle.shared_desk.proofs.Sends.{held_send}

-- a table of atomic words and slots, by its fields in the order of the struct
module _ (S V K P A : RattleType) (g : rule.Ghosts P.Denot S.Denot V.Denot K.Denot) (a : alloc.Ghosts A.Denot) where
  table_sync : IsSend S → IsSend A → IsSync A → Frees a a.dealloc_token → IsSync (table.the_row S V K P A g a)
  table_sync s send_ sync_ frees_ = declared_sync (table.the_type S V K P A g a) (
    shared.the_sync S V K P g s,
    (
      search sendable,
      (
        search sendable,
        (
          lease.the_sync _ A a send_ frees_,
          (
            lease.the_sync S A a send_ frees_,
            (
              search (sendable, sync_),
              tt,
            ),
          ),
        ),
      ),
    ),
  )

  table_send : IsSend S → IsSend A → Frees a a.dealloc_token → IsSend (table.the_row S V K P A g a)
  table_send s send_ frees_ = declared_send (table.the_type S V K P A g a) (
    shared.the_send S V K P g s,
    (
      search sendable,
      (
        search sendable,
        (
          lease.the_send _ A a send_ frees_,
          (
            lease.the_send S A a send_ frees_,
            (
              search (sendable, send_),
              tt,
            ),
          ),
        ),
      ),
    ),
  )

option_send : (V : RattleType) → IsSend V → IsSend (option.the_row V)
option_send V s = search (sendable, crosses, variants_send, s) depth 20

-- a lock over whatever may go to another thread
lock_sync : (V E : RattleType) (K : Ghosts V.Denot E.Denot) → IsSend V → IsSync (lock.the_row V E K)
lock_sync V E K s = declared_sync (lock.the_type V E K) (table_sync (option.the_row V) (view.the_row E) (list.the_row E) (lock_rule.the_row V) Heap.the_row (ghosts V E K (given 0)) _ (option_send V s) send sync frees, (search (sendable, crosses) depth 20, (search (sendable, crosses) depth 20, tt)))

lock_send : (V E : RattleType) (K : Ghosts V.Denot E.Denot) → IsSend V → IsSend (lock.the_row V E K)
lock_send V E K s = declared_send (lock.the_type V E K) (table_send (option.the_row V) (view.the_row E) (list.the_row E) (lock_rule.the_row V) Heap.the_row (ghosts V E K (given 0)) _ (option_send V s) send frees, (search (sendable, crosses) depth 20, (search (sendable, crosses) depth 20, tt)))

pass_send : (V E : RattleType) → IsSend V → IsSend (pass.the_row V E)
pass_send V E s = declared_send (pass.the_type V E) (seat.the_send (option.the_row V) (view.the_row E) (option_send V s), tt)

-- a reference to the allocator
pub heap_shared : (ℓ : Lifetime) (κ : Lft) → IsSend (ShrRef ℓ κ Heap.the_row)
heap_shared ℓ κ = shr_send ℓ κ Heap.the_row sync

-- the lock over a session's desk
held_lock_sync : IsSync (lock.the_row held.the_row entry.the_row kept)
held_lock_sync = lock_sync held.the_row entry.the_row kept held_send

held_lock_send : IsSend (lock.the_row held.the_row entry.the_row kept)
held_lock_send = lock_send held.the_row entry.the_row kept held_send

whole_member_send : IsSend whole_member.the_row
whole_member_send = declared_send whole_member.the_type (Arc-send (lock.the_row held.the_row entry.the_row kept) held_lock_send held_lock_sync, (search (pass_send, held_send), tt))

member_send : IsSend member.the_row
member_send = view_send whole_member.the_row _ _ _ _ whole_member_send

whole_owners_send : IsSend whole_owners.the_row
whole_owners_send = declared_send whole_owners.the_type (
  Arc-send (lock.the_row held.the_row entry.the_row kept) held_lock_send held_lock_sync,
  (
    Arc-send (lock.the_row held.the_row entry.the_row kept) held_lock_send held_lock_sync,
    tt,
  ),
)

owners_send : IsSend owners.the_row
owners_send = view_send whole_owners.the_row _ _ _ _ whole_owners_send

whole_host_send : IsSend whole_host.the_row
whole_host_send = declared_send whole_host.the_type (member_send, (search (option_send, owners_send), (search sendable, tt)))

pub host_send : IsSend host.the_row
host_send = view_send whole_host.the_row _ _ _ _ whole_host_send

whole_link_send : IsSend whole_link.the_row
whole_link_send = declared_send whole_link.the_type (member_send, tt)

pub link_send : IsSend link.the_row
link_send = view_send whole_link.the_row _ _ _ _ whole_link_send

whole_sender_send : IsSend whole_sender.the_row
whole_sender_send = declared_send whole_sender.the_type (member_send, tt)

pub sender_send : IsSend sender.the_row
sender_send = view_send whole_sender.the_row _ _ _ _ whole_sender_send

whole_reader_send : IsSend whole_reader.the_row
whole_reader_send = declared_send whole_reader.the_type (member_send, (search sendable, tt))

pub reader_send : IsSend reader.the_row
reader_send = view_send whole_reader.the_row _ _ _ _ whole_reader_send

whole_writer_send : IsSend whole_writer.the_row
whole_writer_send = declared_send whole_writer.the_type (member_send, (search sendable, tt))

pub writer_send : IsSend writer.the_row
writer_send = view_send whole_writer.the_row _ _ _ _ whole_writer_send

pub place_send : IsSend place.the_row
place_send = declared_send place.the_type (reader_send, (writer_send, (search sendable depth 20, tt)))
