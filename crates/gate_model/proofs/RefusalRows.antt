-- Worked refusals: a session of at most three entries with its owner.
use Rattle.std.proofs.Common.{◌≡◌, [], ◌∷◌, refl}
use Rattle.std.specs.Prelude.{map, Some, None, Ok, Err}
use Rattle.gate_model.specs.declared.faces.Faces.TheVariants.{Ascii}
use Rattle.gate_model.specs.declared.cause.Cause.TheVariants.{Stopped}
use Rattle.gate_model.specs.declared.how.How.TheVariants.{Suffix}
use Rattle.gate_model.specs.declared.sharing.Role.TheVariants.{Control, View}
use Rattle.gate_model.specs.declared.sharing.Asked.TheVariants.{Owner, View as ask_view}
use Rattle.gate_model.specs.declared.sharing.Share.TheVariants.{Nobody}
use Rattle.gate_model.specs.declared.instr.Instr.TheVariants.{Sync}
use Rattle.gate_model.specs.declared.entry.Entry.TheVariants.{Start, Feed, Size, Join, Read, Leave, Close}
use Rattle.gate_model.specs.declared.feed_refusal.FeedRefusal.TheVariants.{Closed as feed_closed, Worn as feed_worn}
use Rattle.gate_model.specs.declared.join_refusal.JoinRefusal.TheVariants.{Closed as join_closed, Forbidden as join_forbidden, Worn as join_worn}
use Rattle.gate_model.specs.declared.read_answer.ReadAnswer.TheVariants.{Ended, Empty}
use Rattle.gate_model.specs.declared.read_refusal.ReadRefusal.TheVariants.{NoViewer as read_no_viewer, Worn as read_worn}
use Rattle.gate_model.specs.declared.write_refusal.WriteRefusal.TheVariants.{NoViewer as write_no_viewer, Closed as write_closed, Worn as write_worn}
use Rattle.gate_model.specs.declared.resize_refusal.ResizeRefusal.TheVariants.{NoViewer as resize_no_viewer, Closed as resize_closed, Denied, Same, Worn as resize_worn}
use Rattle.gate_model.specs.session.History.{History}
use Rattle.gate_model.specs.session.Refusals.{feed_refusal, join_refusal, read_stop, write_refusal, resize_refusal, leave_refusal, close_refusal}
use Rattle.gate_model.specs.session.Calls.{lacked}

abbrev opened : History
opened = Start 2 1 Nobody [] Ascii 3 1 (Sync 1 ∷ []) ∷ []

abbrev with_owner : History
with_owner = Join 1 Control (Sync 1 ∷ []) ∷ opened

abbrev full : History
full = Feed (65 ∷ []) 2 (Sync 2 ∷ []) ∷ with_owner

abbrev shut : History
shut = Close Stopped ∷ full

abbrev turned : History
turned = Size 1 1 1 2 (Sync 2 ∷ []) ∷ with_owner

abbrev watched : History
watched = Join 2 View (Sync 1 ∷ []) ∷ with_owner

-- feed: a full session tells its entries, and a closed one its cause first
feeds : map feed_refusal (with_owner ∷ full ∷ shut ∷ []) ≡ None ∷ Some (feed_worn 3) ∷ Some (feed_closed Stopped) ∷ []
feeds = refl

-- join: an open session that nobody shares refuses whoever isn't its owner, and tells so before it tells that
-- it is full
owner_joins : map (λ h. join_refusal h Owner) (opened ∷ full ∷ shut ∷ []) ≡ None ∷ Some (join_worn 3) ∷ Some (join_closed Stopped) ∷ []
owner_joins = refl

others_join : map (λ h. join_refusal h ask_view) (opened ∷ full ∷ shut ∷ []) ≡ Some join_forbidden ∷ Some join_forbidden ∷ Some (join_closed Stopped) ∷ []
others_join = refl

-- read: nobody has the numbers 0 and 2; the owner has every frame, or lacks one
nobody_reads : map (read_stop full) (0 ∷ 2 ∷ []) ≡ Some (Err read_no_viewer) ∷ Some (Err read_no_viewer) ∷ []
nobody_reads = refl

owner_reads : map (λ h. read_stop h 1) (with_owner ∷ full ∷ []) ≡ Some (Ok Empty) ∷ Some (Err (read_worn 3)) ∷ []
owner_reads = refl

lacks : map (λ h. lacked h 1) (with_owner ∷ full ∷ []) ≡ 0 ∷ 1 ∷ []
lacks = refl

-- a full session that has nothing more to give is Empty and not worn; a closed session gives all that is left
-- once, and then nothing
last_reads : map (λ h. read_stop h 1) ((Read 1 Suffix ∷ full) ∷ shut ∷ (Read 1 Suffix ∷ shut) ∷ []) ≡ Some (Ok Empty) ∷ None ∷ Some (Ok Ended) ∷ []
last_reads = refl

-- write
owner_writes : map (λ h. write_refusal h 1) (with_owner ∷ full ∷ shut ∷ []) ≡ None ∷ Some (write_worn 3) ∷ Some (write_closed Stopped) ∷ []
owner_writes = refl

nobody_writes : write_refusal shut 2 ≡ Some write_no_viewer
nobody_writes = refl

-- resize: to another size and to the one in force, which is the last Size's
owner_resizes : map (λ h. resize_refusal h 1 1 1) (with_owner ∷ full ∷ shut ∷ turned ∷ []) ≡ None ∷ Some (resize_worn 3) ∷ Some (resize_closed Stopped) ∷ Some Same ∷ []
owner_resizes = refl

owner_keeps : map (λ h. resize_refusal h 1 2 1) (with_owner ∷ full ∷ shut ∷ turned ∷ []) ≡ Some Same ∷ Some Same ∷ Some (resize_closed Stopped) ∷ Some (resize_worn 3) ∷ []
owner_keeps = refl

-- a viewer who looks on is denied first, and whoever isn't there is told so
others_resize : map (λ h. resize_refusal h 2 2 1) (watched ∷ (Close Stopped ∷ watched) ∷ shut ∷ []) ≡ Some Denied ∷ Some (resize_closed Stopped) ∷ Some resize_no_viewer ∷ []
others_resize = refl

-- leave and close
leaves : map (λ h. leave_refusal h 1) (shut ∷ (Leave 1 ∷ shut) ∷ []) ≡ None ∷ Some record {} ∷ []
leaves = refl

closes : map close_refusal (full ∷ shut ∷ []) ≡ None ∷ Some record { cause = Stopped } ∷ []
closes = refl
