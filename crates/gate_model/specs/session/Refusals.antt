-- Why a call adds nothing: of its conditions, in their order, the first that holds (this project's
-- own). Want of memory comes after them all, and isn't told here.
use Rattle.std.specs.Prelude.{ℕ, List, [], ◌∷◌, length, Bool, not, ◌&&◌, ◌||◌, ◌==◌, nat_le, nat_lt, is_err, if◌then◌else◌, Option, Some, None, Result, Ok, Err}
use Rattle.std.specs.Option.{option_map}
use Rattle.gate_model.specs.declared.cause.Cause.{Cause}
use Rattle.gate_model.specs.declared.closed.Closed.{Closed}
use Rattle.gate_model.specs.declared.no_viewer.NoViewer.{NoViewer}
use Rattle.gate_model.specs.declared.sharing.Asked.{Asked}
use Rattle.gate_model.specs.declared.sharing.Share.{Share}
use Rattle.gate_model.specs.declared.entry.Entry.TheVariants.{Close}
use Rattle.gate_model.specs.declared.feed_refusal.FeedRefusal.{FeedRefusal}
use Rattle.gate_model.specs.declared.feed_refusal.FeedRefusal.TheVariants.{Closed as feed_closed, Worn as feed_worn}
use Rattle.gate_model.specs.declared.join_refusal.JoinRefusal.{JoinRefusal}
use Rattle.gate_model.specs.declared.join_refusal.JoinRefusal.TheVariants.{Closed as join_closed, Forbidden as join_forbidden, TooMany as join_too_many, Worn as join_worn}
use Rattle.gate_model.specs.declared.read_answer.ReadAnswer.{ReadAnswer}
use Rattle.gate_model.specs.declared.read_answer.ReadAnswer.TheVariants.{Ended, Empty, Hold}
use Rattle.gate_model.specs.declared.read_refusal.ReadRefusal.{ReadRefusal}
use Rattle.gate_model.specs.declared.read_refusal.ReadRefusal.TheVariants.{NoViewer as read_no_viewer, Worn as read_worn}
use Rattle.gate_model.specs.declared.write_refusal.WriteRefusal.{WriteRefusal}
use Rattle.gate_model.specs.declared.write_refusal.WriteRefusal.TheVariants.{NoViewer as write_no_viewer, Closed as write_closed, Worn as write_worn}
use Rattle.gate_model.specs.declared.resize_refusal.ResizeRefusal.{ResizeRefusal}
use Rattle.gate_model.specs.declared.resize_refusal.ResizeRefusal.TheVariants.{NoViewer as resize_no_viewer, Closed as resize_closed, Denied, Same, Worn as resize_worn}
use Rattle.gate_model.specs.session.History.{History, newest, joined, share_mode, size_now, is_closed, is_full}
use Rattle.gate_model.specs.Limits.{most_live, most_joined, most_waiting}
use Rattle.gate_model.specs.session.Delivered.{position, ended}
use Rattle.gate_model.specs.session.Rights.{is_live, live_count, role_in, is_control}
use Rattle.gate_model.specs.session.Waiting.{waiting}
use Rattle.gate_model.specs.session.Roles.{grant_of}

-- the first that is there
abbrev pub first_of : {A : Type 0} → List (Option A) → Option A
first_of {A} [] = None
first_of {A} (None ∷ os) = first_of os
first_of {A} (Some a ∷ os) = Some a

-- there where the condition holds
abbrev pub only_if : {A : Type 0} → Bool → A → Option A
only_if b a = if b then Some a else None

-- the cause of Close
abbrev pub close_cause : History → Option Cause
close_cause [] = None
close_cause (Close cause ∷ g) = Some cause
close_cause (e ∷ g) = close_cause g

-- feed: the session is closed, or full
abbrev pub feed_refusal : History → Option FeedRefusal
feed_refusal h = first_of (
    option_map feed_closed (close_cause h)
    ∷ only_if (is_full h) (feed_worn (length h))
    ∷ [])

-- join: the session is closed; its share mode doesn't allow what was asked; too many are there, or have
-- joined; it is full
abbrev pub is_forbidden : Share → Asked → Bool
is_forbidden mode asked = is_err (grant_of mode asked)

abbrev pub is_crowded : History → Bool
is_crowded h = nat_le most_live (live_count h) || nat_le most_joined (joined h)

abbrev pub join_refusal : History → Asked → Option JoinRefusal
join_refusal h asked = first_of (
    option_map join_closed (close_cause h)
    ∷ only_if (is_forbidden (share_mode h) asked) join_forbidden
    ∷ only_if (is_crowded h) (join_too_many (live_count h) (joined h))
    ∷ only_if (is_full h) (join_worn (length h))
    ∷ [])

-- read: the viewer isn't there; it was given the closing instruction; it has every frame of an open
-- session; in an open session more than 64 stamps wait for its acknowledgement; an open session is full
abbrev pub read_stop : History → ℕ → Option (Result ReadAnswer ReadRefusal)
read_stop h viewer = first_of (
    only_if (not (is_live h viewer)) (Err read_no_viewer)
    ∷ only_if (ended h viewer) (Ok Ended)
    ∷ only_if (not (is_closed h) && position h viewer == newest h) (Ok Empty)
    ∷ only_if (not (is_closed h) && nat_lt most_waiting (waiting h viewer)) (Ok (Hold (waiting h viewer)))
    ∷ only_if (not (is_closed h) && is_full h) (Err (read_worn (length h)))
    ∷ [])

-- write: the viewer isn't there; the session is closed, or full
abbrev pub write_refusal : History → ℕ → Option WriteRefusal
write_refusal h viewer = first_of (
    only_if (not (is_live h viewer)) write_no_viewer
    ∷ option_map write_closed (close_cause h)
    ∷ only_if (is_full h) (write_worn (length h))
    ∷ [])

-- resize: the viewer isn't there; the session is closed; the viewer doesn't have the role Control; the size is in force;
-- the session is full
abbrev pub has_size : History → ℕ → ℕ → Bool
has_size h cols rows = (size_now h).columns == cols && (size_now h).rows == rows

abbrev pub resize_refusal : History → ℕ → ℕ → ℕ → Option ResizeRefusal
resize_refusal h viewer cols rows = first_of (
    only_if (not (is_live h viewer)) resize_no_viewer
    ∷ option_map resize_closed (close_cause h)
    ∷ only_if (not (is_control (role_in h viewer))) Denied
    ∷ only_if (has_size h cols rows) Same
    ∷ only_if (is_full h) (resize_worn (length h))
    ∷ [])

-- leave: the viewer isn't there
abbrev pub leave_refusal : History → ℕ → Option NoViewer
leave_refusal h viewer = only_if (not (is_live h viewer)) record {}

-- close: the session is closed, with the cause that it keeps
abbrev pub close_refusal : History → Option Closed
close_refusal h = option_map (λ kept. record { cause = kept }) (close_cause h)
