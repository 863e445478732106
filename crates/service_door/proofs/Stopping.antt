-- A session that is closed, one that is taken out of the table and stopped, and a viewer that leaves.
use Rattle.std.proofs.Common.{◌≡◌, ℕ, List, Option, Some, None, true, ap, sym, ◌∙◌, subst}
use Rattle.std.specs.Prelude.{IfSome, Ok, Result}
use Rattle.gate_model.specs.session.History.{is_closed}
use Rattle.gate_model.specs.Sequences.{IsLater}
use Rattle.gate_model.specs.declared.answer.Answer.TheVariants.{Close as closed, Leave as left}
use Rattle.gate_model.specs.declared.cause.Cause.{Cause}
use Rattle.gate_model.specs.declared.closed.Closed.{Closed}
use Rattle.gate_model.specs.declared.entry.Entry.{Entry}
use Rattle.gate_model.specs.declared.event.Event.TheVariants.{Close, Leave}
use Rattle.gate_model.specs.declared.no_viewer.NoViewer.{NoViewer}
use Rattle.turn_lock.specs.declared.view.View.{View}
use Rattle.id_table.specs.Maps.{Changed, Told, had}
use Rattle.shared_desk.specs.Called.{Called}
use Rattle.shared_desk.proofs.Lasting.{close_adds, leave_gone, turn_later}
use Rattle.service_door.specs.Doors.{HasLeft, IsStopped, StopsUnder, Table}
use Rattle.service_door.specs.Sessions.{SessionState}
use Rattle.service_door.proofs.Tables.{none_some, same_some}

-- ---- a close and a leave

pub close_at : (v u w : View Entry) (cause : Cause) (r : Result (Unit {0}) Closed) → v ≡ u → Called v (Close cause) (Ok (closed r)) w → Called u (Close cause) (Ok (closed r)) w
close_at v u w cause r is t = subst (λ (x : View Entry). Called x (Close cause) (Ok (closed r)) w) is t

pub close_later : (v w : View Entry) (cause : Cause) (r : Result (Unit {0}) Closed) → Called v (Close cause) (Ok (closed r)) w → IsLater v.seen w.seen
close_later v w cause r t = turn_later v w _ t

pub close_shuts : (v w : View Entry) (cause : Cause) (r : Result (Unit {0}) Closed) → Called v (Close cause) (Ok (closed r)) w → is_closed w.seen ≡ true
close_shuts v w cause r t = let k = close_adds v w cause r t in k.closed

pub has_left : (v w : View Entry) (viewer : ℕ) (r : Result (Unit {0}) NoViewer) → Called v (Leave viewer) (Ok (left r)) w → HasLeft viewer v
has_left v w viewer r t = record { now = w; result = r; called = t; gone = leave_gone v w viewer r t }

-- ---- what a removal tells of what was there

abbrev pub Takes : List ℕ → Option SessionState → Table → Table → Type 0
Takes id r m n = (m id ≡ had r) × Changed id None m n

pub stops_taken : (a b : Option Table) (name : Option (List ℕ)) (id : List ℕ) (x t : SessionState) → name ≡ Some id → Told a b (Takes id (Some x)) → IsStopped x t → IfSome a (StopsUnder name)
stops_taken None b name id x t is taken stopped = tt
stops_taken (Some m) None name id x t is taken stopped = absurd taken
stops_taken (Some m) (Some n) name id x t is taken stopped = λ k e s there.
    let same : id ≡ k = same_some id k (sym is ∙ e) in
    let it : x ≡ s = same_some x s (same_some (Some x) (Some s) (sym taken.0 ∙ (ap m same ∙ there))) in
    (t, subst (λ (y : SessionState). IsStopped y t) it stopped)

pub stops_none : (a b : Option Table) (name : Option (List ℕ)) (id : List ℕ) → name ≡ Some id → Told a b (Takes id None) → IfSome a (StopsUnder name)
stops_none None b name id is taken = tt
stops_none (Some m) None name id is taken = absurd taken
stops_none (Some m) (Some n) name id is taken = λ k e s there. absurd (none_some (Some s) (sym taken.0 ∙ (ap m (same_some id k (sym is ∙ e)) ∙ there)))

pub stops_unnamed : (a : Option Table) (name : Option (List ℕ)) → name ≡ None → IfSome a (StopsUnder name)
stops_unnamed None name is = tt
stops_unnamed (Some m) name is = λ k e s there. absurd (none_some k (sym is ∙ e))
