-- A viewer leaves, once it has joined.
use Rattle.std.proofs.Common.{◌≡◌, inl, inr, ℕ, List, [], ◌∷◌, ◌++◌, false, refl}
use Rattle.std.specs.Prelude.{Result, Ok, Err, is_ok, if◌then◌else◌}
use Rattle.gate_model.specs.declared.answer.Answer.TheVariants.{Leave as was_left}
use Rattle.gate_model.specs.declared.entry.Entry.{Entry}
use Rattle.gate_model.specs.declared.entry.Entry.TheVariants.{Leave}
use Rattle.gate_model.specs.declared.event.Event.TheVariants.{Leave as leave}
use Rattle.gate_model.specs.declared.no_viewer.NoViewer.{NoViewer}
use Rattle.gate_model.specs.session.History.{History}
use Rattle.gate_model.specs.session.Rights.{is_live}
use Rattle.turn_lock.specs.declared.view.View.{View}
use Rattle.shared_desk.specs.Called.{Called, Turned}
use Rattle.shared_desk.specs.Members.{KnowsViewer}
use Rattle.shared_desk.specs.Own.{own_entries}
use Rattle.shared_desk.proofs.Lasting.{leave_gone, left_seen, turn_knows, turn_legal}
use Rattle.viewer_acts.specs.Leaving.{HasLeft, LeftNow}
use Rattle.viewer_acts.proofs.Doings.{call_goes_on}

pub has_left : (viewer : ℕ) (v w : View Entry) (did : History → List Entry → Type 0) → KnowsViewer viewer v → Turned v w did → is_live w.seen viewer ≡ false → HasLeft viewer w.seen
has_left viewer v w did knows t gone = let k = turn_knows viewer v w did t knows in record { gone = gone; left = left_seen viewer k.first w.seen (turn_legal v w did t) k.joined gone }

pub left_now : (viewer : ℕ) (v w : View Entry) (r : Result (Unit {0}) NoViewer) → KnowsViewer viewer v → Called v (leave viewer) (Ok (was_left r)) w → own_entries w ≡ (if is_ok r then Leave viewer ∷ [] else []) ++ own_entries v → LeftNow viewer v w
left_now viewer v w (Ok d) knows t own = record { goes_on = call_goes_on v w (leave viewer) (Ok (was_left (Ok d))) t; leaves = Leave viewer ∷ []; few = inr refl; own = own; legal = turn_legal v w _ t; gone = has_left viewer v w _ knows t (leave_gone v w viewer (Ok d) t) }
left_now viewer v w (Err e) knows t own = record { goes_on = call_goes_on v w (leave viewer) (Ok (was_left (Err e))) t; leaves = []; few = inl refl; own = own; legal = turn_legal v w _ t; gone = has_left viewer v w _ knows t (leave_gone v w viewer (Err e) t) }
