-- What a call of the desk comes to in a turn of a pass.
use Rattle.std.proofs.Common.{◌≡◌, ◌⊎◌, ℕ, ◌<◌, ◌≤◌, List, [], ◌∷◌, length, false, refl, sym, subst, arith}
use Rattle.std.specs.Prelude.{None, Result, nat_lt}
use Rattle.std.proofs.lemmas.Bool.{ltb-true}
use Rattle.gate_model.specs.declared.answer.Answer.{Answer}
use Rattle.gate_model.specs.declared.entry.Entry.{Entry}
use Rattle.gate_model.specs.declared.event.Event.{Event}
use Rattle.gate_model.specs.declared.memory.NoMemory.{NoMemory}
use Rattle.gate_model.specs.session.History.{History}
use Rattle.gate_model.specs.Sequences.{IsLater}
use Rattle.desk_core.specs.Calls.{Ended}
use Rattle.desk_core.specs.Desk.{DeskState, Stands}
use Rattle.turn_lock.specs.declared.view.View.{View}
use Rattle.turn_lock.specs.Places.{ArePlaces}
use Rattle.turn_lock.specs.Views.{with_ticket, entered, passed, HasPlaces, Owns}
use Rattle.shared_desk.specs.declared.held.Held.{Held}
use Rattle.shared_desk.specs.Marks.{mark_of, mark_for}
use Rattle.shared_desk.specs.Called.{Answers, Turned}
use Rattle.shared_desk.specs.Members.{IsEnding, IsSound}
use Rattle.shared_desk.proofs.Turns.{Leaves, leaves, leaves_at, AreCounts, next_entry, same_value, Ends, turned, gave}

-- in a turn whose view is u the desk was called so, which had n entries before and has m after. What the turn's end is told
-- of the buffer, b, is what that was
module _ (u : View Entry) (w0 w1 : Held) (event : Event) (answer : Result Answer NoMemory) (b b0 b1 : List ℕ) (new : DeskState) (n m : ℕ) (is : w1 ≡ w0) (stands : Stands w0.desk u.seen)
    (step : (h : History) → Stands w1.desk h → Ended h event answer w1.desk new b0 b1) (before : (h : History) → Stands w1.desk h → n ≡ length h) (after : (h : History) → Stands new h → m ≡ length h) (front : Leaves event answer b0 b1 u.seen new → b ≡ b0) where
  stood : Stands w1.desk u.seen
  stood = subst (λ (w : Held). Stands w.desk u.seen) (sym is) stands

  counts : AreCounts w1.desk new n m
  counts = record { before = before; after = after }

  called : Leaves event answer b0 b1 u.seen new
  called = leaves event answer b0 b1 u.seen w1.desk new stood (step u.seen stood)

  told : Leaves event answer b b1 u.seen new
  told = leaves_at event answer b0 b b1 u.seen new (front called) called

  -- how it ends: with the entry that it adds, if it does
  pub ends : ((mark_for event ≡ None) ⊎ (u.mark ≡ mark_for event)) → IsEnding (λ e. Answers event answer b b1 u.seen (e ∷ [])) (record { desk = new }) u (nat_lt n m)
  ends may = record {
    added = next_entry u event answer (record { desk = new }) b b1 w1.desk n m stood counts told may;
    same = same_value event answer b b1 u.seen w1.desk new n m stood counts told;
  }

  -- what the turn is
  pub turns : (v0 v w : View Entry) (turn : ℕ) → v ≡ v0 → IsLater v.seen u.seen → v.known ≤ length u.seen → v.ticket ≡ None → v.inside ≡ false → ArePlaces (length v.seen) v.mine → Owns mark_of u.seen u → u ≡ entered u.seen (with_ticket turn v)
      → Ends u w event answer b b1 u.seen (record { desk = new }) (nat_lt n m) → Turned v0 w (Answers event answer b0 b1)
  turns v0 v w turn same later known ticket outside within owns enters ended =
      gave v0 w event answer b b0 b1 (front called)
      (turned v0 v w u u.seen event answer (record { desk = new }) b b1 w1.desk n m same
      (record { later = later; known = known; ticket = ticket; outside = outside; within = within; owns = subst (λ (z : View Entry). Owns mark_of u.seen z) enters owns; legal = stood.legal; turn = turn; entered = enters })
      stood counts told ended)

-- in a turn whose view is u the desk was asked, and is what it was: nothing was added
pub asked_turn : (u : View Entry) (w0 w1 : Held) (event : Event) (answer : Result Answer NoMemory) (text : List ℕ) → w1 ≡ w0 → Stands w0.desk u.seen → ((h : History) → Stands w1.desk h → Ended h event answer w1.desk w1.desk text text)
    → (v0 v w : View Entry) (turn : ℕ) → v ≡ v0 → IsLater v.seen u.seen → v.known ≤ length u.seen → v.ticket ≡ None → v.inside ≡ false → ArePlaces (length v.seen) v.mine → Owns mark_of u.seen u → u ≡ entered u.seen (with_ticket turn v)
    → w ≡ passed u → HasPlaces mark_of w → IsSound w.seen → Turned v0 w (Answers event answer text text)
asked_turn u w0 w1 event answer text is stands step v0 v w turn same later known ticket outside within owns enters ended places sound =
    let n : ℕ = w1.desk.entries in
    turns u w0 w1 event answer text text text w1.desk n n is stands step (λ h s. s.entries) (λ h s. s.entries) (λ k. refl) v0 v w turn same later known ticket outside within owns enters
    (record { added = λ more. absurd (let lt : n < n = ltb-true n n more in omega (arith, lt)); same = λ less. ended; places = places; sound = sound })
