-- What each kind of step tells its pass. `m` is what the pass knows and holds before, `r` the number that was found, and `n` what it knows and holds after (this project's own).
use Rattle.std.specs.Prelude.{◌≡◌, ◌≢◌, ℕ, ◌≤◌, true, List, [], ◌∷◌, length, Option, Some}
use Rattle.atomic_table.specs.Table.{Me, Step}
use Rattle.gate_model.specs.Sequences.{IsLater}
use Rattle.turn_lock.specs.Views.{with_ticket, entered, passed, gained, knowing, MayAdd, HasPlaces}
use Rattle.turn_lock.specs.declared.view.View.{View}

-- a view, and the slot if it is out with the pass
abbrev pub Seated : Type 0 → Type 0 → Type 0
Seated X E = Me (Option X) (View E)

module _ {X E : Type 0} where
  -- the ticket is the number that was expected, where that was found; else nothing changed
  abbrev pub drawn : Step (Option X) → Seated X E → ℕ → Seated X E → Type 0
  drawn st m r n = (n.1 ≡ m.1) × (r ≡ st.first → n.0 ≡ with_ticket st.first m.0) × (r ≢ st.first → n.0 ≡ m.0)

  -- the pass is inside and has the slot, and the value in it stands for all that the pass has seen now
  abbrev pub HasEntered : (X → List E → Type 0) → Seated X E → Seated X E → Type 0
  HasEntered stands m n = (h : List E) × (x : X) × (n ≡ (entered h m.0, (0, Some x) ∷ [])) × IsLater m.0.seen h × (m.0.known ≤ length h) × stands x h

  -- inside where the own ticket is served; else nothing changed. In both cases it tells of the own places, and of what was met
  abbrev pub looked : (X → List E → Type 0) → (E → Option ℕ) → Step (Option X) → Seated X E → ℕ → Seated X E → Type 0
  looked stands mark st m r n = (m.0.ticket ≡ Some r → HasEntered stands m n) × (¬ (m.0.ticket ≡ Some r) → n ≡ m) × HasPlaces mark n.0 × IsLater n.0.met n.0.seen

  -- an entry was added that meets `adds`, and that the pass may add
  abbrev pub raised : (E → Type 0) → (E → Option ℕ) → Step (Option X) → Seated X E → ℕ → Seated X E → Type 0
  raised adds mark st m r n = (e : E) × adds e × MayAdd mark m.0 e × (n ≡ (gained e m.0, m.1))

  -- the slot was given back
  abbrev pub passed_on : (E → Option ℕ) → Step (Option X) → Seated X E → ℕ → Seated X E → Type 0
  passed_on mark st m r n = (n ≡ (passed m.0, [])) × HasPlaces mark n.0

  -- the number found is known
  abbrev pub counted : Step (Option X) → Seated X E → ℕ → Seated X E → Type 0
  counted st m r n = (n ≡ (knowing r m.0, m.1)) × (length m.0.seen ≤ r) × (m.0.known ≤ r)

  -- nothing changed. Inside, the number found is that of all that the pass has seen. What was met begins what was seen
  abbrev pub told : Step (Option X) → Seated X E → ℕ → Seated X E → Type 0
  told st m r n = (n ≡ m) × (m.0.inside ≡ true → r ≡ length m.0.seen) × IsLater m.0.met m.0.seen × (m.0.known ≤ r)
