-- A call on a pass is one turn: after all that the pass had seen and known, the call's rule answered so and
-- added this entry or none, at a place of this pass's own (this project's own).
use Rattle.std.specs.Prelude.{◌≡◌, ℕ, ◌≤◌, List, [], ◌∷◌, ◌++◌, length, take, None, Result, Ok, Err}
use Rattle.gate_model.specs.declared.answer.Answer.{Answer}
use Rattle.gate_model.specs.declared.answer.Answer.TheVariants.{Take as taken}
use Rattle.gate_model.specs.declared.entry.Entry.{Entry}
use Rattle.gate_model.specs.declared.event.Event.{Event}
use Rattle.gate_model.specs.declared.memory.NoMemory.{NoMemory}
use Rattle.gate_model.specs.declared.taken.Taken.{Taken}
use Rattle.gate_model.specs.session.Calls.{Step, stop_of}
use Rattle.gate_model.specs.session.History.{History}
use Rattle.gate_model.specs.session.Runs.{handed_out}
use Rattle.gate_model.specs.Sequences.{IsLater}
use Rattle.gate_model.specs.session.Steps.{Legal}
use Rattle.gate_model.specs.text.Text.{texts}
use Rattle.turn_lock.specs.Places.{ArePlaces}
use Rattle.turn_lock.specs.Views.{Owns, HasPlaces, knowing}
use Rattle.turn_lock.specs.declared.view.View.{View}
use Rattle.shared_desk.specs.Marks.{mark_of}
use Rattle.shared_desk.specs.Members.{IsSound}

-- the call was answered so after a history by its rule, and added these entries, none or one; a buffer gained
-- the text of what they hand out. Memory ran short where nothing else stopped the call: it added none
abbrev pub Answers : Event → Result Answer NoMemory → List ℕ → List ℕ → History → List Entry → Type 0
Answers event (Ok answer) before after g added = Step g event answer added × (after ≡ before ++ texts (handed_out g event answer added))
Answers event (Err refused) before after g added = (stop_of g event ≡ None) × (added ≡ []) × (after ≡ before)

-- the answer to a take that leaves its buffer so
abbrev pub take_answer : Taken → List ℕ → Result Answer NoMemory
take_answer result into = Ok (taken (take result.count into) result.closed)

-- the places of entries that were added to a history
abbrev pub places_after : History → List Entry → List ℕ
places_after g [] = []
places_after g (e ∷ es) = length (es ++ g) ∷ places_after g es

-- what a pass knows after a turn that found this history and added these entries
abbrev pub after_turn : History → List Entry → View Entry → View Entry
after_turn g added v = record v { seen = added ++ g; mine = places_after g added ++ v.mine }

-- one turn of a pass that knew v before and knows w now
pub record Turned (v w : View Entry) (did : History → List Entry → Type 0) : Type 0 where
  -- the history that the turn found, and what it added
  pub before : History
  pub added : List Entry
  -- it was found after all that the pass had seen and known
  pub later : IsLater v.seen before
  pub known : v.known ≤ length before
  pub legal_before : Legal before
  -- it left a sound history
  pub sound : IsSound (added ++ before)
  -- every entry of the pass's mark that was found stood at one of its own places
  pub within : ArePlaces (length v.seen) v.mine
  pub owns : Owns mark_of before v
  pub did_it : did before added
  pub after : w ≡ after_turn before added v
  pub places : HasPlaces mark_of w

-- a call
abbrev pub Called : View Entry → Event → Result Answer NoMemory → View Entry → Type 0
Called v event answer w = Turned v w (Answers event answer [] [])

-- a call that appends to a buffer
abbrev pub Gives : View Entry → Event → Result Answer NoMemory → View Entry → List ℕ → List ℕ → Type 0
Gives v event answer w before after = Turned v w (Answers event answer before after)

-- a load of the number of entries, which takes no turn: the pass then knows that there are so many
pub record Loads (v : View Entry) (number : ℕ) (w : View Entry) : Type 0 where
  pub seen : length v.seen ≤ number
  pub known : v.known ≤ number
  pub view : w ≡ knowing number v
