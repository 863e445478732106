-- What answered messages made of the passes of a viewer (this project's own). A message's acts are done part by part, as
-- those of any viewer; then one read is answered.
use Rattle.std.specs.Prelude.{◌≡◌, ◌⊎◌, ℕ, List, [], ◌∷◌, ◌++◌, None, Ok}
use Rattle.gate_model.specs.declared.act.Act.{Act}
use Rattle.gate_model.specs.declared.answer.Answer.TheVariants.{Read as was_read}
use Rattle.gate_model.specs.declared.entry.Entry.{Entry}
use Rattle.gate_model.specs.declared.entry.Entry.TheVariants.{Read}
use Rattle.gate_model.specs.declared.event.Event.TheVariants.{Read as read}
use Rattle.gate_model.specs.declared.how.How.{How}
use Rattle.gate_model.specs.declared.read_answer.ReadAnswer.{ReadAnswer}
use Rattle.gate_model.specs.declared.read_answer.ReadAnswer.TheVariants.{Empty, Hold}
use Rattle.gate_model.specs.session.Calls.{Step, stop_of}
use Rattle.gate_model.specs.session.History.{History}
use Rattle.gate_model.specs.Sequences.{IsLater}
use Rattle.shared_desk.specs.Meetings.{written_by}
use Rattle.viewer_acts.specs.Parts.{AreParts, Part, joined}
use Rattle.viewer_acts.specs.Doing.{Did}

-- the answer gives nothing
abbrev pub IsNothing : ReadAnswer → Type 0
IsNothing Empty = Unit {0}
IsNothing (Hold waiting) = Unit {0}
IsNothing other = ⊥

-- after these entries a read of the viewer is answered with nothing, or the next entry of what was seen is its Read
abbrev pub IsReadAfter : ℕ → History → History → Type 0
IsReadAfter viewer found seen = ((answer : ReadAnswer) × IsNothing answer × Step found (read viewer) (was_read (Ok answer)) []) ⊎ ((how : How) × IsLater (Read viewer how ∷ found) seen)

-- a read found this: it has these Writes and Sizes of the viewer, and no others
pub record WasRead (viewer : ℕ) (written : List Entry) (found seen : History) : Type 0 where
  pub later : IsLater found seen
  pub all : written_by viewer found ≡ written
  pub read : IsReadAfter viewer found seen

-- memory stopped a read, and nothing else did, in a turn that found this: it has these Writes and Sizes of the viewer, and no
-- others
pub record IsReadStopped (viewer : ℕ) (written : List Entry) (before seen : History) : Type 0 where
  pub found : History
  pub later : IsLater before found
  pub earlier : IsLater found seen
  pub all : written_by viewer found ≡ written
  pub alone : stop_of found (read viewer) ≡ None

-- a message of these acts was answered: its parts were done, by which the writer's pass gained these entries, and then a
-- read found them
pub record IsAnswered (viewer : ℕ) (mine : List ℕ) (own : List Entry) (before found seen : History) (acts : List Act) (added : List Entry) : Type 0 where
  pub parts : List Part
  pub are_parts : AreParts parts
  pub acts_are : joined parts ≡ acts
  pub did : Did viewer mine own before found parts added
  pub was_read : WasRead viewer (added ++ own) found seen

-- so were messages, one after the other, and then some parts were done; these are the entries that were gained, the newest
-- first
abbrev pub Answered : ℕ → List ℕ → List Entry → History → History → List (List Act) → List Part → List Entry → Type 0
Answered viewer mine own before seen [] last gained = Did viewer mine own before seen last gained
Answered viewer mine own before seen (acts ∷ messages) last gained =
    (found : History) × (added : List Entry) × (others : List Entry) × IsAnswered viewer mine own before found seen acts added × (gained ≡ others ++ added) × Answered viewer mine (added ++ own) found seen messages last others
