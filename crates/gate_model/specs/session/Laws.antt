-- Laws about the definitions, which public functions of `laws` prove.
use Rattle.std.specs.Prelude.{◌≡◌, ℕ, ◌<◌, ◌≤◌, ◌^◌, List, [], ◌∷◌, ◌++◌, length, true, filter}
use Rattle.std.specs.List.{range_with_len}
use Rattle.gate_model.specs.declared.instr.Instr.{Instr}
use Rattle.gate_model.specs.declared.entry.Entry.{Entry}
use Rattle.gate_model.specs.declared.event.Event.{Event}
use Rattle.gate_model.specs.declared.answer.Answer.{Answer}
use Rattle.gate_model.specs.text.Reading.{Head, IsHead, Resumes}
use Rattle.gate_model.specs.text.Text.{texts}
use Rattle.gate_model.specs.picture.Layers.{Layers, HasNoPaths, draw}
use Rattle.gate_model.specs.picture.Shape.{Shape}
use Rattle.gate_model.specs.session.History.{History, joined}
use Rattle.gate_model.specs.session.Rights.{is_live, live_count}
use Rattle.gate_model.specs.session.Steps.{Legal}
use Rattle.gate_model.specs.session.Calls.{Step}

-- to draw one list after the other is to draw both
abbrev pub DrawingGoesOn : Type 0
DrawingGoesOn = (m : Layers) (first second : List Instr) → draw m (first ++ second) ≡ draw (draw m first) second

-- the text of two lists, one after the other
abbrev pub TextGoesOn : Type 0
TextGoesOn = (first second : List Instr) → texts (first ++ second) ≡ texts first ++ texts second

-- every head reads the same however its list is cut
abbrev pub ReadsAnyCutting : Type 0
ReadsAnyCutting = (head : Head ℕ ℕ) → IsHead head → Resumes head

-- the entry that a call adds makes a longer legal history
abbrev pub StepsAreLegal : Type 0
StepsAreLegal = (h : History) (event : Event) (answer : Answer) (e : Entry) → Legal h → Step h event answer (e ∷ []) → Legal (e ∷ h)

-- a legal history has fewer than 2^62 entries
abbrev pub EntriesAreFew : Type 0
EntriesAreFew = (h : History) → Legal h → length h < 2 ^ 62

-- the number of live viewers is the number of those that are there
abbrev pub LiveAreCounted : Type 0
LiveAreCounted = (h : History) → Legal h → live_count h ≡ length (filter (is_live h) (range_with_len 1 (joined h)))

-- .. each of which has a number of those that joined
abbrev pub LiveHaveJoined : Type 0
LiveHaveJoined = (h : History) → Legal h → (v : ℕ) → is_live h v ≡ true → (1 ≤ v) × (v ≤ joined h)

-- a frame that begins with no unfilled path on any layer leaves none
abbrev pub FramesLeaveNoPath : Type 0
FramesLeaveNoPath = (cols rows t : ℕ) (is : List Instr) (m : Layers) → Shape cols rows is t → HasNoPaths m → HasNoPaths (draw m is)
