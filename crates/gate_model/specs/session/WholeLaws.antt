-- Laws about what viewers are given, which public functions of `laws::given` prove.
use Rattle.std.specs.Prelude.{◌≤◌, ℕ, List, ◌∷◌, length}
use Rattle.gate_model.specs.declared.answer.Answer.{Answer}
use Rattle.gate_model.specs.declared.entry.Entry.{Entry}
use Rattle.gate_model.specs.declared.event.Event.{Event}
use Rattle.gate_model.specs.declared.instr.Instr.{Instr}
use Rattle.gate_model.specs.picture.Buffers.{Buffers, AreLayers, Makes}
use Rattle.gate_model.specs.picture.Shape.{AreReadable}
use Rattle.gate_model.specs.terminal.Screens.{shown}
use Rattle.gate_model.specs.session.History.{History, at}
use Rattle.gate_model.specs.session.Calls.{Step}
use Rattle.gate_model.specs.session.Delivered.{delivered}
use Rattle.gate_model.specs.session.Runs.{handed_out}
use Rattle.gate_model.specs.session.Steps.{Legal}
use Rattle.gate_model.specs.session.Truth.{AllDrawn, Faithful, all_layers}
use Rattle.gate_model.specs.session.Whole.{Whole, Restores, AllRestoring, AllGrowing}

-- ---- whole pictures

-- a legal history is whole where each frame draws its screen, each picture restores, and layers keep their sizes
abbrev pub HistoriesAreWhole : Type 0
HistoriesAreWhole = (h : History) → Legal h → AllDrawn h → AllRestoring h → AllGrowing h → Whole h

-- a whole history is true to every viewer
abbrev pub WholeIsFaithful : Type 0
WholeIsFaithful = (h : History) → Whole h → Faithful h

-- where all frames leave the layers of the screen and its buffers, a list restores that makes them of any others
abbrev pub MakingRestores : Type 0
MakingRestores = (h : History) (keys : Buffers) (is : List Instr) → AreLayers (all_layers h) (shown (at h)) keys → Makes is (shown (at h)) keys → Restores h is

-- layers keep their sizes through an entry that leaves at least as many buffers
abbrev pub BuffersKeepSizes : Type 0
BuffersKeepSizes = (h : History) (e : Entry) (before after : Buffers) → Legal (e ∷ h) → length before ≤ length after
    → AreLayers (all_layers h) (shown (at h)) before → AreLayers (all_layers (e ∷ h)) (shown (at (e ∷ h))) after → AllGrowing h → AllGrowing (e ∷ h)

-- ---- text

-- what the viewer v was given in a legal history is read back as it was written
abbrev pub GivenIsReadable : Type 0
GivenIsReadable = (h : History) → Legal h → (v : ℕ) → AreReadable (delivered h v)

-- so is what a call hands out
abbrev pub HandedIsReadable : Type 0
HandedIsReadable = (h : History) (event : Event) (answer : Answer) (added : List Entry) → Legal h → Step h event answer added → AreReadable (handed_out h event answer added)
