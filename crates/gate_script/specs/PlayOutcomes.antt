-- How the words `play` end: what they read and what they wrote, for each status (this project's own).
use Rattle.std.specs.Prelude.{◌≡◌, ◌⊎◌, ℕ, ◌<◌, List, [], length, Option}
use Rattle.gate_model.specs.Sequences.{BeginsWith}
use Rattle.gate_outside.specs.Edge.{AtEnd, GainedFront, came, gained}
use Rattle.record_play.specs.Recorded.{most_recorded}
use Rattle.script_grammar.specs.declared.play_form.PlayForm.{PlayForm}
use Rattle.gate_script.specs.PlayTold.{HasFirstFault, TellsOf, bad_recording_line}
use Rattle.gate_script.specs.declared.stop.Stop.{Stop}
use Rattle.gate_script.specs.declared.stop.Stop.TheVariants.{NoMemory, ReadFault}

-- what is told of the bytes, and the status that comes with it: 0, or 10 and the place of the first fault
abbrev pub IsVerdict : PlayForm → List ℕ → ℕ → List ℕ → Type 0
IsVerdict form bytes status text = ((status ≡ 0) × TellsOf form bytes text) ⊎ ((status ≡ 10) × (place : ℕ) × HasFirstFault form bytes place × (text ≡ bad_recording_line place))

-- the bytes were read to the end of the input, or until there were more than a recording may have
abbrev pub HasEnough : List ℕ → Option (List ℕ) → Type 0
HasEnough bytes left = AtEnd left ⊎ (most_recorded < length bytes)

-- the input was read, and these bytes came
abbrev pub IsRead : Option (List ℕ) → Option (List ℕ) → List ℕ → Type 0
IsRead old new bytes = (old ≡ came bytes new) × HasEnough bytes new

-- the reading stopped behind some bytes, where `Fault` says that the source failed; or no memory was found
abbrev pub StopsBy : Type 0 → Stop → Type 0
StopsBy Fault ReadFault = Fault
StopsBy Fault NoMemory = Unit {0}
StopsBy Fault stop = ⊥

abbrev pub IsUnread : Option (List ℕ) → Option (List ℕ) → Type 0 → Stop → Type 0
IsUnread old new Fault stop = (bytes : List ℕ) × (old ≡ came bytes new) × StopsBy Fault stop

-- how the writing of a text ends, with this status behind it, where `Fault` says that the sink failed
abbrev pub TextEnds : ℕ → List ℕ → ℕ → Type 0 → Option (List ℕ) → Option (List ℕ) → Type 0
TextEnds behind text status Fault old new = ((status ≡ behind) × (new ≡ gained old text)) ⊎ ((status ≡ 5) × Fault × GainedFront old new text)

-- what the words tell of the bytes: to the end of the input, or of its first fault
abbrev pub IsWhole : PlayForm → Option (List ℕ) → List ℕ → List ℕ → Type 0
IsWhole form left bytes text = (AtEnd left × TellsOf form bytes text) ⊎ ((place : ℕ) × HasFirstFault form bytes place × (text ≡ bad_recording_line place))

-- the statuses of `play`
abbrev pub IsPlayStatus : ℕ → Type 0
IsPlayStatus status = (status ≡ 0) ⊎ (status ≡ 4) ⊎ (status ≡ 5) ⊎ (status ≡ 6) ⊎ (status ≡ 10)

-- what each status says of the bytes read and the answers. The frames take nothing
pub record PlayOutcome (status : ℕ) (form : PlayForm) (left : Option (List ℕ)) (bytes a f : List ℕ) : Type 0 where
  pub no_frames : f ≡ []
  pub done : status ≡ 0 → AtEnd left × TellsOf form bytes a
  pub bad_recording : status ≡ 10 → (place : ℕ) × HasFirstFault form bytes place × (a ≡ bad_recording_line place)
  pub read_fault : status ≡ 4 → a ≡ []
  pub write_fault : status ≡ 5 → (text : List ℕ) × IsWhole form left bytes text × BeginsWith text a
  pub memory : status ≡ 6 → a ≡ []
  pub only : IsPlayStatus status

-- what a call read and wrote that writes no frames
pub record ReadAndTold (left left' wrote wrote' : Option (List ℕ)) (P : List ℕ → List ℕ → Type 0) : Type 0 where
  pub bytes : List ℕ
  pub a : List ℕ
  pub read : left ≡ came bytes left'
  pub answered : wrote' ≡ gained wrote a
  pub holds : P bytes a
