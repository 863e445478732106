-- What an intake did (this project's own).
use Rattle.std.specs.Prelude.{◌≡◌, ◌⊎◌, ◌≤◌, ℕ, Bool, true, false, List, [], ◌∷◌, ◌++◌, length, Contains, Option, Some, None, Result, Ok, Err}
use Rattle.std.specs.List.{list_any}
use Rattle.gate_model.specs.declared.act.Act.{Act}
use Rattle.gate_model.specs.declared.act.Act.TheVariants.{Disconnect}
use Rattle.gate_model.specs.declared.entry.Entry.{Entry}
use Rattle.gate_model.specs.declared.entry.Entry.TheVariants.{Close}
use Rattle.gate_model.specs.declared.write_refusal.WriteRefusal.{WriteRefusal}
use Rattle.gate_model.specs.declared.write_refusal.WriteRefusal.TheVariants as written
use Rattle.gate_model.specs.session.History.{History, is_full}
use Rattle.gate_model.specs.session.Steps.{Legal}
use Rattle.gate_model.specs.text.ClientMeaning.{act_of}
use Rattle.gate_outside.specs.Edge.{AtEnd, came}
use Rattle.guac_framing.specs.Found.{IsUnfinished, IsBadAt}
use Rattle.guac_framing.specs.declared.next.BadAt.{BadAt}
use Rattle.guac_handshake.specs.Splits.{IsInstruction, Splits}
use Rattle.turn_lock.specs.declared.view.View.{View}
use Rattle.shared_desk.specs.Own.{own_entries}
use Rattle.viewer_acts.specs.Parts.{AreParts, Part, joined, parts_of}
use Rattle.viewer_acts.specs.Doing.{GoesOn, HasDone, IsStoppedByMemory, StopCause as PartCause, WritesParts}
use Rattle.viewer_acts.specs.Leaving.{HasLeft, LeftNow, MayLeave}
use Rattle.user_serve.specs.declared.ends.IntakeEnd.{IntakeEnd}
use Rattle.user_serve.specs.declared.ends.IntakeEnd.TheVariants.{Disconnected, ReadFault, Bad, Left, Closed, Worn, NoMemory}

-- ---- instructions and their acts

abbrev pub is_disconnect : Option Act → Bool
is_disconnect (Some Disconnect) = true
is_disconnect act = false

abbrev pub act_list : Option Act → List Act
act_list (Some act) = act ∷ []
act_list None = []

-- the acts of instructions, but for those that ask for an end
abbrev pub acts_in : Option Act → List Act
acts_in (Some Disconnect) = []
acts_in act = act_list act

abbrev pub acts_of : List (List (List ℕ)) → List Act
acts_of [] = []
acts_of (values ∷ others) = acts_in (act_of values) ++ acts_of others

-- some instruction asks for an end
abbrev pub ends_in : List (List (List ℕ)) → Bool
ends_in instructions = list_any (λ values. is_disconnect (act_of values)) instructions

-- ---- what the writer's pass gained last

-- the Leave that an intake may add as its last entry: where the viewer had left there is none
abbrev pub MayEnd : IntakeEnd → ℕ → List Entry → Type 0
MayEnd Left viewer leaves = leaves ≡ []
MayEnd Disconnected viewer leaves = MayLeave viewer leaves
MayEnd ReadFault viewer leaves = MayLeave viewer leaves
MayEnd (Bad at) viewer leaves = MayLeave viewer leaves
MayEnd (Closed cause) viewer leaves = MayLeave viewer leaves
MayEnd Worn viewer leaves = MayLeave viewer leaves
MayEnd NoMemory viewer leaves = MayLeave viewer leaves

-- ---- how it ended

-- the acts that were heard and not done: that of one call that was refused, at four ends alone
abbrev pub MayLose : IntakeEnd → List Act → Type 0
MayLose Disconnected lost = lost ≡ []
MayLose ReadFault lost = lost ≡ []
MayLose (Bad at) lost = lost ≡ []
MayLose Left lost = length lost ≤ 1
MayLose (Closed cause) lost = length lost ≤ 1
MayLose Worn lost = length lost ≤ 1
MayLose NoMemory lost = length lost ≤ 1

-- memory was wanting for more bytes of an instruction that isn't whole; or for the call of the one act that is lost
abbrev pub WantsMemory : List Act → List ℕ → Type 0 → Type 0
WantsMemory lost rest stopped = ((lost ≡ []) × IsUnfinished rest) ⊎ ((length lost ≡ 1) × stopped)

-- why it ended, by what was heard and lost, what is unread and left, what its pass has seen, and how a call was
-- stopped by want of memory. An instruction that asks for an end stops it
abbrev pub IntakeCause : IntakeEnd → List (List (List ℕ)) → List Act → List ℕ → Option (List ℕ) → History → Type 0 → Type 0
IntakeCause Disconnected heard lost rest left seen stopped = (ends_in heard ≡ true) ⊎ (IsUnfinished rest × AtEnd left)
IntakeCause ReadFault heard lost rest left seen stopped = IsUnfinished rest
IntakeCause (Bad at) heard lost rest left seen stopped = IsBadAt rest at
IntakeCause Left heard lost rest left seen stopped = Unit {0}
IntakeCause (Closed cause) heard lost rest left seen stopped = Contains seen (Close cause)
IntakeCause Worn heard lost rest left seen stopped = is_full seen ≡ true
IntakeCause NoMemory heard lost rest left seen stopped = WantsMemory lost rest stopped

-- the bytes are whole instructions and then a rest. Before the last of them none asks for an end
pub record Hears (bytes rest : List ℕ) (heard : List (List (List ℕ))) : Type 0 where
  pub splits : Splits bytes heard rest
  pub before : List (List (List ℕ))
  pub last : (heard ≡ before) ⊎ ((values : List (List ℕ)) × (heard ≡ before ++ values ∷ []))
  pub open_before : ends_in before ≡ false

-- its pass, which knew v before and knows w now, gained Writes, Sizes and last a Leave at most. The acts of the
-- instructions of the bytes, up to the one at which it ended, were done in their order, part by part: written, or for a
-- size a Size of its cells, or passed over, after what its pass had seen
pub record IntakeRun (viewer : ℕ) (v w : View Entry) (bytes rest : List ℕ) (left : Option (List ℕ)) (end : IntakeEnd) : Type 0 where
  pub heard : List (List (List ℕ))
  pub hears : Hears bytes rest heard
  pub parts : List Part
  pub are_parts : AreParts parts
  pub gained : List Entry
  pub done : HasDone viewer v w parts gained
  pub leaves : List Entry
  pub last : MayEnd end viewer leaves
  pub own : own_entries w ≡ leaves ++ (gained ++ own_entries v)
  pub lost : List Act
  pub acts : acts_of heard ≡ joined parts ++ lost
  pub loses : MayLose end lost
  pub cause : IntakeCause end heard lost rest left w.seen (IsStoppedByMemory viewer w.mine (gained ++ own_entries v) v.seen w.seen)
  pub gone : HasLeft viewer w.seen

-- ---- before its end

-- all acts that were heard so far were done
pub record HasDoneAll (viewer : ℕ) (v w : View Entry) (bytes rest : List ℕ) : Type 0 where
  pub heard : List (List (List ℕ))
  pub splits : Splits bytes heard rest
  pub no_end : ends_in heard ≡ false
  pub parts : List Part
  pub are_parts : AreParts parts
  pub wrote : WritesParts viewer v w parts
  pub acts : acts_of heard ≡ joined parts

-- why it stops, before the viewer leaves
abbrev pub StopCause : IntakeEnd → ℕ → List (List (List ℕ)) → List Act → List ℕ → Option (List ℕ) → History → Type 0
StopCause Disconnected viewer heard lost rest left seen = (ends_in heard ≡ true) ⊎ (IsUnfinished rest × AtEnd left)
StopCause ReadFault viewer heard lost rest left seen = IsUnfinished rest
StopCause (Bad at) viewer heard lost rest left seen = IsBadAt rest at
StopCause Left viewer heard lost rest left seen = HasLeft viewer seen
StopCause (Closed cause) viewer heard lost rest left seen = Contains seen (Close cause)
StopCause Worn viewer heard lost rest left seen = (is_full seen ≡ true) × Legal seen
StopCause NoMemory viewer heard lost rest left seen = WantsMemory lost rest (PartCause written.NoMemory viewer seen)

pub record HearStop (viewer : ℕ) (v w : View Entry) (bytes rest : List ℕ) (left : Option (List ℕ)) (end : IntakeEnd) : Type 0 where
  pub heard : List (List (List ℕ))
  pub hears : Hears bytes rest heard
  pub parts : List Part
  pub are_parts : AreParts parts
  pub wrote : WritesParts viewer v w parts
  pub lost : List Act
  pub acts : acts_of heard ≡ joined parts ++ lost
  pub loses : MayLose end lost
  pub cause : StopCause end viewer heard lost rest left w.seen

-- ---- one step

-- the end at a call that was refused so
abbrev pub end_of : WriteRefusal → IntakeEnd
end_of written.NoViewer = Left
end_of (written.Closed cause) = Closed cause
end_of (written.Worn entries) = Worn
end_of written.NoMemory = NoMemory

abbrev pub RefusalCause : IntakeEnd → ℕ → History → Type 0
RefusalCause Left viewer seen = HasLeft viewer seen
RefusalCause (Closed cause) viewer seen = Contains seen (Close cause)
RefusalCause Worn viewer seen = (is_full seen ≡ true) × Legal seen
RefusalCause NoMemory viewer seen = PartCause written.NoMemory viewer seen
RefusalCause Disconnected viewer seen = ⊥
RefusalCause ReadFault viewer seen = ⊥
RefusalCause (Bad at) viewer seen = ⊥

pub record IsRefused (viewer : ℕ) (v w : View Entry) (end : IntakeEnd) : Type 0 where
  pub goes_on : GoesOn v w
  pub own : own_entries w ≡ own_entries v
  pub cause : RefusalCause end viewer w.seen

-- one act was done, or refused
abbrev pub HasWritten : ℕ → Act → View Entry → View Entry → Result (Unit {0}) IntakeEnd → Type 0
HasWritten viewer act v w (Ok done) = WritesParts viewer v w (parts_of (act ∷ []))
HasWritten viewer act v w (Err end) = IsRefused viewer v w end

-- what an instruction asks for was done
abbrev pub HasTaken : ℕ → Option Act → View Entry → View Entry → Result (Unit {0}) IntakeEnd → Type 0
HasTaken viewer None v w result = (w ≡ v) × (result ≡ Ok tt)
HasTaken viewer (Some Disconnect) v w result = (w ≡ v) × (result ≡ Err Disconnected)
HasTaken viewer (Some act) v w result = HasWritten viewer act v w result

-- bytes came behind those that are unread; or none, and why
abbrev pub ReadStop : IntakeEnd → Option (List ℕ) → Type 0
ReadStop Disconnected left = AtEnd left
ReadStop ReadFault left = Unit {0}
ReadStop NoMemory left = Unit {0}
ReadStop (Bad at) left = ⊥
ReadStop Left left = ⊥
ReadStop (Closed cause) left = ⊥
ReadStop Worn left = ⊥

abbrev pub HasRead : Option (List ℕ) → Option (List ℕ) → List ℕ → List ℕ → Result (Unit {0}) IntakeEnd → Type 0
HasRead old new before after (Ok done) = (read : List ℕ) × (old ≡ came read new) × (after ≡ before ++ read)
HasRead old new before after (Err end) = (old ≡ new) × (after ≡ before) × ReadStop end new

-- one instruction was taken up, bytes were read, or neither, and why
pub record TookUp (viewer : ℕ) (v w : View Entry) (before after : List ℕ) (result : Result (Unit {0}) IntakeEnd) : Type 0 where
  pub own : List ℕ
  pub values : List (List ℕ)
  pub is_instruction : IsInstruction own values
  pub split : before ≡ own ++ after
  pub taken : HasTaken viewer (act_of values) v w result

pub record ReadMore (v w : View Entry) (old new : Option (List ℕ)) (before after : List ℕ) (result : Result (Unit {0}) IntakeEnd) : Type 0 where
  pub same : w ≡ v
  pub unfinished : IsUnfinished before
  pub read : HasRead old new before after result

pub record FoundBad (v w : View Entry) (before after : List ℕ) (result : Result (Unit {0}) IntakeEnd) : Type 0 where
  pub same : (w ≡ v) × (after ≡ before)
  pub at : BadAt
  pub bad : IsBadAt before at
  pub is : result ≡ Err (Bad at)

pub data HasHeard (viewer : ℕ) (v w : View Entry) (old new : Option (List ℕ)) (before after : List ℕ) (result : Result (Unit {0}) IntakeEnd) : Type 0 where
  Whole : old ≡ new → TookUp viewer v w before after result → HasHeard viewer v w old new before after result
  More : ReadMore v w old new before after result → HasHeard viewer v w old new before after result
  Broken : old ≡ new → FoundBad v w before after result → HasHeard viewer v w old new before after result

-- the viewer leaves at an intake's end, but where it had left
abbrev pub Leaves : IntakeEnd → ℕ → View Entry → View Entry → Type 0
Leaves Left viewer v w = w ≡ v
Leaves Disconnected viewer v w = LeftNow viewer v w
Leaves ReadFault viewer v w = LeftNow viewer v w
Leaves (Bad at) viewer v w = LeftNow viewer v w
Leaves (Closed cause) viewer v w = LeftNow viewer v w
Leaves Worn viewer v w = LeftNow viewer v w
Leaves NoMemory viewer v w = LeftNow viewer v w
