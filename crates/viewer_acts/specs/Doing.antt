-- What became of parts of a viewer's acts (this project's own).
use Rattle.std.specs.Prelude.{◌≡◌, ◌⊎◌, ◌≤◌, ℕ, true, false, List, [], ◌∷◌, ◌++◌, length, drop, Contains, Some, Result, Ok, Err}
use Rattle.gate_model.specs.declared.act.Act.{Act}
use Rattle.gate_model.specs.declared.answer.Answer.TheVariants.{Resize as was_resized}
use Rattle.gate_model.specs.declared.entry.Entry.{Entry}
use Rattle.gate_model.specs.declared.entry.Entry.TheVariants.{Write, Size}
use Rattle.gate_model.specs.declared.event.Event.TheVariants.{Resize as resize}
use Rattle.gate_model.specs.declared.instr.Instr.{Instr}
use Rattle.gate_model.specs.declared.resize_refusal.ResizeRefusal.{ResizeRefusal}
use Rattle.gate_model.specs.declared.resize_refusal.ResizeRefusal.TheVariants as sizing
use Rattle.gate_model.specs.declared.write_refusal.WriteRefusal.{WriteRefusal}
use Rattle.gate_model.specs.declared.write_refusal.WriteRefusal.TheVariants.{NoViewer, Closed, Worn, NoMemory}
use Rattle.gate_model.specs.session.Calls.{Step}
use Rattle.gate_model.specs.session.History.{History, is_closed, is_full}
use Rattle.gate_model.specs.session.Refusals.{close_cause}
use Rattle.gate_model.specs.session.Rights.{is_live}
use Rattle.gate_model.specs.Sequences.{IsLater}
use Rattle.guac_handshake.specs.Asks.{cols_of, rows_of}
use Rattle.turn_lock.specs.declared.view.View.{View}
use Rattle.shared_desk.specs.Own.{entries_at, own_entries}
use Rattle.viewer_acts.specs.Parts.{Part, Others, Sized, parts_of}

-- a change to that many pixels, by the cells that the handshake makes of them, is denied to the viewer after these
-- entries, or leaves the size that is in force
abbrev pub IsPassedOver : ℕ → History → ℕ × ℕ → Type 0
IsPassedOver viewer seen size = let call = resize viewer (cols_of (Some size)) (rows_of (Some size)) in
    Step seen call (was_resized (Err sizing.Denied)) [] ⊎ Step seen call (was_resized (Err sizing.Same)) []

-- what one part adds: a Write of all its acts, a Size of the cells that it asks for, or for a size nothing, where it
-- is passed over after what its pass had seen
abbrev pub Became : ℕ → History → Part → List Entry → Type 0
Became viewer seen (Others acts) added = added ≡ Write viewer acts ∷ []
Became viewer seen (Sized size) [] = IsPassedOver viewer seen size
Became viewer seen (Sized size) (e ∷ []) = (stamp : ℕ) × (frame : List Instr) × (e ≡ Size viewer (cols_of (Some size)) (rows_of (Some size)) stamp frame)
Became viewer seen (Sized size) added = ⊥

-- a part was done, after whose call its pass had seen this: all that it had seen before, and of its own entries, which
-- stand at these places, those that it had before and those that the part added, and none that came later
pub record DoesPart (viewer : ℕ) (mine : List ℕ) (own : List Entry) (before seen : History) (part : Part) (added : List Entry) : Type 0 where
  pub later : IsLater before seen
  pub own_there : entries_at mine seen ≡ added ++ own
  pub became : Became viewer seen part added

-- so were parts, one after the other, and these are the entries that they added, the newest first
abbrev pub Did : ℕ → List ℕ → List Entry → History → History → List Part → List Entry → Type 0
Did viewer mine own before upto [] gained = (gained ≡ []) × IsLater before upto
Did viewer mine own before upto (part ∷ parts) gained =
    (seen : History) × (added : List Entry) × (others : List Entry) × DoesPart viewer mine own before seen part added × (gained ≡ others ++ added) × Did viewer mine (added ++ own) seen upto parts others

-- a pass that knew v knows w now: it has seen more, and the places that it gained lie behind all that it had seen
pub record GoesOn (v w : View Entry) : Type 0 where
  pub later : IsLater v.seen w.seen
  pub places : List ℕ
  pub mine : w.mine ≡ places ++ v.mine
  pub behind : (p : ℕ) → Contains places p → length v.seen ≤ p

-- .. and did these parts, by which it gained these entries
pub record HasDone (viewer : ℕ) (v w : View Entry) (parts : List Part) (gained : List Entry) : Type 0 where
  pub goes_on : GoesOn v w
  pub did : Did viewer w.mine (own_entries v) v.seen w.seen parts gained

-- .. and no other
pub record WritesParts (viewer : ℕ) (v w : View Entry) (parts : List Part) : Type 0 where
  pub gained : List Entry
  pub done : HasDone viewer v w parts gained
  pub own : own_entries w ≡ gained ++ own_entries v

-- ---- a refusal

-- a change of size that was refused so is passed over, or stops
abbrev pub passed_over : ResizeRefusal → Result (Unit {0}) WriteRefusal
passed_over sizing.Denied = Ok tt
passed_over sizing.Same = Ok tt
passed_over sizing.NoViewer = Err NoViewer
passed_over (sizing.Closed cause) = Err (Closed cause)
passed_over (sizing.Worn entries) = Err (Worn entries)
passed_over sizing.NoMemory = Err NoMemory

-- nothing but want of memory stops a write of the viewer
abbrev pub TakesWrites : ℕ → History → Type 0
TakesWrites viewer seen = (is_live seen viewer ≡ true) × (is_closed seen ≡ false) × (is_full seen ≡ false)

-- why a part was refused, by what its pass has seen
abbrev pub StopCause : WriteRefusal → ℕ → History → Type 0
StopCause NoViewer viewer seen = is_live seen viewer ≡ false
StopCause (Closed cause) viewer seen = close_cause seen ≡ Some cause
StopCause (Worn entries) viewer seen = is_full seen ≡ true
StopCause NoMemory viewer seen = TakesWrites viewer seen

-- a refused part added nothing
pub record IsRefused (viewer : ℕ) (v w : View Entry) (refusal : WriteRefusal) : Type 0 where
  pub goes_on : GoesOn v w
  pub own : own_entries w ≡ own_entries v
  pub cause : StopCause refusal viewer w.seen

-- memory stopped the call of a part, and nothing else did, after what its pass had seen then: of its own entries, which
-- stand at these places, these, and none that came later
pub record IsStoppedByMemory (viewer : ℕ) (mine : List ℕ) (own : List Entry) (before seen : History) : Type 0 where
  pub found : History
  pub later : IsLater before found
  pub earlier : IsLater found seen
  pub own_there : entries_at mine found ≡ own
  pub alone : StopCause NoMemory viewer found

-- ---- all acts

-- the first parts were done, and the next one was refused
pub record WritesSome (viewer : ℕ) (v w : View Entry) (acts : List Act) (refusal : WriteRefusal) : Type 0 where
  pub parts : List Part
  pub lost : Part
  pub left : List Part
  pub split : parts_of acts ≡ parts ++ lost ∷ left
  pub wrote : WritesParts viewer v w parts
  pub cause : StopCause refusal viewer w.seen

abbrev pub HasWritten : ℕ → View Entry → View Entry → List Act → Result (Unit {0}) WriteRefusal → Type 0
HasWritten viewer v w acts (Ok done) = WritesParts viewer v w (parts_of acts)
HasWritten viewer v w acts (Err refusal) = WritesSome viewer v w acts refusal

-- .. one of their parts
abbrev pub WritesOne : ℕ → View Entry → View Entry → Part → Result (Unit {0}) WriteRefusal → Type 0
WritesOne viewer v w part (Ok done) = WritesParts viewer v w (part ∷ [])
WritesOne viewer v w part (Err refusal) = IsRefused viewer v w refusal

abbrev pub WritesPart : ℕ → View Entry → View Entry → List Act → Result ℕ WriteRefusal → Type 0
WritesPart viewer v w acts (Ok count) = (part : Part) × (parts_of acts ≡ part ∷ parts_of (drop count acts)) × WritesParts viewer v w (part ∷ [])
WritesPart viewer v w acts (Err refusal) = (part : Part) × (left : List Part) × (parts_of acts ≡ part ∷ left) × IsRefused viewer v w refusal
