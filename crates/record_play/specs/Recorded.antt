-- What is read of a recording (the Guacamole manual, "The Guacamole protocol"; the order of stamps, the end and the
-- limit are this project's own).
use Rattle.std.specs.Prelude.{◌≡◌, ◌⊎◌, ℕ, ◌+◌, ◌-◌, ◌<◌, ◌≤◌, List, [], ◌∷◌, ◌++◌, length, take, drop, Bool, true, false, Option, Some, None}
use Rattle.gate_model.specs.declared.instr.Instr.{Instr}
use Rattle.gate_model.specs.declared.instr.Instr.TheVariants.{Size, Rect, Cfill, Copy, Sync, Disconnect, Error}
use Rattle.gate_model.specs.text.ServerMeaning.{instr_of}
use Rattle.gate_model.specs.text.Spelling.{Spells}
use Rattle.guac_framing.specs.Found.{IsBadPlace, IsUnfinished}
use Rattle.record_play.specs.Stamps.{stamp_of}
use Rattle.record_play.specs.declared.sync_at.SyncAt.{SyncAt}

-- the most bytes of a recording
abbrev pub most_recorded : ℕ
most_recorded = 67108864

-- an instruction and the number of bytes through it
pub record Placed : Type 0 where
  pub instr : Instr
  pub end : ℕ

-- the number of bytes through the newest of these, which stands first
abbrev pub through : List Placed → ℕ
through [] = 0
through (p ∷ older) = p.end

-- nothing may stand behind it
abbrev pub is_closing : Instr → Bool
is_closing (Size layer width height) = false
is_closing (Rect layer x y width height) = false
is_closing (Cfill layer red green blue) = false
is_closing (Copy from x y width height to to_x to_y) = false
is_closing (Sync stamp) = false
is_closing Disconnect = true
is_closing (Error status) = true

-- the stamp of the newest sync
abbrev pub later_stamp : Option ℕ → Option ℕ → Option ℕ
later_stamp None last = last
later_stamp (Some stamp) last = Some stamp

abbrev pub last_stamp : List Placed → Option ℕ
last_stamp [] = None
last_stamp (p ∷ older) = later_stamp (stamp_of p.instr) (last_stamp older)

-- the newest one ends the recording
abbrev pub is_closed : List Placed → Bool
is_closed [] = false
is_closed (p ∷ older) = is_closing p.instr

-- a stamp, if there is one, is above the last, if there is one
abbrev pub Rises : Option ℕ → Option ℕ → Type 0
Rises last None = Unit {0}
Rises None (Some stamp) = Unit {0}
Rises (Some last) (Some stamp) = last < stamp

-- behind so many bytes these are the elements of an instruction of so many more
pub record SpelledAt (bytes : List ℕ) (before end : ℕ) (elements : List (List ℕ)) : Type 0 where
  pub forward : before ≤ end
  pub within : end ≤ length bytes
  pub spelled : Spells (take (end - before) (drop before bytes)) elements

-- the instruction may stand behind the older ones
pub record MayFollow (older : List Placed) (i : Instr) : Type 0 where
  pub going : is_closed older ≡ false
  pub rises : Rises (last_stamp older) (stamp_of i)

-- behind so many bytes stands this instruction
abbrev pub IsNext : List ℕ → ℕ → Placed → Type 0
IsNext bytes before p = (elements : List (List ℕ)) × SpelledAt bytes before p.end elements × (instr_of elements ≡ Some p.instr)

-- the bytes begin with these instructions, the newest first, and each may stand behind those before it
abbrev pub HasRead : List ℕ → List Placed → Type 0
HasRead bytes [] = Unit {0}
HasRead bytes (p ∷ older) = IsNext bytes (through older) p × MayFollow older p.instr × HasRead bytes older

-- the instructions, the oldest first
abbrev pub instrs_of : List Placed → List Instr
instrs_of [] = []
instrs_of (p ∷ older) = instrs_of older ++ p.instr ∷ []

-- the syncs among them, the oldest first
abbrev pub sync_list : Option ℕ → ℕ → List SyncAt
sync_list None end = []
sync_list (Some stamp) end = record { stamp = stamp; end = end } ∷ []

abbrev pub syncs_of : List Placed → List SyncAt
syncs_of [] = []
syncs_of (p ∷ older) = syncs_of older ++ sync_list (stamp_of p.instr) p.end

-- the bytes are these instructions, with only an unfinished one of so many bytes behind them
pub record IsRecorded (bytes : List ℕ) (placed : List Placed) (cut : ℕ) : Type 0 where
  pub few : length bytes ≤ most_recorded
  pub read : HasRead bytes placed
  pub cut_is : through placed + cut ≡ length bytes
  pub unfinished : (drop (through placed) bytes ≡ []) ⊎ IsUnfinished (drop (through placed) bytes)

-- why the instruction behind these is a fault
pub data IsRefused (placed : List Placed) (meant : Option Instr) : Type 0 where
  Unknown : meant ≡ None → IsRefused placed meant
  Behind : is_closed placed ≡ true → IsRefused placed meant
  Falls : (last stamp : ℕ) → (last_stamp placed ≡ Some last) → (i : Instr) → meant ≡ Some i → stamp_of i ≡ Some stamp → stamp ≤ last → IsRefused placed meant

-- behind these instructions the first fault stands at the place
pub data HasFault (bytes : List ℕ) (placed : List Placed) (place : ℕ) : Type 0 where
  Byte : (own : ℕ) → IsBadPlace (drop (through placed) bytes) own → place ≡ through placed + own → place < most_recorded → HasFault bytes placed place
  Whole : (end : ℕ) (elements : List (List ℕ)) → SpelledAt bytes (through placed) end elements → IsRefused placed (instr_of elements) → place ≡ through placed → place < most_recorded → HasFault bytes placed place
  -- the byte past the limit is there, and nothing before it is a fault
  Long : most_recorded < length bytes → place ≡ most_recorded → (most_recorded ≤ through placed) ⊎ (IsUnfinished (drop (through placed) bytes) ⊎ ((own : ℕ) × IsBadPlace (drop (through placed) bytes) own × (most_recorded ≤ through placed + own))) → HasFault bytes placed place

pub record IsFault (bytes : List ℕ) (place : ℕ) : Type 0 where
  pub placed : List Placed
  pub read : HasRead bytes placed
  pub fault : HasFault bytes placed place
