-- What the words `play` tell of the bytes read (this project's own).
use Rattle.std.specs.Prelude.{◌≡◌, ℕ, ◌-◌, List, [], ◌∷◌, ◌++◌, length, Bool, if◌then◌else◌, Option, Some, None, codes, slice_get, slice_index_or}
use Rattle.gate_model.specs.picture.Layers.{Layer, draw, nothing, visible}
use Rattle.record_play.specs.Captured.{IsBadStream, IsLogged}
use Rattle.record_play.specs.Recorded.{HasRead, IsFault, IsRecorded, Placed, instrs_of, is_closed, syncs_of, through}
use Rattle.record_play.specs.Syncs.{IsFound}
use Rattle.record_play.specs.declared.fault.RecordFault.{RecordFault}
use Rattle.record_play.specs.declared.fault.RecordFault.TheVariants.{Bad, NoMemory}
use Rattle.record_play.specs.declared.sync_at.SyncAt.{SyncAt}
use Rattle.script_grammar.specs.declared.play_form.PlayForm.{PlayForm}
use Rattle.script_grammar.specs.declared.play_form.PlayForm.TheVariants.{Info, At, Keys}
use Rattle.gate_script.specs.Plays.{rows_sum}
use Rattle.gate_script.specs.Told.{answer_line}

-- ---- the index

-- the first stamp, or a dash
abbrev pub first_line : Option SyncAt → List ℕ
first_line None = answer_line (codes "first -") []
first_line (Some sync) = answer_line (codes "first") (sync.stamp ∷ [])

-- the last stamp, or a dash
abbrev pub last_line : Option SyncAt → List ℕ
last_line None = answer_line (codes "last -") []
last_line (Some sync) = answer_line (codes "last") (sync.stamp ∷ [])

abbrev pub closed_words : Bool → List ℕ
closed_words closed = if closed then codes "closed yes" else codes "closed no"

abbrev pub info_lines : List SyncAt → Bool → ℕ → List ℕ
info_lines syncs closed cut =
    answer_line (codes "syncs") (length syncs ∷ []) ++ first_line (slice_get syncs 0) ++ last_line (slice_get syncs (length syncs - 1))
    ++ answer_line (closed_words closed) [] ++ answer_line (codes "cut") (cut ∷ [])

pub record TellsInfo (bytes answers : List ℕ) : Type 0 where
  pub placed : List Placed
  pub cut : ℕ
  pub read : IsRecorded bytes placed cut
  pub told : answers ≡ info_lines (syncs_of placed) (is_closed placed) cut

-- ---- the picture at a stamp

-- the stamp, the size of layer 0, and the sum of its colours
abbrev pub shown_lines : ℕ → Layer → List ℕ
shown_lines stamp layer = answer_line (codes "stamp") (stamp ∷ []) ++ answer_line (codes "size") (layer.width ∷ layer.height ∷ []) ++ answer_line (codes "sum") (rows_sum layer layer.height ∷ [])

-- of what the instructions through a sync draw from nothing
pub record TellsSync (bytes : List ℕ) (sync : SyncAt) (answers : List ℕ) : Type 0 where
  pub placed : List Placed
  pub read : HasRead bytes placed
  pub to : through placed ≡ sync.end
  pub told : answers ≡ shown_lines sync.stamp (draw nothing (instrs_of placed) visible)

abbrev pub none_line : List ℕ
none_line = answer_line (codes "none") []

-- .. of the sync of this number, or that there is none
abbrev pub TellsFound : List ℕ → List SyncAt → Option ℕ → List ℕ → Type 0
TellsFound bytes syncs None answers = answers ≡ none_line
TellsFound bytes syncs (Some k) answers = (sync : SyncAt) × (sync ≡ slice_index_or syncs k sync) × TellsSync bytes sync answers

pub record TellsAt (bytes : List ℕ) (stamp : ℕ) (answers : List ℕ) : Type 0 where
  pub placed : List Placed
  pub cut : ℕ
  pub read : IsRecorded bytes placed cut
  pub found : Option ℕ
  pub is_found : IsFound (syncs_of placed) stamp found
  pub told : TellsFound bytes (syncs_of placed) found answers

-- ---- the keys

pub record TellsKeys (bytes answers : List ℕ) : Type 0 where
  pub log : List ℕ
  pub logged : IsLogged bytes [] log
  pub told : answers ≡ log ++ codes "\n"

-- ---- by the form of the words

abbrev pub TellsOf : PlayForm → List ℕ → List ℕ → Type 0
TellsOf Info bytes answers = TellsInfo bytes answers
TellsOf (At stamp) bytes answers = TellsAt bytes stamp answers
TellsOf Keys bytes answers = TellsKeys bytes answers

-- where the first fault stands
abbrev pub HasFirstFault : PlayForm → List ℕ → ℕ → Type 0
HasFirstFault Info bytes place = IsFault bytes place
HasFirstFault (At stamp) bytes place = IsFault bytes place
HasFirstFault Keys bytes place = IsBadStream bytes place

-- why nothing is told: the first fault, or want of memory
abbrev pub IsUntold : PlayForm → List ℕ → RecordFault → Type 0
IsUntold form bytes (Bad place) = HasFirstFault form bytes place
IsUntold form bytes NoMemory = Unit {0}

abbrev pub bad_recording_line : ℕ → List ℕ
bad_recording_line place = answer_line (codes "bad recording") (place ∷ [])
