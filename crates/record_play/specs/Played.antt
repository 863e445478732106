-- What a player shows (this project's own).
use Rattle.std.specs.Prelude.{◌≡◌, ℕ, List, slice_index_or}
use Rattle.gate_model.specs.picture.Layers.{draw, nothing}
use Rattle.canvas.specs.Kept.{KeptLayer}
use Rattle.canvas.specs.Standing.{Stands}
use Rattle.record_play.specs.Recorded.{HasRead, Placed, instrs_of, through}
use Rattle.record_play.specs.Syncs.{Recorded}
use Rattle.record_play.specs.declared.sync_at.SyncAt.{SyncAt}

-- the first bytes are whole instructions
pub record IsFront (bytes : List ℕ) (end : ℕ) : Type 0 where
  pub placed : List Placed
  pub read : HasRead bytes placed
  pub to : through placed ≡ end

-- the canvas shows what the instructions of the first bytes draw from nothing
pub record IsDrawn (bytes : List ℕ) (end : ℕ) (kept : List KeptLayer) : Type 0 where
  pub placed : List Placed
  pub read : HasRead bytes placed
  pub to : through placed ≡ end
  pub stands : Stands kept (draw nothing (instrs_of placed))

-- the canvas shows what the recording's instructions through a sync draw
pub record IsPlayedTo (r : Recorded) (k : ℕ) (kept : List KeptLayer) : Type 0 where
  pub sync : SyncAt
  pub is_sync : sync ≡ slice_index_or r.syncs k sync
  pub shows : IsDrawn r.bytes sync.end kept
