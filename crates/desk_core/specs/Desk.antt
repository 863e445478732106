-- What a desk keeps, and the histories that it may stand for: one field for each part (this project's own).
use Rattle.std.specs.Prelude.{◌≡◌, ℕ, ◌≤◌, List, length, Option}
use Rattle.gate_model.specs.declared.cause.Cause.{Cause}
use Rattle.gate_model.specs.declared.entry.Entry.{Entry}
use Rattle.gate_model.specs.declared.setup.Setup.{Setup}
use Rattle.gate_model.specs.session.History.{History, at, bytes, columns, rows, share_mode, terminal_type, capacity}
use Rattle.gate_model.specs.session.Cost.{AllFrugal}
use Rattle.gate_model.specs.session.Output.{out, taken, untaken}
use Rattle.gate_model.specs.session.Refusals.{close_cause}
use Rattle.gate_model.specs.session.Steps.{Legal}
use Rattle.gate_model.specs.session.Truth.{AllDrawn}
use Rattle.gate_model.specs.session.Whole.{AllRestoring, AllGrowing}
use Rattle.viewer_book.specs.Book.{BookState}
use Rattle.desk_core.specs.declared.host.Host.{Host}
use Rattle.desk_core.specs.Host.{HasHeard}
use Rattle.desk_core.specs.Frames.{FramesState, HasFrames}
use Rattle.desk_core.specs.Drawing.{DrawingState, HasDrawn}
use Rattle.desk_core.specs.Viewers.{HasBook}

-- `setup` is what the session was opened with. `host` is what the host's bytes have left, and `outgoing`
-- what waits for it. `frames` has the frames that are kept, `drawing` what the next one is drawn over, and `book` the
-- viewers. `past` is the history, which no memory holds, and `entries` the number of its entries. `cause` is why the
-- session was closed.
pub record DeskState : Type 0 where
  pub setup : Setup
  pub host : Host
  pub outgoing : List ℕ
  pub frames : FramesState
  pub drawing : DrawingState
  pub book : BookState
  pub past : List Entry
  pub entries : ℕ
  pub cause : Option Cause

-- the session was opened so
pub record HasSetup (setup : Setup) (h : History) : Type 0 where
  pub cols : setup.cols ≡ columns h
  pub rows : setup.rows ≡ rows h
  pub mode : setup.mode ≡ share_mode h
  pub term : setup.term ≡ terminal_type h
  pub entries : setup.entries ≡ capacity h

-- these bytes wait for the host
pub record IsWaiting (outgoing : List ℕ) (h : History) : Type 0 where
  pub is : outgoing ≡ untaken h
  pub taken : taken h ≤ length (out h)

-- the host has heard the history's bytes, and its screen is the history's but for the lines that were scrolled
-- before those that it counts
pub record IsHost (host : Host) (h : History) : Type 0 where
  pub scrolled : ℕ
  pub heard : HasHeard host (at h) scrolled (bytes h)

-- the desk stands for the history
pub record Stands (d : DeskState) (h : History) : Type 0 where
  pub legal : Legal h
  pub drawn : AllDrawn h
  pub restoring : AllRestoring h
  pub growing : AllGrowing h
  pub frugal : AllFrugal h
  pub setup : HasSetup d.setup h
  pub host : IsHost d.host h
  pub outgoing : IsWaiting d.outgoing h
  pub frames : HasFrames d.frames h
  pub drawing : HasDrawn d.drawing h
  pub book : HasBook d.book h
  pub past : d.past ≡ h
  pub entries : d.entries ≡ length h
  pub cause : d.cause ≡ close_cause h

-- it stands for some history
abbrev pub IsKept : DeskState → Type 0
IsKept d = (h : History) × Stands d h
