-- What the parts of a call tell of the history (this project's own).
use Rattle.std.specs.Prelude.{◌≡◌, ◌≤◌, ℕ, ◌++◌, List, ◌∷◌, length, drop, None, Some, Result, Ok, Err}
use Rattle.gate_model.specs.declared.act.Act.{Act}
use Rattle.gate_model.specs.declared.entry.Entry.TheVariants.{Read, Write}
use Rattle.gate_model.specs.declared.instr.Instr.{Instr}
use Rattle.gate_model.specs.declared.join_refusal.JoinRefusal.{JoinRefusal}
use Rattle.gate_model.specs.declared.sharing.Asked.{Asked}
use Rattle.gate_model.specs.declared.sharing.Role.{Role}
use Rattle.gate_model.specs.session.Calls.{ShowsNewest, Updates, updated_as}
use Rattle.gate_model.specs.session.Cost.{IsFrugal, picture_cost}
use Rattle.gate_model.specs.session.Delivered.{position}
use Rattle.gate_model.specs.session.History.{History, at, bytes, share_mode, size_now}
use Rattle.gate_model.specs.session.Output.{answered, sent}
use Rattle.gate_model.specs.session.Refusals.{join_refusal}
use Rattle.gate_model.specs.session.Rights.{mods}
use Rattle.gate_model.specs.session.Roles.{grant_of}
use Rattle.gate_model.specs.session.Whole.{IsRestoring, Restores}
use Rattle.desk_core.specs.Drawing.{DrawingState, keys_of}
use Rattle.gate_model.specs.terminal.Screens.{after_controls, completed}
use Rattle.desk_core.specs.Host.{HasHeard}
use Rattle.desk_core.specs.declared.drawing.Drawn.{Drawn}
use Rattle.desk_core.specs.declared.host.Heard.{Heard}
use Rattle.desk_core.specs.declared.desk.update.Update.{Update}
use Rattle.desk_core.specs.declared.typing.Typed.{Typed}

-- the role that a join gives, or why it is refused
abbrev pub Admits : History → Asked → Result Role JoinRefusal → Type 0
Admits h asked (Ok role) = (join_refusal h asked ≡ None) × (grant_of (share_mode h) asked ≡ Ok role)
Admits h asked (Err refusal) = join_refusal h asked ≡ Some refusal

-- the host has heard these bytes too, its screen counts the lines that they scrolled, and this is what they are
-- answered
pub record Follows (h : History) (piece : List ℕ) (r : Heard) : Type 0 where
  pub host : HasHeard r.host (after_controls (at h) (completed (bytes h) piece)) (at h).shift (bytes h ++ piece)
  pub replies : r.replies.items ≡ drop (length (answered h (bytes h))) (answered h (bytes h ++ piece))

-- what is drawn after a frame
abbrev pub drawn_by : Drawn → DrawingState → DrawingState
drawn_by d old = record { screen = d.screen; keys = keys_of d.cache old.keys }

-- the list shows the newest screen, with every glyph buffer, over any layers that a viewer may have, and is short
pub record Pictures (h : History) (is : List Instr) : Type 0 where
  pub shows : ShowsNewest h is
  pub restores : Restores h is
  pub few : length is ≤ picture_cost (size_now h)

-- the viewer is brought up to date by it, and this is what a read answers
pub record Brings (h : History) (viewer : ℕ) (u : Update) : Type 0 where
  pub updates : Updates h (position h viewer) u.how
  pub restores : IsRestoring h (Read viewer u.how)
  pub few : IsFrugal h (Read viewer u.how)
  pub answers : u.answer ≡ updated_as h viewer u.how

-- what the viewer's acts send, and the modifiers that it then holds
pub record Types (h : History) (viewer : ℕ) (acts : List Act) (t : Typed) : Type 0 where
  pub bytes : t.bytes.items ≡ sent h (Write viewer acts)
  pub held : t.held ≡ mods (Write viewer acts ∷ h) viewer
