-- What a desk draws with (this project's own).
use Rattle.std.specs.Prelude.{◌≡◌, ℕ, ◌≤◌, List, ◌++◌, length, Option, Some, None}
use Rattle.gate_model.specs.declared.instr.Instr.{Instr}
use Rattle.gate_model.specs.Limits.{most_buffers}
use Rattle.gate_model.specs.picture.KeyGrid.{KeyGrid}
use Rattle.gate_model.specs.picture.Buffers.{AreLayers, Buffers, Renews, new_keys}
use Rattle.gate_model.specs.session.Cost.{changes, cost, keys_shown}
use Rattle.gate_model.specs.terminal.Screens.{shown}
use Rattle.gate_model.specs.picture.Shape.{OpensScreen, Shape}
use Rattle.gate_model.specs.terminal.Terminal.{Terminal}
use Rattle.gate_model.specs.session.History.{History, at}
use Rattle.gate_model.specs.session.Truth.{all_layers}
use Rattle.glyph_cache.specs.Cache.{CacheState}

-- the screen that the newest frame shows, and the key of each glyph buffer, that of layer -1 first
pub record DrawingState : Type 0 where
  pub screen : KeyGrid
  pub keys : Buffers

-- ---- what a frame makes of it

-- the keys of the buffers: those of a cache, where there is a new one
abbrev pub keys_of : Option CacheState → Buffers → Buffers
keys_of None keys = keys
keys_of (Some cache) keys = cache.keys

-- a frame of this stamp makes of what was drawn what shows the screen: the layers are those of the new screen
-- and buffers, of which there are no fewer, and while few keys were shown, the buffers gain just those that are new
pub record DrawsOver (old : DrawingState) (t : Terminal) (stamp : ℕ) (frame : List Instr) (new : DrawingState) : Type 0 where
  pub screen : new.screen ≡ shown t
  pub shape : Shape (shown t).cols (shown t).rows frame stamp
  pub renews : Renews old.screen old.keys frame (shown t) new.keys
  pub stays : length old.keys ≤ length new.keys
  pub gains : length (old.keys ++ new_keys old.keys (shown t).keys) ≤ most_buffers → new.keys ≡ old.keys ++ new_keys old.keys (shown t).keys

-- .. and where the screen has its size still, the frame costs no more than what changed
pub record Draws (old : DrawingState) (t : Terminal) (stamp : ℕ) (frame : List Instr) (new : DrawingState) : Type 0 where
  pub over : DrawsOver old t stamp frame new
  pub costs : length (old.keys ++ new_keys old.keys (shown t).keys) ≤ most_buffers → length frame ≤ cost (length (changes old.screen (shown t) t.shift)) (length (new_keys old.keys (shown t).keys))

-- .. and where it has another, the frame begins with the size of the visible layer
pub record Redraws (old : DrawingState) (t : Terminal) (stamp : ℕ) (frame : List Instr) (new : DrawingState) : Type 0 where
  pub over : DrawsOver old t stamp frame new
  pub opens : OpensScreen frame

-- ---- what it says of the history

-- what is drawn is the history's screen: all frames leave the layers of the screen and the buffers, which hold
-- just the keys that were shown, while these are few
pub record HasDrawn (d : DrawingState) (h : History) : Type 0 where
  pub screen : d.screen ≡ shown (at h)
  pub layers : AreLayers (all_layers h) (shown (at h)) d.keys
  pub held : length (keys_shown h) ≤ most_buffers → d.keys ≡ keys_shown h
