-- Runs of blank places are filled before the other places are copied (this project's own).
use Rattle.std.specs.Prelude.{◌≡◌, ℕ, ◌+◌, ◌%◌, ◌<◌, ◌≤◌, ◌⊎◌, List, [], ◌++◌, length, Bool, false, not, ◌&&◌, ◌==◌, if◌then◌else◌, Some, None}
use Rattle.gate_model.specs.declared.instr.Instr.{Instr}
use Rattle.gate_model.specs.declared.key.Key.{Key}
use Rattle.gate_model.specs.picture.KeyGrid.{KeyGrid}
use Rattle.gate_model.specs.picture.Pictures.{key_at}
use Rattle.gate_model.specs.picture.Layers.{Layers, draw}
use Rattle.gate_model.specs.picture.Shape.{AreReadable, Draws}
use Rattle.gate_model.specs.picture.Buffers.{Buffers}
use Rattle.frame_draw.specs.Cells.{Places, AreDrawn}
use Rattle.frame_draw.specs.Along.{count_below, is_on}

-- what is known of the places, where those that are wanted may show anything, and the others show their key
abbrev pub known : KeyGrid → List Bool → Places
known now flags place = if is_on flags place then None else Some (key_at now.keys place)

-- so many flags tell which places are copied
pub record AreFlags (flags : List Bool) (total : ℕ) (copies : ℕ → Bool) : Type 0 where
  pub all : length flags ≡ total
  pub told : (p : ℕ) → p < total → is_on flags p ≡ copies p

-- some places are drawn, are wanted no more, and took no more instructions than as many copies
pub record Leads (now : KeyGrid) (list : List Instr) (flags : List Bool) (longer : List Instr) (later : List Bool) : Type 0 where
  pub more : List Instr
  pub added : longer ≡ list ++ more
  pub layers : (m : Layers) (keys : Buffers) → AreDrawn m now.cols now.rows (known now flags) keys → AreDrawn (draw m more) now.cols now.rows (known now later) keys
  pub draws : Draws now.cols now.rows [] more
  pub readable : AreReadable more
  pub alike : length later ≡ length flags
  pub off : (p : ℕ) → is_on flags p ≡ false → is_on later p ≡ false
  pub short : length more + count_below (is_on later) (length now.keys) ≤ count_below (is_on flags) (length now.keys)

-- from a place on, so many columns and rows of cells are the places that follow: a part of one row, or whole rows
pub record IsStrip (cols place width height : ℕ) : Type 0 where
  pub form : ((height ≡ 1) × (place % cols + width ≤ cols)) ⊎ ((place % cols ≡ 0) × (width ≡ cols))
  pub wide : 1 ≤ width
  pub high : 1 ≤ height

-- the places from one up to, not including, another aren't wanted any more, and all others are as before
pub record AreStruck (flags later : List Bool) (from to : ℕ) : Type 0 where
  pub alike : length later ≡ length flags
  pub before : (p : ℕ) → p < from → is_on later p ≡ is_on flags p
  pub inside : (p : ℕ) → from ≤ p → p < to → is_on later p ≡ false
  pub after : (p : ℕ) → to ≤ p → is_on later p ≡ is_on flags p

-- a space, of which the paper alone is seen
abbrev pub is_blank : Key → Bool
is_blank key = key.face == 32 && not key.under

-- the places from one up to, not including, another have its key
pub record IsRun (keys : List Key) (from to : ℕ) : Type 0 where
  pub some : from < to
  pub within : to ≤ length keys
  pub same : (p : ℕ) → from ≤ p → p < to → key_at keys p ≡ key_at keys from
