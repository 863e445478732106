-- What a snapshot consists of (this project's own).
use Rattle.std.specs.Prelude.{◌≡◌, ℕ, zero, suc, ◌*◌, ◌/◌, ◌%◌, ◌<◌, pos, negsuc, List, [], ◌∷◌, ◌++◌, length, Bool, true, false, Option, Some, None, slice_get, ◌⊎◌}
use Rattle.gate_model.specs.declared.instr.Instr.{Instr}
use Rattle.gate_model.specs.declared.key.Key.{Key}
use Rattle.gate_model.specs.picture.KeyGrid.{KeyGrid}
use Rattle.gate_model.specs.picture.Pictures.{key_at}
use Rattle.gate_model.specs.picture.Buffers.{Buffers}
use Rattle.frame_draw.specs.Strokes.{cell_copy}
use Rattle.frame_draw.specs.Along.{is_on}
use Rattle.frame_draw.specs.Leads.{Leads}
use Rattle.glyph_strokes.specs.Strokes.{covering}
use Rattle.join_snapshot.specs.Strokes.{buffer_of}

-- what makes the buffer of that number
abbrev pub buffer_made : ℕ → Option Key → List Instr
buffer_made n None = []
buffer_made n (Some key) = buffer_of (negsuc n) key

-- what makes the buffers with the first numbers
abbrev pub buffers_below : Buffers → ℕ → List Instr
buffers_below keys zero = []
buffers_below keys (suc n) = buffers_below keys n ++ buffer_made n (slice_get keys n)

-- what makes every buffer: a cache has at most 1,024
unfoldable pub all_buffers : Buffers → List Instr
all_buffers keys = buffers_below keys 1024

-- the key's buffer is copied to column x of row y
abbrev pub IsCopy : Buffers → Key → ℕ → ℕ → List Instr → Type 0
IsCopy keys key x y strokes = (n : ℕ) × (n < 1024) × (slice_get keys n ≡ Some key) × (strokes ≡ cell_copy (negsuc n) x y ∷ [])

-- the key is drawn at column x of row y: from its buffer, or by rectangles
abbrev pub IsCell : Buffers → Key → ℕ → ℕ → List Instr → Type 0
IsCell keys key x y strokes = IsCopy keys key x y strokes ⊎ (strokes ≡ covering (pos 0) (8 * x) (16 * y) key)

-- the list grew by a cell
pub record AddsCell (keys : Buffers) (key : Key) (x y : ℕ) (list longer : List Instr) : Type 0 where
  pub strokes : List Instr
  pub cell : IsCell keys key x y strokes
  pub added : longer ≡ list ++ strokes

-- .. where the place is wanted
abbrev pub AddsPlace : Buffers → Key → ℕ → ℕ → Bool → List Instr → List Instr → Type 0
AddsPlace keys key x y true list longer = AddsCell keys key x y list longer
AddsPlace keys key x y false list longer = longer ≡ list

-- the list grew by the cells of the first places, row by row, that are wanted
abbrev pub AddsCells : Buffers → KeyGrid → List Bool → List Instr → ℕ → List Instr → Type 0
AddsCells keys now wanted list zero longer = longer ≡ list
AddsCells keys now wanted list (suc n) longer = (before : List Instr) × AddsCells keys now wanted list n before × AddsPlace keys (key_at now.keys n) (n % now.cols) (n / now.cols) (is_on wanted n) before longer

-- blank strips were filled, and then the cells of the other places added
pub record AddsPicture (keys : Buffers) (now : KeyGrid) (wanted : List Bool) (list longer : List Instr) : Type 0 where
  pub between : List Instr
  pub later : List Bool
  pub led : Leads now list wanted between later
  pub added : AddsCells keys now later between (length now.keys) longer
