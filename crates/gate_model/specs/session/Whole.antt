-- Whole pictures: what a viewer was given up to a sync leaves every layer, the glyph buffers too, as all frames up to
-- that sync do (this project's own).
use Rattle.std.specs.Prelude.{◌≡◌, ℕ, List, [], ◌∷◌, ◌++◌, true}
use Rattle.gate_model.specs.declared.entry.Entry.{Entry}
use Rattle.gate_model.specs.declared.entry.Entry.TheVariants.{Join, Read}
use Rattle.gate_model.specs.declared.how.How.TheVariants.{Fresh}
use Rattle.gate_model.specs.declared.instr.Instr.{Instr}
use Rattle.gate_model.specs.declared.instr.Instr.TheVariants.{Sync}
use Rattle.gate_model.specs.Sequences.{BeginsWith}
use Rattle.gate_model.specs.picture.Layers.{Layers, HasNoPaths, Same, ShowsPicture, draw, nothing, visible}
use Rattle.gate_model.specs.picture.Buffers.{IsWithin}
use Rattle.gate_model.specs.terminal.Screens.{shown}
use Rattle.gate_model.specs.session.History.{History, at, upto, has_entry_at}
use Rattle.gate_model.specs.session.Delivered.{delivered}
use Rattle.gate_model.specs.session.Truth.{all_layers}

-- what was given up to the sync t leaves what all frames up to it leave
pub record IsWholeAt (h : History) (front : List Instr) (t : ℕ) : Type 0 where
  pub stamped : has_entry_at h t ≡ true
  pub same : Same (draw nothing (front ++ Sync t ∷ [])) (all_layers (upto h t))

-- of every viewer, whenever it joined, and of every sync that it was given; and at each stamp the layer that is seen
-- shows the screen
pub record Whole (h : History) : Type 0 where
  pub given : (v t : ℕ) (front : List Instr) → BeginsWith (delivered h v) (front ++ Sync t ∷ []) → IsWholeAt h front t
  pub pictures : (t : ℕ) → has_entry_at h t ≡ true → ShowsPicture (all_layers (upto h t) visible) (shown (at (upto h t)))

-- ---- what each entry keeps, so that the history is whole

-- over any layers that have nothing unfilled, and no size where all frames leave none, the list leaves what all
-- frames leave
abbrev pub Restores : History → List Instr → Type 0
Restores g is = (m : Layers) → HasNoPaths m → IsWithin m (all_layers g) → Same (draw m is) (all_layers g)

-- what a Join gives restores, and so does a picture that a Read gives
abbrev pub IsRestoring : History → Entry → Type 0
IsRestoring g (Join viewer role first) = Restores g first
IsRestoring g (Read viewer (Fresh is)) = Restores g is
IsRestoring g e = Unit {0}

abbrev pub AllRestoring : History → Type 0
AllRestoring [] = Unit {0}
AllRestoring (e ∷ g) = AllRestoring g × IsRestoring g e

-- a layer that has a size keeps one
abbrev pub AllGrowing : History → Type 0
AllGrowing [] = Unit {0}
AllGrowing (e ∷ g) = AllGrowing g × IsWithin (all_layers g) (all_layers (e ∷ g))
