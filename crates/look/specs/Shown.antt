-- Which picture of a stream is shown (this project's own).
use Rattle.std.specs.Prelude.{◌≡◌, ℕ, ◌⊎◌, List, [], ◌∷◌, ◌++◌, length, drop, true}
use Rattle.gate_model.specs.declared.instr.Instr.{Instr}
use Rattle.gate_model.specs.declared.instr.Instr.TheVariants.{Sync}
use Rattle.gate_model.specs.picture.Layers.{draw, nothing}
use Rattle.canvas.specs.Kept.{KeptLayer}
use Rattle.canvas.specs.Standing.{Stands}
use Rattle.guac_framing.specs.Found.{IsBadAt, IsUnfinished}
use Rattle.look.specs.Stream.{AreUnasked, HasRead, is_asked, stamps}
use Rattle.look.specs.declared.until.Until.{Until}
use Rattle.look.specs.declared.looked.Marks.{Marks}
use Rattle.look.specs.declared.looked.Looked.{Looked}
use Rattle.look.specs.declared.looked.End.{End}
use Rattle.look.specs.declared.looked.End.TheVariants.{Whole, Cut, Bad}

-- they end with the sync that is marked, and it is among those that are asked for
pub record EndsAsked (until : Until) (marks : Marks) (shown : List Instr) : Type 0 where
  pub before : List Instr
  pub ends : shown ≡ before ++ Sync marks.stamp ∷ []
  pub asked : is_asked until marks.frame marks.stamp ≡ true

-- of a text that was read up to a place: the canvas shows what the instructions up to the marked sync draw
-- from nothing, and none of the syncs behind it is asked for. No sync is marked where none is asked for.
pub record IsShown (text : List ℕ) (until : Until) (marks : Marks) (read : ℕ) (kept : List KeptLayer) (rest : List Instr) : Type 0 where
  pub shown : List Instr
  pub up_to : HasRead text marks.place shown
  pub all : HasRead text read (shown ++ rest)
  pub frame : marks.frame ≡ length (stamps shown)
  pub syncs : marks.syncs ≡ length (stamps (shown ++ rest))
  pub ends : (shown ≡ []) ⊎ EndsAsked until marks shown
  pub unasked : AreUnasked until marks.frame (stamps rest)
  pub stands : Stands kept (draw nothing shown)

-- why the reading ended there
abbrev pub HasEnd : List ℕ → ℕ → End → Type 0
HasEnd text read Whole = read ≡ length text
HasEnd text read Cut = IsUnfinished (drop read text)
HasEnd text read (Bad at) = IsBadAt (drop read text) at

-- what a look found
pub record IsLooked (text : List ℕ) (until : Until) (looked : Looked) : Type 0 where
  pub rest : List Instr
  pub shown : IsShown text until looked.marks looked.read looked.canvas rest
  pub ended : HasEnd text looked.read looked.end
