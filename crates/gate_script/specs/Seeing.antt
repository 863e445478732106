-- The canvases on which a session plays what each viewer is given (this project's own). Viewer 1's stands
-- first, and the place of one that has left is empty.
use Rattle.std.specs.Prelude.{◌≡◌, ◌≢◌, ℕ, ◌-◌, ◌<◌, ◌==◌, Bool, true, false, ◌&&◌, List, [], ◌∷◌, ◌++◌, length, slice_index_or, if◌then◌else◌, Option, Some, None, IfSome}
use Rattle.std.specs.Option.{is_some}
use Rattle.gate_model.specs.declared.instr.Instr.{Instr}
use Rattle.gate_model.specs.session.History.{History, joined}
use Rattle.gate_model.specs.picture.Layers.{Layers, Same, draw, nothing}
use Rattle.gate_model.specs.session.Rights.{is_live}
use Rattle.gate_model.specs.text.Text.{texts}
use Rattle.canvas.specs.Kept.{KeptLayer}
use Rattle.canvas.specs.Standing.{Stands}
use Rattle.gate_model.specs.picture.Shape.{AreReadable}
use Rattle.gate_script.specs.declared.sight.Sight.{Sight}
use Rattle.gate_script.specs.declared.sight.Sight.TheVariants.{Played}
use Rattle.gate_script.specs.Plays.{seen}

abbrev pub Canvases : Type 0
Canvases = List (Option (List KeptLayer))

-- the canvas of a viewer, if it has one
abbrev pub canvas_at : Canvases → ℕ → Option (List KeptLayer)
canvas_at canvases viewer = if viewer == 0 then None else slice_index_or canvases (viewer - 1) None

-- there is a place for each viewer that joined; those that are there have a canvas, and it shows what they
-- were given
pub record AreShown (canvases : Canvases) (h : History) : Type 0 where
  pub count : length canvases ≡ joined h
  pub there : (v : ℕ) → is_some (canvas_at canvases v) ≡ is_live h v
  pub shows : (v : ℕ) → IfSome (canvas_at canvases v) (λ canvas. Stands canvas (seen h v))

-- so it is where what viewers see is played; where it isn't, nothing is said of canvases
abbrev pub AreSeen : Sight → Canvases → History → Type 0
AreSeen sight canvases h = sight ≡ Played → AreShown canvases h

-- a canvas was added on which the text was played
pub record AddsCanvas (old new : Canvases) (text : List ℕ) : Type 0 where
  pub canvas : List KeptLayer
  pub plays : (is : List Instr) → AreReadable is → text ≡ texts is → Stands canvas (draw nothing is)
  pub grown : new ≡ old ++ Some canvas ∷ []

-- at most the place of this viewer has changed
pub record KeepOthers (old new : Canvases) (viewer : ℕ) : Type 0 where
  pub count : length new ≡ length old
  pub others : (v : ℕ) → v ≢ viewer → canvas_at new v ≡ canvas_at old v

-- the text was played on the viewer's canvas, if it has one
pub record PlaysOn (old new : Canvases) (viewer : ℕ) (text : List ℕ) : Type 0 where
  pub kept : KeepOthers old new viewer
  pub there : is_some (canvas_at new viewer) ≡ is_some (canvas_at old viewer)
  pub plays : (is : List Instr) (m : Layers) → AreReadable is → text ≡ texts is → IfSome (canvas_at old viewer) (λ canvas. Stands canvas m) → IfSome (canvas_at new viewer) (λ canvas. Stands canvas (draw m is))

-- the viewer's canvas was taken away
pub record TakesAway (old new : Canvases) (viewer : ℕ) : Type 0 where
  pub kept : KeepOthers old new viewer
  pub gone : canvas_at new viewer ≡ None

-- two canvases show the same, if both are there
abbrev pub AreAlike : Option (List KeptLayer) → Option (List KeptLayer) → Type 0
AreAlike one other = (m n : Layers) → IfSome one (λ canvas. Stands canvas m) → IfSome other (λ canvas. Stands canvas n) → (is_some one && is_some other) ≡ true → Same m n

-- both are there, and they don't
pub record AreUnlike (one other : Option (List KeptLayer)) : Type 0 where
  pub there : (is_some one && is_some other) ≡ true
  pub differ : (m n : Layers) → IfSome one (λ canvas. Stands canvas m) → IfSome other (λ canvas. Stands canvas n) → Same m n → ⊥

-- whether the canvases show what the first one shows, if that is there
abbrev pub AgreeWithFirst : Canvases → Bool → Type 0
AgreeWithFirst canvases true = (place : ℕ) → place < length canvases → AreAlike (slice_index_or canvases 0 None) (slice_index_or canvases place None)
AgreeWithFirst canvases false = (place : ℕ) × AreUnlike (slice_index_or canvases 0 None) (slice_index_or canvases place None)
