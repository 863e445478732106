-- What a sync that is asked for makes of what was seen so far (this project's own).
use Rattle.std.specs.Prelude.{◌≡◌, ℕ, ◌+◌, []}
use Rattle.gate_model.specs.picture.Layers.{Layers, draw}
use Rattle.canvas.specs.Standing.{Stands}
use Rattle.look.specs.declared.looking.View.{View}

-- the instructions that waited were played, and the sync is marked
pub record IsMarked (old : View) (stamp place : ℕ) (new : View) : Type 0 where
  pub marks : new.marks ≡ record { place = place; frame = old.marks.syncs + 1; stamp = stamp; syncs = old.marks.syncs + 1 }
  pub waiting : new.waiting.items ≡ []
  pub played : (m : Layers) → Stands old.canvas m → Stands new.canvas (draw m old.waiting.items)
