-- What it is that a layer shows a screen, as a frame leaves it.
use Rattle.std.specs.Prelude.{◌≡◌, []}
use Rattle.gate_model.specs.picture.KeyGrid.{KeyGrid}
use Rattle.gate_model.specs.picture.Layers.{Layer, ShowsPicture, open_path}

-- the layer shows the screen, and has no rectangle that isn't filled
pub record IsDrawn (l : Layer) (s : KeyGrid) : Type 0 where
  pub shows : ShowsPicture l s
  pub no_path : open_path l ≡ []
