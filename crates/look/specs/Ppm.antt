-- A picture as a portable pixmap (PPM, its raw form `P6`, of the Netpbm formats): the size, and then three
-- bytes a pixel.
use Rattle.std.specs.Prelude.{ℕ, zero, suc, List, [], ◌∷◌, ◌++◌, codes, decimal}
use Rattle.gate_model.specs.picture.Layers.{Layer}
use Rattle.canvas.specs.Standing.{dot_at}
use Rattle.canvas.specs.declared.dot.Dot.{Dot}
use Rattle.canvas.specs.declared.dot.Dot.TheVariants.{Outside, Clear, Painted}

-- red, green and blue; a pixel without a colour is black
abbrev pub rgb_of : Dot → List ℕ
rgb_of Outside = 0 ∷ 0 ∷ 0 ∷ []
rgb_of Clear = 0 ∷ 0 ∷ 0 ∷ []
rgb_of (Painted colour) = colour.red ∷ colour.green ∷ colour.blue ∷ []

-- the first pixels of line y, so many
abbrev pub line_of : Layer → ℕ → ℕ → List ℕ
line_of l y zero = []
line_of l y (suc x) = line_of l y x ++ rgb_of (dot_at l x y)

-- the first lines, so many
abbrev pub lines_of : Layer → ℕ → List ℕ
lines_of l zero = []
lines_of l (suc y) = lines_of l y ++ line_of l y l.width

abbrev pub head_of : ℕ → ℕ → List ℕ
head_of width height = codes "P6\n" ++ decimal width ++ codes " " ++ decimal height ++ codes "\n255\n"

abbrev pub ppm_of : Layer → List ℕ
ppm_of l = head_of l.width l.height ++ lines_of l l.height
