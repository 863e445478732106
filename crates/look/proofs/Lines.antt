-- A pixmap that grows by a pixel, and by a line.
use Rattle.std.proofs.Common.{◌≡◌, ℕ, ◌+◌, List, ◌++◌, ap, sym, ◌∙◌, append_assoc, add-one}
use Rattle.gate_model.specs.picture.Layers.{Layer}
use Rattle.canvas.specs.Standing.{dot_at}
use Rattle.look.specs.Ppm.{line_of, lines_of, rgb_of}

pub line_more : (l : Layer) (y x : ℕ) (into old new rgb : List ℕ) → new ≡ into ++ rgb → into ≡ old ++ line_of l y x → rgb ≡ rgb_of (dot_at l x y) → new ≡ old ++ line_of l y (x + 1)
line_more l y x into old new rgb e f g =
    e ∙ ap (λ (i : List ℕ). i ++ rgb) f ∙ append_assoc old (line_of l y x) rgb ∙ ap (λ (r : List ℕ). old ++ (line_of l y x ++ r)) g ∙ ap (λ n. old ++ line_of l y n) (sym (add-one x))

pub lines_more : (l : Layer) (y width : ℕ) (into old new : List ℕ) → new ≡ into ++ line_of l y width → into ≡ old ++ lines_of l y → width ≡ l.width → new ≡ old ++ lines_of l (y + 1)
lines_more l y width into old new e f g =
    e ∙ ap (λ (i : List ℕ). i ++ line_of l y width) f ∙ append_assoc old (lines_of l y) (line_of l y width) ∙ ap (λ w. old ++ (lines_of l y ++ line_of l y w)) g ∙ ap (λ n. old ++ lines_of l n) (sym (add-one y))
