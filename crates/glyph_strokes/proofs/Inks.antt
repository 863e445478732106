-- The lists of a snapshot, as the code makes them.
use Rattle.std.proofs.Common.{◌≡◌, ℕ, ◌<◌, ℤ, List, [], ◌∷◌, ◌++◌, length, map, refl, arith}
use Rattle.glyph_table.specs.declared.patch.Patch.{Patch}
use Rattle.glyph_strokes.specs.Strokes.{fill, inked, rect_at}

pub inked_none : (k : ℤ) (x y : ℕ) (ps : List Patch) (ink : ℕ) → ps ≡ [] → inked k x y ps ink ≡ []
unfolding inked
inked_none k x y ps ink e = rw e refl

pub inked_some : (k : ℤ) (x y : ℕ) (ps : List Patch) (ink : ℕ) → 0 < length ps → inked k x y ps ink ≡ map (rect_at k x y) ps ++ fill k ink ∷ []
unfolding inked
inked_some k x y [] ink some = absurd (omega arith)
inked_some k x y (p ∷ ps) ink some = refl
