-- Which words are those of the service (this project's own): `serve`, and then its options.
use Rattle.std.specs.Prelude.{ℕ, List, [], ◌∷◌, Option, Some, None, codes, bytes_eq, if◌then◌else◌}

-- what stands behind `serve`, where that is the first word
abbrev pub behind_serve : List (List ℕ) → Option (List (List ℕ))
behind_serve [] = None
behind_serve (name ∷ options) = if bytes_eq name (codes "serve") then Some options else None
