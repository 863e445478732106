-- The IDs that names give (this project's own).
use Rattle.std.specs.Prelude.{ℕ, List, [], ◌∷◌, nat_eq, if◌then◌else◌, Option, None}
use Rattle.uuid.specs.Text.{parsed}

-- a name is `$`, 36, and an ID in any form (RFC 9562, section 4)
abbrev pub id_of_name : List ℕ → Option (List ℕ)
id_of_name [] = None
id_of_name (c ∷ rest) = if nat_eq c 36 then parsed rest else None
