-- The number that a key is hashed by.
use Rattle.std.specs.Prelude.{ℕ, ◌+◌, ◌*◌, if◌then◌else◌}
use Rattle.gate_model.specs.declared.key.Key.{Key}

-- the parts of a key side by side
abbrev pub packed : Key → ℕ
packed key = (key.face * 2 + (if key.under then 1 else 0)) * 65536 + (key.ink * 256 + key.paper)
