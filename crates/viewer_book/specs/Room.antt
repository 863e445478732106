-- The room for stamps that wait for a viewer's acknowledgement (this project's own).
use Rattle.std.specs.Prelude.{ℕ}

-- the most that may wait: 64 when a viewer is given more, and then 256 frames, which is one below
abbrev pub room : ℕ
room = 321
