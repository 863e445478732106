-- Which text of a line of frames is looked at (this project's own).
use Rattle.std.specs.Prelude.{ℕ, List, [], nat_eq, if◌then◌else◌, length, drop}
use Rattle.std.specs.List.{starts_with}

-- the text behind a head, a number and a blank, of a line that has it; nothing of any other
abbrev pub text_behind : List ℕ → List ℕ → List ℕ
text_behind head line = if starts_with nat_eq line head then drop (length head) line else []
