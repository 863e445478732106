-- What a clause reads of `Held`.
use Rattle.std.specs.Prelude.{◌≡◌, ℕ, List, [], take, Option}
use Rattle.std.specs.List.{cons_option}
use Rattle.ecma_parser.specs.declared.held.Held.{Held}
use Rattle.gate_model.specs.terminal.Characters.{head_char}
use Rattle.gate_model.specs.text.Reading.{read}

-- the bytes that are held
abbrev pub held_bytes : Held → List ℕ
held_bytes held = take held.count held.bytes

-- the bytes give these characters, and those that wait are held
abbrev pub GivesCharacters : List ℕ → Option ℕ → Option ℕ → Held → Type 0
GivesCharacters bytes first second held = read head_char bytes ≡ (cons_option first (cons_option second []), held_bytes held)
