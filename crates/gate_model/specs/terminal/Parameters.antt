-- The parameters of a control sequence (ECMA-48, section 5.4.2; the limits are this project's own).
use Rattle.std.specs.Prelude.{ℕ, ◌++◌, List, [], ◌∷◌, length, take, drop, map, replicate, min, Bool, false, ◌||◌, ◌==◌, if◌then◌else◌}
use Rattle.std.specs.Char.{is_ascii_digit}
use Rattle.std.specs.List.{slice_split}
use Rattle.std.specs.Str.Parse.{digits_value}
use Rattle.gate_model.specs.declared.control.Params.{Params}

-- `;` stands between two parameters
abbrev pub is_separator : ℕ → Bool
is_separator c = c == 0x3B

-- `?` before the parameters marks a private sequence
abbrev pub private_mark : List ℕ → Bool
private_mark [] = false
private_mark (c ∷ cs) = c == 0x3F

-- the parameters after such a mark
abbrev pub without_mark : List ℕ → List ℕ
without_mark text = if private_mark text then drop 1 text else text

-- what may stand in the parameters of a sequence that has an effect
abbrev pub is_plain : ℕ → Bool
is_plain c = is_ascii_digit c || is_separator c

-- what a default is stored as
abbrev pub default : ℕ
default = 65535

-- the value of a parameter's digits, at most 9,999
abbrev pub value : List ℕ → ℕ
value [] = default
value (c ∷ cs) = min 9999 (digits_value 10 (c ∷ cs))

-- the parameters as they are written
abbrev pub parts : List ℕ → List (List ℕ)
parts = slice_split is_separator

-- the first sixteen parameters; the places after the last hold defaults
abbrev pub params_of : List ℕ → Params
params_of text = record { values = take 16 (map value (parts text) ++ replicate 16 default); count = min 16 (length (parts text)) }
