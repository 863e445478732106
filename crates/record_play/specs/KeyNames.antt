-- The names of keys in a log (keysyms and names of the X Window System; that a log names them so is this project's
-- own).
use Rattle.std.specs.Prelude.{ℕ, List, [], ◌∷◌, ◌++◌, ◌==◌, if◌then◌else◌, Option, Some, None, codes, false}
use Rattle.std.specs.Char.{encode_utf8}
use Rattle.std.specs.Fmt.{digits}
use Rattle.gate_model.specs.keys.Keysyms.{code_point}

-- F1 to F12; no name for any other key
abbrev pub function_name : ℕ → List ℕ
function_name keysym =
    if keysym == 0xFFBE then codes "F1" else (
    if keysym == 0xFFBF then codes "F2" else (
    if keysym == 0xFFC0 then codes "F3" else (
    if keysym == 0xFFC1 then codes "F4" else (
    if keysym == 0xFFC2 then codes "F5" else (
    if keysym == 0xFFC3 then codes "F6" else (
    if keysym == 0xFFC4 then codes "F7" else (
    if keysym == 0xFFC5 then codes "F8" else (
    if keysym == 0xFFC6 then codes "F9" else (
    if keysym == 0xFFC7 then codes "F10" else (
    if keysym == 0xFFC8 then codes "F11" else (
    if keysym == 0xFFC9 then codes "F12" else [])))))))))))

-- the other keys that stand for no character and send bytes
abbrev pub editing_name : ℕ → List ℕ
editing_name keysym =
    if keysym == 0xFF08 then codes "BackSpace" else (
    if keysym == 0xFF09 then codes "Tab" else (
    if keysym == 0xFF0D then codes "Return" else (
    if keysym == 0xFF8D then codes "KP_Enter" else (
    if keysym == 0xFF1B then codes "Escape" else (
    if keysym == 0xFF52 then codes "Up" else (
    if keysym == 0xFF54 then codes "Down" else (
    if keysym == 0xFF53 then codes "Right" else (
    if keysym == 0xFF51 then codes "Left" else (
    if keysym == 0xFF50 then codes "Home" else (
    if keysym == 0xFF63 then codes "Insert" else (
    if keysym == 0xFFFF then codes "Delete" else (
    if keysym == 0xFF57 then codes "End" else (
    if keysym == 0xFF55 then codes "Page_Up" else (
    if keysym == 0xFF56 then codes "Page_Down" else function_name keysym))))))))))))))

-- a name, or the number where there is none
abbrev pub name_or : List ℕ → List ℕ → List ℕ
name_or [] number = number
name_or (c ∷ name) number = c ∷ name

-- a key that stands for no character: `Key+` and the keysym in hexadecimal where it has no name
abbrev pub named : ℕ → List ℕ
named keysym = name_or (editing_name keysym) (codes "Key+" ++ digits 16 false keysym)

-- `less` for `<`, and any other character itself
abbrev pub character_name : ℕ → List ℕ
character_name p = if p == 60 then codes "less" else encode_utf8 p

abbrev pub name_of : Option ℕ → List ℕ → List ℕ
name_of (Some p) other = character_name p
name_of None other = other

abbrev pub key_name : ℕ → List ℕ
key_name keysym = name_of (code_point keysym) (named keysym)
