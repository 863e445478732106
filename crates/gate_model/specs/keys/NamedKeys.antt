-- The bytes of the keys that stand for no character (keysyms of the X Window System; the bytes are this
-- project's own, after the Linux console).
use Rattle.std.specs.Prelude.{ℕ, List, [], ◌∷◌, Bool, ◌==◌, if◌then◌else◌, codes}

-- ESC `[` and these characters
abbrev pub sequence : List ℕ → List ℕ
sequence cs = 0x1B ∷ 0x5B ∷ cs

-- an arrow: ESC `[` and a letter, and in cursor mode ESC `O` in place of ESC `[`
abbrev pub arrow : Bool → ℕ → List ℕ
arrow cursor_mode letter = 0x1B ∷ (if cursor_mode then 0x4F else 0x5B) ∷ letter ∷ []

-- Home, Insert, Delete, End, Page_Up and Page_Down
abbrev pub editing_bytes : ℕ → List ℕ
editing_bytes keysym =
    if keysym == 0xFF50 then sequence (codes "1~") else (
    if keysym == 0xFF63 then sequence (codes "2~") else (
    if keysym == 0xFFFF then sequence (codes "3~") else (
    if keysym == 0xFF57 then sequence (codes "4~") else (
    if keysym == 0xFF55 then sequence (codes "5~") else (
    if keysym == 0xFF56 then sequence (codes "6~") else [])))))

-- F1 to F12
abbrev pub function_bytes : ℕ → List ℕ
function_bytes keysym =
    if keysym == 0xFFBE then sequence (codes "[A") else (
    if keysym == 0xFFBF then sequence (codes "[B") else (
    if keysym == 0xFFC0 then sequence (codes "[C") else (
    if keysym == 0xFFC1 then sequence (codes "[D") else (
    if keysym == 0xFFC2 then sequence (codes "[E") else (
    if keysym == 0xFFC3 then sequence (codes "17~") else (
    if keysym == 0xFFC4 then sequence (codes "18~") else (
    if keysym == 0xFFC5 then sequence (codes "19~") else (
    if keysym == 0xFFC6 then sequence (codes "20~") else (
    if keysym == 0xFFC7 then sequence (codes "21~") else (
    if keysym == 0xFFC8 then sequence (codes "23~") else (
    if keysym == 0xFFC9 then sequence (codes "24~") else editing_bytes keysym)))))))))))

-- Up, Down, Right and Left
abbrev pub arrow_bytes : Bool → ℕ → List ℕ
arrow_bytes cursor_mode keysym =
    if keysym == 0xFF52 then arrow cursor_mode 0x41 else (
    if keysym == 0xFF54 then arrow cursor_mode 0x42 else (
    if keysym == 0xFF53 then arrow cursor_mode 0x43 else (
    if keysym == 0xFF51 then arrow cursor_mode 0x44 else function_bytes keysym)))

-- BackSpace, Tab, Return and KP_Enter, and Escape; a key without a row has no bytes
abbrev pub named_bytes : Bool → ℕ → List ℕ
named_bytes cursor_mode keysym =
    if keysym == 0xFF08 then 0x7F ∷ [] else (
    if keysym == 0xFF09 then 0x09 ∷ [] else (
    if keysym == 0xFF0D then 0x0D ∷ 0x00 ∷ [] else (
    if keysym == 0xFF8D then 0x0D ∷ 0x00 ∷ [] else (
    if keysym == 0xFF1B then 0x1B ∷ [] else arrow_bytes cursor_mode keysym))))
