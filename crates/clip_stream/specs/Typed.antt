-- The keys that a pasted text is typed by (the Guacamole manual, "Guacamole protocol reference", on `key`; keysyms of the
-- X Window System; which characters are typed is this project's own).
use Rattle.std.specs.Prelude.{ℕ, ◌+◌, ◌==◌, ◌||◌, ◌&&◌, List, [], ◌∷◌, ◌++◌, Bool, true, false, Option, Some, None, decimal, codes, nat_lt, if◌then◌else◌}
use Rattle.std.specs.Int.{is_in_range}
use Rattle.bstr.specs.Utf8.{lossy_chars}
use Rattle.gate_model.specs.text.Text.{text_of_elements}

-- a key is pressed, or released
abbrev pub key_text : ℕ → Bool → List ℕ
key_text keysym true = text_of_elements (codes "key" ∷ decimal keysym ∷ codes "1" ∷ [])
key_text keysym false = text_of_elements (codes "key" ∷ decimal keysym ∷ codes "0" ∷ [])

-- Control_L, Control_R, Alt_L and Alt_R are released, whatever is held
abbrev pub releases : List ℕ
releases = key_text 0xFFE3 false ++ key_text 0xFFE4 false ++ key_text 0xFFE9 false ++ key_text 0xFFEA false

-- the key of a character: Return for a line feed and a carriage return, Tab, none for any other control character, and
-- else the character's own
abbrev pub keysym_of : ℕ → Option ℕ
keysym_of c =
    if c == 10 || c == 13 then Some 0xFF0D else (
    if c == 9 then Some 0xFF09 else (
    if nat_lt c 0x20 || is_in_range 0x7F 0x9F c then None else (
    if nat_lt c 0x100 then Some c else Some (0x01000000 + c))))

-- the same where it stands behind a carriage return, or doesn't: a line feed right behind one is no key of its own
abbrev pub keysym_behind : Bool → ℕ → Option ℕ
keysym_behind returned c = if returned && c == 10 then None else keysym_of c

-- the key is pressed and released
abbrev pub stroke : Option ℕ → List ℕ
stroke None = []
stroke (Some keysym) = key_text keysym true ++ key_text keysym false

-- the keys of these characters, which stand behind a carriage return or don't
abbrev pub strokes : Bool → List ℕ → List ℕ
strokes returned [] = []
strokes returned (c ∷ cs) = stroke (keysym_behind returned c) ++ strokes (c == 13) cs

-- .. of these bytes, in which U+FFFD stands for what isn't UTF-8
abbrev pub strokes_of : Bool → List ℕ → List ℕ
strokes_of returned bytes = strokes returned (lossy_chars bytes)

-- the keys of a pasted text
abbrev pub keys_of : List ℕ → List ℕ
keys_of bytes = releases ++ strokes_of false bytes
