-- Worked facts of the bytes of keys and of the modifiers, computed from the definitions.
use Rattle.std.specs.Prelude.{◌≡◌, ℕ, Bool, List, [], ◌∷◌, map, true, false, refl, codes}
use Rattle.std.specs.Char.{encode_utf8}
use Rattle.gate_model.specs.declared.mods.Mods.{Mods}
use Rattle.gate_model.specs.keys.Modifiers.{mods_after}
use Rattle.gate_model.specs.keys.Encoding.{encoding}

abbrev none : Mods
none = record { control_left = false; control_right = false; alt_left = false; alt_right = false }

-- Control_L held, Alt_R held, and both
abbrev control : Mods
control = mods_after none 0xFFE3 true

abbrev alt : Mods
alt = mods_after none 0xFFEA true

abbrev both : Mods
both = mods_after (mods_after none 0xFFE9 true) 0xFFE4 true

-- each side is held for itself, and Shift is no modifier
other_side_stays : mods_after (mods_after (mods_after none 0xFFE3 true) 0xFFE4 true) 0xFFE3 false ≡ mods_after none 0xFFE4 true
other_side_stays = refl

released : mods_after alt 0xFFEA false ≡ none
released = refl

shift : mods_after both 0xFFE1 true ≡ both
shift = refl

-- a press: a keysym, what is held, the cursor keys mode; and the bytes that it sends
record Row : Type 0 where
  keysym : ℕ
  held : Mods
  cursor : Bool
  bytes : List ℕ

abbrev row : ℕ → Mods → Bool → List ℕ → Row
row keysym held cursor bytes = record { keysym = keysym; held = held; cursor = cursor; bytes = bytes }

abbrev presses : List Row
presses =
    row 0x61 none false (codes "a")  -- small letter
    ∷ row 0x61 control false (0x01 ∷ [])  -- control small letter
    ∷ row 0x41 control false (0x01 ∷ [])  -- control capital letter
    ∷ row 0x40 control false (0x00 ∷ [])  -- control at
    ∷ row 0x5F control false (0x1F ∷ [])  -- control low line
    ∷ row 0x60 control false (codes "`")  -- control grave
    ∷ row 0x7B control false (codes "{")  -- control brace
    ∷ row 0x20 control false (0x00 ∷ [])  -- control blank
    ∷ row 0x3F control false (0x7F ∷ [])  -- control question
    ∷ row 0x6D control false (0x0D ∷ 0x00 ∷ [])  -- control m
    ∷ row 0x4D both false (0x1B ∷ 0x0D ∷ 0x00 ∷ [])  -- control alt m
    ∷ row 0x31 control false (codes "1")  -- control digit
    ∷ row 0xE9 none false (0xC3 ∷ 0xA9 ∷ [])  -- latin
    ∷ row 0xE9 both false (0x1B ∷ 0xC3 ∷ 0xA9 ∷ [])  -- control alt latin
    ∷ row 0x80 none false []  -- no character
    ∷ row 0x10020AC none false (0xE2 ∷ 0x82 ∷ 0xAC ∷ [])  -- unicode euro
    ∷ row 0x101F600 alt false (0x1B ∷ 0xF0 ∷ 0x9F ∷ 0x98 ∷ 0x80 ∷ [])  -- alt emoji
    ∷ row 0x1000063 control false (0x03 ∷ [])  -- control unicode letter
    ∷ row 0x100000D none false []  -- unicode return
    ∷ row 0x100007F none false []  -- unicode delete
    ∷ row 0x100D800 none false []  -- unicode surrogate
    ∷ row 0x1110000 none false []  -- past unicode
    ∷ row 0xFF08 alt false (0x1B ∷ 0x7F ∷ [])  -- alt backspace
    ∷ row 0xFF0D both false (0x1B ∷ 0x0D ∷ 0x00 ∷ [])  -- control alt return
    ∷ row 0xFF8D none false (0x0D ∷ 0x00 ∷ [])  -- keypad enter
    ∷ row 0xFF52 none false (0x1B ∷ codes "[A")  -- up
    ∷ row 0xFF52 none true (0x1B ∷ codes "OA")  -- up in cursor mode
    ∷ row 0xFF52 both true (0x1B ∷ 0x1B ∷ codes "OA")  -- control alt up in cursor mode
    ∷ row 0xFF50 none true (0x1B ∷ codes "[1~")  -- home in cursor mode
    ∷ row 0xFFBE none false (0x1B ∷ codes "[[A")  -- first function key
    ∷ row 0xFFC2 none false (0x1B ∷ codes "[[E")  -- fifth function key
    ∷ row 0xFFC3 none false (0x1B ∷ codes "[17~")  -- sixth function key
    ∷ row 0xFFC7 none false (0x1B ∷ codes "[21~")  -- tenth function key
    ∷ row 0xFFC9 alt false (0x1B ∷ 0x1B ∷ codes "[24~")  -- alt twelfth function key
    ∷ row 0xFFE1 alt false []  -- alt shift
    ∷ row 0xFFE3 alt false []  -- alt control
    ∷ row 0xFFFF none false (0x1B ∷ codes "[3~")  -- delete
    ∷ row 0xFF8A alt false []  -- alt unknown
    ∷ []

sent_as_told : map (λ r. encoding r.keysym r.held r.cursor) presses ≡ map (λ r. r.bytes) presses
unfolding encoding encode_utf8
sent_as_told = refl
