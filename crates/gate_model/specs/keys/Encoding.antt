-- The bytes that the press of a key sends (this project's own).
use Rattle.std.specs.Prelude.{ℕ, ◌%◌, List, [], ◌∷◌, Bool, ◌||◌, ◌==◌, Option, Some, None, if◌then◌else◌, encode_utf8}
use Rattle.std.specs.Int.{is_in_range}
use Rattle.gate_model.specs.declared.mods.Mods.{Mods}
use Rattle.gate_model.specs.keys.Keysyms.{code_point}
use Rattle.gate_model.specs.keys.Modifiers.{control_held, alt_held}
use Rattle.gate_model.specs.keys.NamedKeys.{named_bytes}

-- the byte 13 is followed by 0 (RFC 854, "CR NUL")
abbrev pub control_byte : ℕ → List ℕ
control_byte b = if b == 13 then 13 ∷ 0 ∷ [] else b ∷ []

-- a character with Control held: `@` to `_` and the small letters give the control characters, a blank gives
-- 0 and `?` gives 127; any other character stays
abbrev pub control_bytes : ℕ → List ℕ
control_bytes p =
    if is_in_range 0x40 0x5F p || is_in_range 0x61 0x7A p then control_byte (p % 32) else (
    if p == 0x20 then 0 ∷ [] else (
    if p == 0x3F then 127 ∷ [] else encode_utf8 p))

-- a character, in UTF-8 where Control isn't held
abbrev pub character_bytes : Bool → ℕ → List ℕ
character_bytes control p = if control then control_bytes p else encode_utf8 p

-- a key that stands for a character, or else a key of the table, whatever Control is
abbrev pub key_bytes : ℕ → Bool → Bool → Option ℕ → List ℕ
key_bytes keysym control cursor_mode (Some p) = character_bytes control p
key_bytes keysym control cursor_mode None = named_bytes cursor_mode keysym

-- with Alt held, bytes have ESC before them, and nothing stays nothing
abbrev pub after_alt : Bool → List ℕ → List ℕ
after_alt alt [] = []
after_alt alt (b ∷ bs) = if alt then 0x1B ∷ b ∷ bs else b ∷ bs

-- the bytes of a press, under the viewer's modifiers and the screen's cursor mode
unfoldable pub encoding : ℕ → Mods → Bool → List ℕ
encoding keysym mods cursor_mode = after_alt (alt_held mods) (key_bytes keysym (control_held mods) cursor_mode (code_point keysym))
