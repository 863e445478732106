-- The code point that a keysym stands for (the X Window System's keysym encoding: Latin-1 keysyms and
-- Unicode keysyms; which of them are read is this project's own).
use Rattle.std.specs.Prelude.{ℕ, ◌-◌, Bool, not, ◌&&◌, ◌||◌, nat_le, Option, Some, None, if◌then◌else◌}
use Rattle.std.specs.Int.{is_in_range}

-- a printable character of Latin-1 is its own keysym
abbrev pub is_latin : ℕ → Bool
is_latin keysym = is_in_range 0x20 0x7E keysym || is_in_range 0xA0 0xFF keysym

-- the Unicode scalar values from U+0020 on, without U+007F to U+009F
abbrev pub is_typed : ℕ → Bool
is_typed p = (is_in_range 0x20 0xD7FF p || is_in_range 0xE000 0x10FFFF p) && not (is_in_range 0x7F 0x9F p)

-- a Unicode keysym is the code point and 0x01000000
abbrev pub is_unicode : ℕ → Bool
is_unicode keysym = nat_le 0x0100_0000 keysym && is_typed (keysym - 0x0100_0000)

-- the code point, or None where the keysym stands for no character
abbrev pub code_point : ℕ → Option ℕ
code_point keysym =
    if is_latin keysym then Some keysym else (
    if is_unicode keysym then Some (keysym - 0x0100_0000) else None)
