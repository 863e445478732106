-- The modifier keys that a viewer holds down (keysyms of the X Window System; the rules are this project's own).
use Rattle.std.specs.Prelude.{ℕ, Bool, ◌||◌, ◌==◌, if◌then◌else◌}
use Rattle.gate_model.specs.declared.mods.Mods.{Mods}

-- Control_L and Control_R, Alt_L and Alt_R are held each for itself; no other key is a modifier, nor is Shift
abbrev pub mods_after : Mods → ℕ → Bool → Mods
mods_after mods keysym pressed =
    if keysym == 0xFFE3 then record mods { control_left = pressed } else (
    if keysym == 0xFFE4 then record mods { control_right = pressed } else (
    if keysym == 0xFFE9 then record mods { alt_left = pressed } else (
    if keysym == 0xFFEA then record mods { alt_right = pressed } else mods)))

-- either Control
abbrev pub control_held : Mods → Bool
control_held mods = mods.control_left || mods.control_right

-- either Alt
abbrev pub alt_held : Mods → Bool
alt_held mods = mods.alt_left || mods.alt_right
