-- What a log of keys says (this project's own).
use Rattle.std.specs.Prelude.{ℕ, List, [], ◌∷◌, ◌++◌, Bool, false, ◌&&◌, ◌||◌, not, ◌==◌, if◌then◌else◌, Option, Some, None, codes}
use Rattle.std.specs.Int.{is_in_range}
use Rattle.gate_model.specs.declared.act.Act.{Act}
use Rattle.gate_model.specs.declared.act.Act.TheVariants.{Key}
use Rattle.gate_model.specs.declared.mods.Mods.{Mods}
use Rattle.gate_model.specs.keys.Keysyms.{code_point}
use Rattle.gate_model.specs.keys.Modifiers.{alt_held, control_held, mods_after}
use Rattle.gate_model.specs.session.Rights.{none_held}
use Rattle.record_play.specs.KeyNames.{key_name}

-- Shift, Control and Alt say nothing themselves
abbrev pub is_silent : ℕ → Bool
is_silent keysym = is_in_range 0xFFE1 0xFFE4 keysym || is_in_range 0xFFE9 0xFFEA keysym

-- a character other than `<` without Control and Alt is told as it is
abbrev pub is_plain : Mods → Option ℕ → Bool
is_plain mods (Some p) = not (p == 60) && not (control_held mods) && not (alt_held mods)
is_plain mods None = false

-- the modifiers that are held
abbrev pub prefix_of : Mods → List ℕ
prefix_of mods = (if control_held mods then codes "Ctrl+" else []) ++ (if alt_held mods then codes "Alt+" else [])

-- the press of a key
abbrev pub press_text : Mods → ℕ → List ℕ
press_text mods keysym =
    if is_silent keysym then [] else (
    if is_plain mods (code_point keysym) then key_name keysym else codes "<" ++ prefix_of mods ++ key_name keysym ++ codes ">")

-- an act of a client: only a press says something
abbrev pub act_text : Mods → Option Act → List ℕ
act_text mods (Some (Key keysym pressed)) = if pressed then press_text mods keysym else []
act_text mods act = []

-- the modifiers behind an act
abbrev pub mods_behind : Mods → Option Act → Mods
mods_behind mods (Some (Key keysym pressed)) = mods_after mods keysym pressed
mods_behind mods act = mods

-- acts in order
abbrev pub log_from : Mods → List (Option Act) → List ℕ
log_from mods [] = []
log_from mods (act ∷ acts) = act_text mods act ++ log_from (mods_behind mods act) acts

-- with no modifier held at first
abbrev pub log : List (Option Act) → List ℕ
log acts = log_from none_held acts
