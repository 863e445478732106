-- Who is there, who may type, and what each viewer holds down (this project's own).
use Rattle.std.specs.Prelude.{ℕ, ◌+◌, ◌-◌, List, [], ◌∷◌, Bool, true, false, not, ◌&&◌, ◌||◌, ◌==◌, Option, Some, None, if◌then◌else◌}
use Rattle.gate_model.specs.declared.act.Act.{Act}
use Rattle.gate_model.specs.declared.act.Act.TheVariants.{Key as key_act}
use Rattle.gate_model.specs.declared.entry.Entry.TheVariants.{Join, Write}
use Rattle.gate_model.specs.declared.mods.Mods.{Mods}
use Rattle.gate_model.specs.declared.sharing.Role.{Role}
use Rattle.gate_model.specs.declared.sharing.Role.TheVariants.{Control, View, Keep}
use Rattle.gate_model.specs.session.Entries.{is_join, is_leave, joins, leaves}
use Rattle.gate_model.specs.session.History.{History, is_closed}
use Rattle.gate_model.specs.keys.Modifiers.{mods_after}

-- the viewer joined and hasn't left; a number is never given twice
abbrev pub is_live : History → ℕ → Bool
is_live [] v = false
is_live (e ∷ g) v = joins v e || (is_live g v && not (leaves v e))

-- how many viewers are there
abbrev pub live_count : History → ℕ
live_count [] = 0
live_count (e ∷ g) = if is_join e then live_count g + 1 else (if is_leave e then live_count g - 1 else live_count g)

-- the role that the viewer's Join gave
abbrev pub role_in : History → ℕ → Option Role
role_in [] v = None
role_in (Join viewer role first ∷ g) v = if viewer == v then Some role else role_in g v
role_in (e ∷ g) v = role_in g v

abbrev pub is_control : Option Role → Bool
is_control (Some Control) = true
is_control (Some View) = false
is_control (Some Keep) = false
is_control None = false

-- the viewer is there, has the role Control, and the session is open
abbrev pub may : History → ℕ → Bool
may h v = is_live h v && is_control (role_in h v) && not (is_closed h)

-- no modifier is held
abbrev pub none_held : Mods
none_held = record { control_left = false; control_right = false; alt_left = false; alt_right = false }

-- the modifiers after the key acts of a write
abbrev pub held_after : Mods → List Act → Mods
held_after mods [] = mods
held_after mods (key_act keysym pressed ∷ acts) = held_after (mods_after mods keysym pressed) acts
held_after mods (a ∷ acts) = held_after mods acts

-- the modifiers that the viewer holds: those of its writes that were made while it might type
abbrev pub mods : History → ℕ → Mods
mods [] v = none_held
mods (Write viewer acts ∷ g) v = if viewer == v && may g v then held_after (mods g v) acts else mods g v
mods (e ∷ g) v = mods g v
