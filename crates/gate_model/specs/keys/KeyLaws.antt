-- A law about keys (this project's own).
use Rattle.std.specs.Prelude.{◌≡◌, ◌≢◌, ℕ, [], Bool}
use Rattle.gate_model.specs.declared.mods.Mods.{Mods}
use Rattle.gate_model.specs.keys.Modifiers.{mods_after}
use Rattle.gate_model.specs.keys.Encoding.{encoding}

-- a key that changes what is held sends nothing, whatever is held at its press
abbrev pub ModifiersSendNothing : Type 0
ModifiersSendNothing = (keysym : ℕ) (before held : Mods) (pressed cursor_mode : Bool)
    → mods_after before keysym pressed ≢ before → encoding keysym held cursor_mode ≡ []
