-- What a viewer's messages ask (this project's own): each holds whole instructions (the Guacamole manual, "The Guacamole
-- protocol"), at most 4,096.
use Rattle.std.specs.Prelude.{◌≡◌, ℕ, List, [], ◌∷◌, ◌++◌, length, take, Bool, true, false, nat_lt, if◌then◌else◌}
use Rattle.std.specs.List.{prefix_len}
use Rattle.gate_model.specs.declared.act.Act.{Act}
use Rattle.gate_model.specs.declared.act.Act.TheVariants.{Disconnect}
use Rattle.script_grammar.specs.Acts.{IsWhole}

-- the act doesn't ask for an end
abbrev pub goes_on : Act → Bool
goes_on Disconnect = false
goes_on act = true

-- how many acts stand before the first that asks for an end
abbrev pub end_place : List Act → ℕ
end_place acts = prefix_len goes_on acts

abbrev pub before_end : List Act → List Act
before_end acts = take (end_place acts) acts

abbrev pub asks_end : List Act → Bool
asks_end acts = nat_lt (end_place acts) (length acts)

-- what messages of these acts ask together, before the first end
abbrev pub heard : List (List Act) → List Act
heard [] = []
heard (acts ∷ others) = before_end acts ++ (if asks_end acts then [] else heard others)

-- the message is whole instructions, with these acts
abbrev pub IsMessage : List ℕ → List Act → Type 0
IsMessage message acts = (passed : ℕ) × IsWhole message acts passed

-- each of the messages is, and asks for no end
abbrev pub AreMessages : List (List ℕ) → List (List Act) → Type 0
AreMessages [] [] = Unit {0}
AreMessages (message ∷ messages) (acts ∷ others) = IsMessage message acts × (asks_end acts ≡ false) × AreMessages messages others
AreMessages [] (acts ∷ others) = ⊥
AreMessages (message ∷ messages) [] = ⊥
