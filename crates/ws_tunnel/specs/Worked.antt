-- Worked examples, which the checker computes.
use Rattle.std.specs.Prelude.{◌≡◌, [], ◌∷◌, true, false, refl}
use Rattle.gate_model.specs.declared.act.Act.TheVariants.{Key, Nop, Disconnect}
use Rattle.gate_model.specs.declared.entry.Entry.TheVariants.{Leave, Size, Write}
use Rattle.shared_desk.specs.Meetings.{written_by}
use Rattle.ws_tunnel.specs.Heard.{asks_end, before_end, heard}

-- what stands behind the first `disconnect` isn't asked, in its message and in all later ones
pub front_of_one : before_end (Key 97 true ∷ Disconnect ∷ Nop ∷ []) ≡ Key 97 true ∷ []
front_of_one = refl

pub all_of_one : before_end (Key 97 true ∷ Nop ∷ []) ≡ Key 97 true ∷ Nop ∷ []
all_of_one = refl

pub end_of_one : asks_end (Nop ∷ Disconnect ∷ []) ≡ true
end_of_one = refl

pub no_end_of_none : asks_end [] ≡ false
no_end_of_none = refl

pub heard_of_three : heard ((Key 97 true ∷ []) ∷ (Nop ∷ Disconnect ∷ Nop ∷ []) ∷ (Key 98 true ∷ []) ∷ []) ≡ Key 97 true ∷ Nop ∷ []
heard_of_three = refl

-- of a history the Writes and the Sizes of one viewer
pub written_of_four : written_by 1 (Leave 1 ∷ Write 2 [] ∷ Size 1 80 24 2 [] ∷ Write 1 (Nop ∷ []) ∷ []) ≡ Size 1 80 24 2 [] ∷ Write 1 (Nop ∷ []) ∷ []
written_of_four = refl
