-- What the body of a write asks (this project's own).
use Rattle.std.specs.Prelude.{◌≡◌, ℕ, ◌≤◌, List, [], ◌∷◌, ◌++◌, length, fold, Bool, true, false, if◌then◌else◌, Option, Some, None, Result, Ok, Err}
use Rattle.gate_model.specs.Limits.{most_acts}
use Rattle.gate_model.specs.declared.act.Act.{Act}
use Rattle.gate_model.specs.declared.act.Act.TheVariants.{Disconnect}
use Rattle.gate_model.specs.text.ClientMeaning.{act_of}
use Rattle.guac_framing.specs.Answers.{IsWhole}
use Rattle.guac_framing.specs.Found.{HasNoInstruction}
use Rattle.guac_handshake.specs.Splits.{Splits}
use Rattle.http_tunnel.specs.declared.acts.BodyFault.{BodyFault}
use Rattle.http_tunnel.specs.declared.acts.BodyFault.TheVariants.{Form, NoMemory}

-- acts that are to be written, and whether the viewer then leaves
pub record Wish : Type 0 where
  pub acts : List Act
  pub ends : Bool

abbrev pub no_wish : Wish
no_wish = record { acts = []; ends = false }

abbrev pub is_disconnect : Act → Bool
is_disconnect Disconnect = true
is_disconnect act = false

-- with what one more instruction asks for. Behind one that asks for an end none counts
abbrev pub wish_more : Wish → Option Act → Wish
wish_more wish None = wish
wish_more wish (Some act) = if is_disconnect act then record { acts = wish.acts; ends = true } else record { acts = wish.acts ++ act ∷ []; ends = wish.ends }

abbrev pub with_act : Wish → Option Act → Wish
with_act wish act = if wish.ends then wish else wish_more wish act

abbrev pub with_instruction : Wish → List (List ℕ) → Wish
with_instruction wish values = with_act wish (act_of values)

abbrev pub wish_of : List (List (List ℕ)) → Wish
wish_of instructions = fold with_instruction no_wish instructions

-- the body is these instructions, whole, and few enough
pub record IsBody (body : List ℕ) (instructions : List (List (List ℕ))) : Type 0 where
  pub splits : Splits body instructions []
  pub few : length instructions ≤ most_acts

abbrev pub IsNoBody : List ℕ → Type 0
IsNoBody body = (instructions : List (List (List ℕ))) → IsBody body instructions → ⊥

-- the act is to be put behind those of the wish
abbrev pub IsPutBehind : Wish → Option Act → Type 0
IsPutBehind wish None = ⊥
IsPutBehind wish (Some act) = (wish.ends ≡ false) × (is_disconnect act ≡ false)

-- memory was wanting in the list of the acts, for that of an instruction behind these
pub record HasNoRoom (body : List ℕ) : Type 0 where
  pub instructions : List (List (List ℕ))
  pub values : List (List ℕ)
  pub rest : List ℕ
  pub splits : Splits body (instructions ++ values ∷ []) rest
  pub few : length instructions ≤ most_acts
  pub put : IsPutBehind (wish_of instructions) (act_of values)

-- the body asks this; or it is out of form, or memory was wanting
abbrev pub HasRead : List ℕ → Result Wish BodyFault → Type 0
HasRead body (Ok wish) = (instructions : List (List (List ℕ))) × IsBody body instructions × (wish ≡ wish_of instructions) × (length wish.acts ≤ most_acts)
HasRead body (Err Form) = IsNoBody body
HasRead body (Err NoMemory) = HasNoRoom body

-- .. one instruction of it, of so many bytes
abbrev pub TakesNext : Wish → Wish → List ℕ → Result ℕ BodyFault → Type 0
TakesNext old new rest (Ok count) = (values : List (List ℕ)) × IsWhole rest values count × (new ≡ with_act old (act_of values))
TakesNext old new rest (Err Form) = HasNoInstruction rest
TakesNext old new rest (Err NoMemory) = (values : List (List ℕ)) × (count : ℕ) × IsWhole rest values count × IsPutBehind old (act_of values)
