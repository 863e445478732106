-- What a clause reads of `Sequence`: the text that it stands for, the parameter characters so far.
use Rattle.std.specs.Prelude.{◌≡◌, ◌≢◌, ◌+◌, ◌-◌, ◌*◌, ◌≤◌, ◌==◌, nat_lt, slice_index, slice_set, ℕ, List, [], ◌∷◌, ◌++◌, length, min, Bool, true, false, if◌then◌else◌}
use Rattle.std.specs.List.{list_all}
use Rattle.ecma_parser.specs.declared.sequence.Sequence.{Sequence}
use Rattle.gate_model.specs.declared.control.Control.{Control}
use Rattle.gate_model.specs.declared.control.Control.TheVariants.{Csi}
use Rattle.gate_model.specs.terminal.Controls.{has_effect, most_in_sequence}
use Rattle.gate_model.specs.terminal.Parameters.{private_mark, without_mark, is_plain, parts, params_of, default}

-- the sequence has an effect so far, and with these values it has the parameters of the text
pub record HoldsAs (values : List ℕ) (s : Sequence) (text : List ℕ) : Type 0 where
  pub long : length text ≡ s.length
  pub few : length text ≤ most_in_sequence
  pub mark : private_mark text ≡ s.private
  pub plain : list_all is_plain (without_mark text) ≡ true
  pub place : s.place ≡ min 16 (length (parts (without_mark text)) - 1)
  pub same : (params_of (without_mark text)).values ≡ values
  pub count : s.params.count ≡ min 16 (s.place + 1)

-- the same with its own values
abbrev pub Holds : Sequence → List ℕ → Type 0
Holds s text = HoldsAs s.params.values s text

-- the text at the start
abbrev pub opening : Bool → List ℕ
opening private = if private then 0x3F ∷ [] else []

-- the character isn't a private mark at the start
abbrev pub Continues : List ℕ → ℕ → Type 0
Continues text c = text ≡ [] → c ≢ 0x3F

-- the sequence has no effect, whatever follows
abbrev pub IsVoid : List ℕ → Type 0
IsVoid text = (more : List ℕ) → has_effect (text ++ more) ≡ false

-- ten times the parameter at the place and a digit, at most 9,999; a default counts as 0
abbrev pub next_value : ℕ → ℕ → ℕ
next_value old digit = min 9999 ((if old == default then 0 else old) * 10 + digit)

-- the values with one more digit at a place; past the sixteenth nothing is kept
abbrev pub with_digit : ℕ → ℕ → List ℕ → List ℕ
with_digit place digit values = if nat_lt place 16 then slice_set values place (next_value (slice_index values place) digit) else values

-- the value at a place, and the values with another one there; past the sixteenth there is none
abbrev pub value_at : ℕ → List ℕ → ℕ
value_at place values = if nat_lt place 16 then slice_index values place else default

abbrev pub with_value : ℕ → ℕ → List ℕ → List ℕ
with_value place value values = if nat_lt place 16 then slice_set values place value else values

-- the sequence holds the text, once it has this value at its place
abbrev pub HoldsBut : ℕ → Sequence → List ℕ → Type 0
HoldsBut value s text = HoldsAs (with_value s.place value s.params.values) s text

-- the sequence after so many more characters, counted alone
abbrev pub longer : ℕ → Sequence → Sequence
longer n s = record s { length = s.length + n }

-- a digit or `;`
abbrev pub IsPlain : ℕ → Type 0
IsPlain c = is_plain c ≡ true

-- the control sequence with this final character
abbrev pub csi_of : Sequence → ℕ → Control
csi_of s last = Csi s.private s.params last
