-- The control functions of a list of characters (ECMA-48, sections 5.2 to 5.6; what abandons a sequence and what has
-- no effect is this project's own). A head says what a list of characters begins with: the control functions that it
-- gives, at most one, and the characters that are left; or nothing where it isn't whole.
use Rattle.std.specs.Prelude.{ℕ, zero, suc, ◌++◌, List, [], ◌∷◌, length, Bool, true, false, ◌&&◌, ◌||◌, ◌==◌, nat_lt, nat_le, Option, Some, None, if◌then◌else◌, ◌≤◌, ⊤}
use Rattle.std.specs.Int.{is_in_range}
use Rattle.std.specs.List.{take_while, list_all}
use Rattle.gate_model.specs.declared.control.Control.{Control}
use Rattle.gate_model.specs.declared.control.Control.TheVariants.{Print, Code, Esc, Csi}
use Rattle.gate_model.specs.terminal.Parameters.{private_mark, without_mark, is_plain, params_of}
use Rattle.gate_model.specs.text.Reading.{Head, read}

-- what a head finds
abbrev pub Found : Type 0
Found = Option (List Control × List ℕ)

-- what follows the longest front of characters that pass
abbrev pub after_while : (ℕ → Bool) → List ℕ → List ℕ
after_while p [] = []
after_while p (c ∷ cs) = if p c then after_while p cs else c ∷ cs

-- a final character ends a sequence; any other abandons the sequence, and is read as outside one
abbrev pub ended_by : (ℕ → Bool) → (ℕ → List Control) → List ℕ → Found
ended_by is_final given [] = None
ended_by is_final given (c ∷ cs) = if is_final c then Some (given c, cs) else Some ([], c ∷ cs)

-- what a sequence without effect gives
abbrev pub no_control : ℕ → List Control
no_control last = []

-- ---- control sequences: parameters, intermediates and a final character (ECMA-48, section 5.4)

-- 03/00 to 03/15
abbrev pub is_parameter : ℕ → Bool
is_parameter = is_in_range 0x30 0x3F

-- 02/00 to 02/15
abbrev pub is_intermediate : ℕ → Bool
is_intermediate = is_in_range 0x20 0x2F

-- 04/00 to 07/14
abbrev pub is_csi_final : ℕ → Bool
is_csi_final = is_in_range 0x40 0x7E

-- the most characters between `ESC [` and the final one
abbrev pub most_in_sequence : ℕ
most_in_sequence = 256

-- the sequence has an effect: its parameters are digits and `;`, and not too many
abbrev pub has_effect : List ℕ → Bool
has_effect parameters = nat_le (length parameters) most_in_sequence && list_all is_plain (without_mark parameters)

-- what a whole sequence gives; one with intermediates gives nothing
abbrev pub sequence : List ℕ → List ℕ → ℕ → List Control
sequence parameters [] last = if has_effect parameters then Csi (private_mark parameters) (params_of (without_mark parameters)) last ∷ [] else []
sequence parameters (i ∷ is) last = []

-- after `ESC [` and some parameters
abbrev pub csi_after : List ℕ → List ℕ → Found
csi_after before cs =
    let parameters = before ++ take_while is_parameter cs in
    let others = after_while is_parameter cs in
    ended_by is_csi_final (sequence parameters (take_while is_intermediate others)) (after_while is_intermediate others)

-- ---- strings

-- CAN and SUB end a string, and BEL does where that is said
abbrev pub ends_string : Bool → ℕ → Bool
ends_string by_bell c = c == 0x18 || c == 0x1A || (by_bell && c == 0x07)

-- after an ESC in a string: `\` ends the string; any other character ends it too, and the ESC begins an escape
-- sequence that goes on with this character
abbrev pub string_escape : List ℕ → Found
string_escape [] = None
string_escape (c ∷ cs) = if c == 0x5C then Some ([], cs) else Some ([], 0x1B ∷ c ∷ cs)

-- within a string
abbrev pub head_string : Bool → List ℕ → Found
head_string by_bell [] = None
head_string by_bell (c ∷ cs) =
    if ends_string by_bell c then Some ([], cs) else (
    if c == 0x1B then string_escape cs else head_string by_bell cs)

-- the colour of a palette, of which n characters are left (the Linux console's). An ESC before the last of them is read
-- as in a string, but `ESC \` is two of the n
abbrev pub head_palette : ℕ → List ℕ → Found
head_palette zero cs = Some ([], cs)
head_palette (suc n) [] = None
head_palette (suc zero) (c ∷ cs) = Some ([], cs)
head_palette (suc (suc n)) (c ∷ []) = None
head_palette (suc (suc n)) (c ∷ d ∷ cs) =
    if c == 0x1B then (if d == 0x5C then head_palette n cs else Some ([], 0x1B ∷ d ∷ cs)) else head_palette (suc n) (d ∷ cs)

-- after `ESC ]`: `P` and seven characters set a colour of the Linux console's palette, `R` resets the palette, and any
-- other character begins a string that BEL may end
abbrev pub head_osc : List ℕ → Found
head_osc [] = None
head_osc (c ∷ cs) =
    if c == 0x52 then Some ([], cs) else (
    if c == 0x50 then head_palette 7 cs else head_string true (c ∷ cs))

-- ---- escape sequences (ECMA-48, sections 5.3 and 5.5; with intermediates, ECMA-35)

-- 03/00 to 07/14
abbrev pub is_escape_final : ℕ → Bool
is_escape_final = is_in_range 0x30 0x7E

-- `P` (DCS), `X` (SOS), `^` (PM) and `_` (APC) begin a string (ECMA-48, section 5.6)
abbrev pub begins_string : ℕ → Bool
begins_string c = c == 0x50 || c == 0x58 || c == 0x5E || c == 0x5F

-- after ESC and an intermediate; such a sequence has no effect
abbrev pub escape_after : List ℕ → Found
escape_after cs = ended_by is_escape_final no_control (after_while is_intermediate cs)

-- an escape sequence without intermediates
abbrev pub plain_escape : ℕ → List Control
plain_escape last = Esc last ∷ []

-- after ESC
abbrev pub head_escape : List ℕ → Found
head_escape [] = None
head_escape (c ∷ cs) =
    if c == 0x5B then csi_after [] cs else (
    if c == 0x5D then head_osc cs else (
    if begins_string c then head_string false cs else (
    if is_intermediate c then escape_after cs else ended_by is_escape_final plain_escape (c ∷ cs))))

-- ---- any characters

-- a character outside a sequence; DEL and the C1 set have no effect
abbrev pub control_of : ℕ → List Control
control_of c = if nat_lt c 0x20 then Code c ∷ [] else (if is_in_range 0x7F 0x9F c then [] else Print c ∷ [])

-- the front of any characters
abbrev pub head_control : Head ℕ Control
head_control [] = None
head_control (c ∷ cs) = if c == 0x1B then head_escape cs else Some (control_of c, cs)

-- the control functions of a list of characters; an unfinished end gives none
abbrev pub controls : List ℕ → List Control
controls cs = (read head_control cs).0

-- the characters of that end
abbrev pub unfinished : List ℕ → List ℕ
unfinished cs = (read head_control cs).1

-- a control sequence has at most sixteen parameters
abbrev pub HasFewParameters : Control → Type 0
HasFewParameters (Csi private params last) = params.count ≤ 16
HasFewParameters _ = ⊤
