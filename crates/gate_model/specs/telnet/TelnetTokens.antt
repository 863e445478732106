-- The tokens of a list of bytes from a Telnet peer (RFC 854, "TELNET COMMANDS"; RFC 855; the cases of malformed input
-- are this project's own). A head says what the bytes begin with: the tokens that it gives, at most one, and the bytes
-- that are left; or nothing where it isn't whole.
use Rattle.std.specs.Prelude.{ℕ, ◌++◌, List, [], ◌∷◌, length, ◌==◌, nat_le, Option, Some, None, if◌then◌else◌, flat_map}
use Rattle.std.specs.Int.{is_in_range}
use Rattle.gate_model.specs.declared.token.Token.{Token}
use Rattle.gate_model.specs.declared.token.Token.TheVariants.{Byte, Do, Dont, Will, Wont, Sub, Single}
use Rattle.gate_model.specs.Limits.{most_in_sub}
use Rattle.gate_model.specs.text.Reading.{Head, read}

-- what a head finds
abbrev pub FoundToken : Type 0
FoundToken = Option (List Token × List ℕ)

-- IAC begins a command, and within data stands for itself only doubled (RFC 854)
abbrev pub iac : ℕ
iac = 255

-- ---- subnegotiations: IAC SB, bytes with each 255 doubled, IAC SE (RFC 855)

-- what a whole subnegotiation of these bytes gives
abbrev pub sub_token : List ℕ → List Token
sub_token bytes = if nat_le (length bytes) most_in_sub then Sub bytes ∷ [] else []

-- after IAC SB and these bytes, undoubled. IAC before another byte than IAC and SE (240) ends the subnegotiation
-- without a token, and is then read as outside one
abbrev pub head_sub : List ℕ → List ℕ → FoundToken
head_sub before [] = None
head_sub before (b ∷ []) = None
head_sub before (b ∷ c ∷ bs) =
    if b == iac then (
    if c == iac then head_sub (before ++ iac ∷ []) bs else (
    if c == 240 then Some (sub_token before, bs) else Some ([], iac ∷ c ∷ bs))) else head_sub (before ++ b ∷ []) (c ∷ bs)

-- ---- commands

-- WILL is 251, WONT 252, DO 253 and DONT 254; an option follows (RFC 854)
abbrev pub negotiation : ℕ → ℕ → Token
negotiation verb option =
    if verb == 251 then Will option else (
    if verb == 252 then Wont option else (
    if verb == 253 then Do option else Dont option))

-- after IAC and one of these verbs
abbrev pub head_option : ℕ → List ℕ → FoundToken
head_option verb [] = None
head_option verb (option ∷ bs) = Some (negotiation verb option ∷ [], bs)

-- after IAC: the data byte 255, SB (250), a verb, a command of one byte (NOP, 241, to GA, 249), or a byte without
-- meaning
abbrev pub head_command : List ℕ → FoundToken
head_command [] = None
head_command (b ∷ bs) =
    if b == iac then Some (Byte iac ∷ [], bs) else (
    if b == 250 then head_sub [] bs else (
    if is_in_range 251 254 b then head_option b bs else (
    if is_in_range 241 249 b then Some (Single b ∷ [], bs) else Some ([], bs))))

-- ---- all bytes

-- the front of any bytes
abbrev pub head_token : Head ℕ Token
head_token [] = None
head_token (b ∷ bs) = if b == iac then head_command bs else Some (Byte b ∷ [], bs)

-- the whole tokens of a list of bytes
abbrev pub tokens : List ℕ → List Token
tokens bytes = (read head_token bytes).0

-- the bytes of its unfinished end
abbrev pub unfinished_token : List ℕ → List ℕ
unfinished_token bytes = (read head_token bytes).1

-- a data byte as it is sent: 255 is doubled (RFC 854)
abbrev pub sent_byte : ℕ → List ℕ
sent_byte b = if b == iac then iac ∷ iac ∷ [] else b ∷ []

-- bytes with each 255 doubled
abbrev pub doubled : List ℕ → List ℕ
doubled bytes = flat_map sent_byte bytes
