-- What is answered to Telnet tokens (RFC 854, "TELNET COMMANDS", and RFC 855; RFC 1073, the window size; RFC 1091, the
-- terminal type). Which options are agreed to is this project's own: of those that the peer asks for, suppress go ahead
-- (3), the terminal type (24) and the window size (31); of those that it offers, echo (1) and suppress go ahead.
use Rattle.std.specs.Prelude.{ℕ, ◌++◌, ◌/◌, ◌%◌, List, [], ◌∷◌, length, drop, map, ◌==◌, ◌&&◌, Bool, true, false, if◌then◌else◌}
use Rattle.gate_model.specs.declared.token.Token.{Token}
use Rattle.gate_model.specs.declared.token.Token.TheVariants.{Byte, Do, Dont, Will, Wont, Sub, Single}
use Rattle.gate_model.specs.telnet.TelnetTokens.{iac, doubled, tokens}
use Rattle.gate_model.specs.terminal.Sizes.{ScreenSize, Cut, size_at}

-- which options are on
pub record Switches : Type 0 where
  pub own_ahead : Bool
  pub own_terminal : Bool
  pub own_size : Bool
  pub peer_echo : Bool
  pub peer_ahead : Bool

-- all are off at the start
abbrev pub all_off : Switches
all_off = record { own_ahead = false; own_terminal = false; own_size = false; peer_echo = false; peer_ahead = false }

-- IAC, WILL (251), WONT (252), DO (253) or DONT (254), and the option
abbrev pub reply : ℕ → ℕ → List ℕ
reply verb option = iac ∷ verb ∷ option ∷ []

-- what is said where an option was off, and where it was on
abbrev pub if_off : Bool → List ℕ → List ℕ
if_off is_on said = if is_on then [] else said

abbrev pub if_on : Bool → List ℕ → List ℕ
if_on is_on said = if is_on then said else []

-- IAC SB 31, columns and rows as two bytes each, the high one first, with 255 doubled, and IAC SE (RFC 1073)
abbrev pub size_text : ℕ → ℕ → List ℕ
size_text cols rows = iac ∷ 250 ∷ 31 ∷ doubled (cols / 256 ∷ cols % 256 ∷ rows / 256 ∷ rows % 256 ∷ []) ++ iac ∷ 240 ∷ []

-- IAC SB 24 IS (0), the terminal type and IAC SE (RFC 1091)
abbrev pub terminal_text : List ℕ → List ℕ
terminal_text term = iac ∷ 250 ∷ 24 ∷ 0 ∷ term ++ iac ∷ 240 ∷ []

-- 24 and SEND (1), which asks for the terminal type
abbrev pub is_send : List ℕ → Bool
is_send (a ∷ b ∷ []) = a == 24 && b == 1
is_send bytes = false

-- ---- each token

abbrev pub do_answer : ℕ → ℕ → Switches → ℕ → List ℕ
do_answer cols rows s option =
    if option == 3 then if_off s.own_ahead (reply 251 3) else (
    if option == 24 then if_off s.own_terminal (reply 251 24) else (
    if option == 31 then if_off s.own_size (reply 251 31 ++ size_text cols rows) else reply 252 option))

abbrev pub dont_answer : Switches → ℕ → List ℕ
dont_answer s option =
    if option == 3 then if_on s.own_ahead (reply 252 3) else (
    if option == 24 then if_on s.own_terminal (reply 252 24) else (
    if option == 31 then if_on s.own_size (reply 252 31) else []))

abbrev pub will_answer : Switches → ℕ → List ℕ
will_answer s option =
    if option == 1 then if_off s.peer_echo (reply 253 1) else (
    if option == 3 then if_off s.peer_ahead (reply 253 3) else reply 254 option)

abbrev pub wont_answer : Switches → ℕ → List ℕ
wont_answer s option =
    if option == 1 then if_on s.peer_echo (reply 254 1) else (
    if option == 3 then if_on s.peer_ahead (reply 254 3) else [])

-- the answer to a token, for this size and terminal type
abbrev pub option_answer : ℕ → ℕ → List ℕ → Switches → Token → List ℕ
option_answer cols rows term s (Byte b) = []
option_answer cols rows term s (Do option) = do_answer cols rows s option
option_answer cols rows term s (Dont option) = dont_answer s option
option_answer cols rows term s (Will option) = will_answer s option
option_answer cols rows term s (Wont option) = wont_answer s option
option_answer cols rows term s (Sub bytes) = if s.own_terminal && is_send bytes then terminal_text term else []
option_answer cols rows term s (Single b) = []

-- an option of this side
abbrev pub own_set : Bool → Switches → ℕ → Switches
own_set on s option =
    if option == 3 then record s { own_ahead = on } else (
    if option == 24 then record s { own_terminal = on } else (
    if option == 31 then record s { own_size = on } else s))

-- an option of the peer's side
abbrev pub peer_set : Bool → Switches → ℕ → Switches
peer_set on s option =
    if option == 1 then record s { peer_echo = on } else (
    if option == 3 then record s { peer_ahead = on } else s)

-- which options are on after a token
abbrev pub switches_after : Switches → Token → Switches
switches_after s (Byte b) = s
switches_after s (Do option) = own_set true s option
switches_after s (Dont option) = own_set false s option
switches_after s (Will option) = peer_set true s option
switches_after s (Wont option) = peer_set false s option
switches_after s (Sub bytes) = s
switches_after s (Single b) = s

-- which options are on after all of them
abbrev pub switches_from : Switches → List Token → Switches
switches_from s [] = s
switches_from s (t ∷ ts) = switches_from (switches_after s t) ts

-- ---- all tokens, each with the size in force when its last byte came

-- tokens of one size
abbrev pub all_at : ScreenSize → List Token → List (ScreenSize × Token)
all_at size ts = map (λ t. (size, t)) ts

abbrev pub without_sizes : List (ScreenSize × Token) → List Token
without_sizes ts = map (λ (t : ScreenSize × Token). t.1) ts

-- the tokens that bytes complete after those before them
abbrev pub sized_from : ScreenSize → List Cut → List ℕ → List ℕ → List (ScreenSize × Token)
sized_from size cuts before [] = []
sized_from size cuts before (b ∷ bytes) =
    let now = before ++ b ∷ [] in
    all_at (size_at size cuts (length now)) (drop (length (tokens before)) (tokens now)) ++ sized_from size cuts now bytes

-- the tokens of bytes, of a screen that has this size first and is changed so
abbrev pub sized_tokens : ScreenSize → List ℕ → List Cut → List (ScreenSize × Token)
sized_tokens size bytes cuts = sized_from size cuts [] bytes

-- the answers from some switches on
abbrev pub answers_from : List ℕ → Switches → List (ScreenSize × Token) → List ℕ
answers_from term s [] = []
answers_from term s (t ∷ ts) = option_answer t.0.columns t.0.rows term s t.1 ++ answers_from term (switches_after s t.1) ts

-- the answers to a list of tokens
abbrev pub option_answers : List ℕ → List (ScreenSize × Token) → List ℕ
option_answers term ts = answers_from term all_off ts
