-- What a state stands for: what the head of the bytes so far finds, whatever follows them.
use Rattle.std.specs.Prelude.{◌≡◌, ◌==◌, ℕ, List, [], ◌∷◌, ◌++◌, Some, None, if◌then◌else◌}
use Rattle.telnet_wire.specs.declared.kept.Kept.{Kept}
use Rattle.telnet_wire.specs.declared.reader.Reader.{Reader}
use Rattle.telnet_wire.specs.declared.state.State.{State}
use Rattle.telnet_wire.specs.declared.state.State.TheVariants.{Data, Command, AfterWill, AfterWont, AfterDo, AfterDont, Within, WithinCommand}
use Rattle.telnet_wire.specs.Kept.{Holds}
use Rattle.gate_model.specs.declared.token.Token.{Token}
use Rattle.gate_model.specs.text.Reading.{read}
use Rattle.gate_model.specs.telnet.TelnetTokens.{FoundToken, iac, sub_token, head_sub, head_token}

-- after IAC SB, these bytes, undoubled, and IAC
abbrev pub sub_command : List ℕ → List ℕ → FoundToken
sub_command before [] = None
sub_command before (c ∷ bs) =
    if c == iac then head_sub (before ++ iac ∷ []) bs else (
    if c == 240 then Some (sub_token before, bs) else Some ([], iac ∷ c ∷ bs))

-- with the byte b and what comes after it, the rest reads so
abbrev pub Follows : List ℕ → ℕ → (List ℕ → FoundToken) → Type 0
Follows rest b next = (more : List ℕ) → head_token (rest ++ b ∷ more) ≡ next (b ∷ more)

-- with whatever comes after it, the rest reads so
abbrev pub ReadsAs : List ℕ → (List ℕ → FoundToken) → Type 0
ReadsAs rest next = (more : List ℕ) → head_token (rest ++ more) ≡ next more

-- the bytes of a subnegotiation are kept, and the rest reads on from them so
abbrev pub ReadsOnFrom : Kept → List ℕ → (List ℕ → List ℕ → FoundToken) → Type 0
ReadsOnFrom kept rest next = (before : List ℕ) × Holds kept before × ReadsAs rest (next before)

-- the unfinished bytes for which a state stands
abbrev pub StandsFor : State → Kept → List ℕ → Type 0
StandsFor Data kept rest = rest ≡ []
StandsFor Command kept rest = rest ≡ iac ∷ []
StandsFor AfterWill kept rest = rest ≡ iac ∷ 251 ∷ []
StandsFor AfterWont kept rest = rest ≡ iac ∷ 252 ∷ []
StandsFor AfterDo kept rest = rest ≡ iac ∷ 253 ∷ []
StandsFor AfterDont kept rest = rest ≡ iac ∷ 254 ∷ []
StandsFor Within kept rest = ReadsOnFrom kept rest head_sub
StandsFor WithinCommand kept rest = ReadsOnFrom kept rest sub_command

-- the unfinished bytes for which a reader stands
abbrev pub Stands : Reader → List ℕ → Type 0
Stands reader rest = StandsFor reader.state reader.kept rest

-- bytes give these tokens, and the reader stands for those that are unfinished
pub record Gives (bytes : List ℕ) (given : List Token) (reader : Reader) : Type 0 where
  pub rest : List ℕ
  pub is : read head_token bytes ≡ (given, rest)
  pub stands : Stands reader rest
