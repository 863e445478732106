-- Laws of Telnet tokens, which public functions of `laws::telnet` prove.
use Rattle.std.specs.Prelude.{◌≡◌, ℕ, List, [], ◌∷◌, ◌++◌, map}
use Rattle.gate_model.specs.declared.token.Token.TheVariants.{Byte}
use Rattle.gate_model.specs.declared.token.Token.{Token}
use Rattle.gate_model.specs.terminal.ControlLaws.{ReadsOn}
use Rattle.gate_model.specs.telnet.OptionAnswers.{all_off, answers_from, switches_from, without_sizes, option_answers}
use Rattle.gate_model.specs.terminal.Sizes.{ScreenSize}
use Rattle.gate_model.specs.text.Reading.{read}
use Rattle.gate_model.specs.telnet.TelnetTokens.{head_token, tokens, unfinished_token, sub_token, doubled}

-- the tokens of bytes are the same however the bytes are cut
abbrev pub TokensOfAnyCutting : Type 0
TokensOfAnyCutting = (first second : List ℕ) → ReadsOn tokens unfinished_token first second

-- doubled bytes are read back as those data bytes, and leave nothing unfinished
abbrev pub DoubledIsData : Type 0
DoubledIsData = (bytes : List ℕ) → read head_token (doubled bytes) ≡ (map Byte bytes, [])

-- IAC SB, doubled bytes and IAC SE are that subnegotiation, and leave nothing unfinished
abbrev pub SubnegotiationIsRead : Type 0
SubnegotiationIsRead = (bytes : List ℕ) → read head_token (255 ∷ 250 ∷ doubled bytes ++ 255 ∷ 240 ∷ []) ≡ (sub_token bytes, [])

-- the answers to two lists of tokens are those to the first, and then to the second from the switches that it leaves
abbrev pub AnswersGoOn : Type 0
AnswersGoOn = (term : List ℕ) (first second : List (ScreenSize × Token))
    → option_answers term (first ++ second) ≡ option_answers term first ++ answers_from term (switches_from all_off (without_sizes first)) second
