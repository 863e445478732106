-- Worked facts of Telnet tokens, computed from the definition.
use Rattle.std.specs.Prelude.{◌≡◌, ◌++◌, [], ◌∷◌, replicate, refl}
use Rattle.gate_model.specs.declared.token.Token.TheVariants.{Byte, Do, Dont, Will, Wont, Sub, Single}
use Rattle.gate_model.specs.text.Reading.{read}
use Rattle.gate_model.specs.telnet.TelnetTokens.{tokens, unfinished_token, doubled}

-- an option may be 255
option_255 : tokens (0xFF ∷ 0xFD ∷ 0xFF ∷ []) ≡ Do 0xFF ∷ []
unfolding read
option_255 = refl

verbs : tokens (0xFF ∷ 0xFB ∷ 1 ∷ 0xFF ∷ 0xFC ∷ 2 ∷ 0xFF ∷ 0xFD ∷ 3 ∷ 0xFF ∷ 0xFE ∷ 4 ∷ []) ≡ Will 1 ∷ Wont 2 ∷ Do 3 ∷ Dont 4 ∷ []
unfolding read
verbs = refl

-- SE outside a subnegotiation, and any other byte below 241, goes with its IAC
stray_end : tokens (0xFF ∷ 0xF0 ∷ 0x41 ∷ []) ≡ Byte 0x41 ∷ []
unfolding read
stray_end = refl

below_241 : tokens (0xFF ∷ 5 ∷ 0x41 ∷ []) ≡ Byte 0x41 ∷ []
unfolding read
below_241 = refl

commands : tokens (0xFF ∷ 0xF1 ∷ 0xFF ∷ 0xF9 ∷ 0x41 ∷ []) ≡ Single 0xF1 ∷ Single 0xF9 ∷ Byte 0x41 ∷ []
unfolding read
commands = refl

data_255 : tokens (0xFF ∷ 0xFF ∷ 0x41 ∷ []) ≡ Byte 0xFF ∷ Byte 0x41 ∷ []
unfolding read
data_255 = refl

-- subnegotiations: empty, with a doubled 255, and abandoned by IAC and another byte
empty : tokens (0xFF ∷ 0xFA ∷ 0xFF ∷ 0xF0 ∷ []) ≡ Sub [] ∷ []
unfolding read
empty = refl

undoubled : tokens (0xFF ∷ 0xFA ∷ 0xFF ∷ 0xFF ∷ 1 ∷ 0xFF ∷ 0xF0 ∷ []) ≡ Sub (0xFF ∷ 1 ∷ []) ∷ []
unfolding read
undoubled = refl

abandoned : tokens (0xFF ∷ 0xFA ∷ 0x18 ∷ 0xFF ∷ 0xFB ∷ 1 ∷ []) ≡ Will 1 ∷ []
unfolding read
abandoned = refl

begun_anew : tokens (0xFF ∷ 0xFA ∷ 0x18 ∷ 0xFF ∷ 0xFA ∷ 0x18 ∷ 1 ∷ 0xFF ∷ 0xF0 ∷ []) ≡ Sub (0x18 ∷ 1 ∷ []) ∷ []
unfolding read
begun_anew = refl

dropped_within : tokens (0xFF ∷ 0xFA ∷ 0x18 ∷ 0xFF ∷ 5 ∷ 0x41 ∷ []) ≡ Byte 0x41 ∷ []
unfolding read
dropped_within = refl

-- 1,024 bytes are a subnegotiation, 1,025 aren't; what follows them is read
longest : tokens (0xFF ∷ 0xFA ∷ doubled (replicate 1024 0xFF) ++ 0xFF ∷ 0xF0 ∷ []) ≡ Sub (replicate 1024 0xFF) ∷ []
unfolding read
longest = refl

too_long : tokens (0xFF ∷ 0xFA ∷ replicate 1025 7 ++ 0xFF ∷ 0xF0 ∷ 0x41 ∷ []) ≡ Byte 0x41 ∷ []
unfolding read
too_long = refl

too_long_abandoned : tokens (0xFF ∷ 0xFA ∷ replicate 1025 7 ++ 0xFF ∷ 0xFB ∷ 1 ∷ []) ≡ Will 1 ∷ []
unfolding read
too_long_abandoned = refl

-- what isn't whole waits
waits : unfinished_token (0x41 ∷ 0xFF ∷ 0xFD ∷ []) ≡ 0xFF ∷ 0xFD ∷ []
unfolding read
waits = refl
