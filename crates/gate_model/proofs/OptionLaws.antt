-- The answers to tokens, and worked facts of them, computed from the definition.
use Rattle.std.proofs.Common.{◌≡◌, ℕ, List, [], ◌∷◌, ◌++◌, append_assoc, refl, sym, ap, ◌∙◌}
use Rattle.std.specs.Prelude.{codes}
use Rattle.gate_model.specs.declared.token.Token.{Token}
use Rattle.gate_model.specs.text.Reading.{read}
use Rattle.gate_model.specs.terminal.Sizes.{ScreenSize, sized}
use Rattle.gate_model.specs.telnet.OptionAnswers.{Switches, all_off, option_answer, switches_after, switches_from, without_sizes, sized_tokens, answers_from, option_answers}
use Rattle.gate_model.specs.telnet.TelnetLaws.{AnswersGoOn}

pub answers_from-append : (term : List ℕ) (s : Switches) (xs ys : List (ScreenSize × Token))
    → answers_from term s (xs ++ ys) ≡ answers_from term s xs ++ answers_from term (switches_from s (without_sizes xs)) ys
answers_from-append term s [] ys = refl
answers_from-append term s (t ∷ xs) ys =
    let said : List ℕ = option_answer t.0.columns t.0.rows term s t.1 in
    ap (λ (rs : List ℕ). said ++ rs) (answers_from-append term (switches_after s t.1) xs ys)
    ∙ sym (append_assoc said (answers_from term (switches_after s t.1) xs) (answers_from term (switches_from (switches_after s t.1) (without_sizes xs)) ys))

pub answers-go-on : AnswersGoOn
answers-go-on term first second = answers_from-append term all_off first second

-- ---- worked facts

-- a login: the terminal type and the window size asked for, then SEND
login : option_answers (codes "linux") (sized_tokens (sized 80 24) (0xFF ∷ 0xFB ∷ 1 ∷ 0xFF ∷ 0xFB ∷ 3 ∷ 0xFF ∷ 0xFD ∷ 0x18 ∷ 0xFF ∷ 0xFD ∷ 0x1F ∷ 0xFF ∷ 0xFA ∷ 0x18 ∷ 1 ∷ 0xFF ∷ 0xF0 ∷ []) [])
    ≡ 0xFF ∷ 0xFD ∷ 1 ∷ 0xFF ∷ 0xFD ∷ 3 ∷ 0xFF ∷ 0xFB ∷ 0x18 ∷ 0xFF ∷ 0xFB ∷ 0x1F
    ∷ 0xFF ∷ 0xFA ∷ 0x1F ∷ 0 ∷ 0x50 ∷ 0 ∷ 0x18 ∷ 0xFF ∷ 0xF0 ∷ 0xFF ∷ 0xFA ∷ 0x18 ∷ 0 ∷ 0x6C ∷ 0x69 ∷ 0x6E ∷ 0x75 ∷ 0x78 ∷ 0xFF ∷ 0xF0 ∷ []
unfolding read
login = refl

-- repeated requests of options that are agreed to are answered once, others each time
repeated : option_answers [] (sized_tokens (sized 80 24) (0xFF ∷ 0xFB ∷ 1 ∷ 0xFF ∷ 0xFB ∷ 1 ∷ 0xFF ∷ 0xFC ∷ 1 ∷ 0xFF ∷ 0xFC ∷ 1 ∷ 0xFF ∷ 0xFB ∷ 0x2A ∷ 0xFF ∷ 0xFD ∷ 0x2A ∷ []) [])
    ≡ 0xFF ∷ 0xFD ∷ 1 ∷ 0xFF ∷ 0xFE ∷ 1 ∷ 0xFF ∷ 0xFE ∷ 0x2A ∷ 0xFF ∷ 0xFC ∷ 0x2A ∷ []
unfolding read
repeated = refl

-- 255 is doubled in a size, and isn't where an option is refused
wide : option_answers [] (sized_tokens (sized 511 255) (0xFF ∷ 0xFD ∷ 0x1F ∷ []) [])
    ≡ 0xFF ∷ 0xFB ∷ 0x1F ∷ 0xFF ∷ 0xFA ∷ 0x1F ∷ 1 ∷ 0xFF ∷ 0xFF ∷ 0 ∷ 0xFF ∷ 0xFF ∷ 0xFF ∷ 0xF0 ∷ []
unfolding read
wide = refl

option_255 : option_answers [] (sized_tokens (sized 80 24) (0xFF ∷ 0xFD ∷ 0xFF ∷ []) []) ≡ 0xFF ∷ 0xFC ∷ 0xFF ∷ []
unfolding read
option_255 = refl

-- SEND while the terminal type is off, and SEND with a byte more
too_early : option_answers (codes "linux") (sized_tokens (sized 80 24) (0xFF ∷ 0xFA ∷ 0x18 ∷ 1 ∷ 0xFF ∷ 0xF0 ∷ []) []) ≡ []
unfolding read
too_early = refl

too_much : option_answers (codes "linux") (sized_tokens (sized 80 24) (0xFF ∷ 0xFD ∷ 0x18 ∷ 0xFF ∷ 0xFA ∷ 0x18 ∷ 1 ∷ 0 ∷ 0xFF ∷ 0xF0 ∷ []) []) ≡ 0xFF ∷ 0xFB ∷ 0x18 ∷ []
unfolding read
too_much = refl
