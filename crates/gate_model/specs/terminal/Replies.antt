-- What bytes of a Telnet host are answered: option answers and reports, in the order of the bytes that
-- cause them (RFC 855; ECMA-48, DSR and DA).
use Rattle.std.specs.Prelude.{◌≡◌, ℕ, List, [], ◌∷◌, ◌++◌, length, drop}
use Rattle.gate_model.specs.declared.control.Control.{Control}
use Rattle.gate_model.specs.declared.token.Token.{Token}
use Rattle.gate_model.specs.terminal.Effects.{effect}
use Rattle.gate_model.specs.telnet.OptionAnswers.{all_off, option_answer, option_answers, switches_from, sized_tokens}
use Rattle.gate_model.specs.terminal.Reports.{report}
use Rattle.gate_model.specs.terminal.Resizing.{resized}
use Rattle.gate_model.specs.terminal.Screens.{Happening, Does, Turns, after_controls, functions, happens, screen}
use Rattle.gate_model.specs.terminal.Sizes.{ScreenSize, Opening, Cut, AreWithin, cuts_below, size_after}
use Rattle.gate_model.specs.telnet.TelnetTokens.{tokens, doubled}
use Rattle.gate_model.specs.terminal.Terminal.{Terminal, opening_screen}

-- the reports of control functions, from a screen on
abbrev pub reports_from : Terminal → List Control → List ℕ
reports_from t [] = []
reports_from t (c ∷ cs) = report c t ++ reports_from (effect c t) cs

-- .. and of what happens to a screen: a change of its size reports nothing
abbrev pub reports_of : Terminal → List Happening → List ℕ
reports_of t [] = []
reports_of t (Does c ∷ hs) = report c t ++ reports_of (effect c t) hs
reports_of t (Turns s ∷ hs) = reports_of (resized s.columns s.rows t) hs

-- the reports of bytes and changes of size, from the start
abbrev pub reports : Opening → List ℕ → List Cut → List ℕ
reports start bytes cuts = reports_of (opening_screen start.faces start.size.columns start.size.rows) (happens bytes cuts)

-- what is new in a list past an older one
abbrev pub past : List ℕ → List ℕ → List ℕ
past old new = drop (length old) new

-- ---- byte by byte

-- what the last byte is answered: what the option answers of all bytes have past those of the bytes before
-- it, and then the same of the reports; with the changes of size that are given
abbrev pub reply_given : Opening → List Cut → List ℕ → List ℕ → ℕ → List ℕ
reply_given start cuts term before b =
    let now = before ++ b ∷ [] in
    past (option_answers term (sized_tokens start.size before cuts)) (option_answers term (sized_tokens start.size now cuts))
    ++ doubled (past (reports start before cuts) (reports start now cuts))

-- .. with those whose numbers are below that byte's, counted from 1
abbrev pub reply_after : Opening → List Cut → List ℕ → List ℕ → ℕ → List ℕ
reply_after start cuts term before b = reply_given start (cuts_below (length (before ++ b ∷ [])) cuts) term before b

abbrev pub replies_from : Opening → List Cut → List ℕ → List ℕ → List ℕ → List ℕ
replies_from start cuts term before [] = []
replies_from start cuts term before (b ∷ bytes) = reply_after start cuts term before b ++ replies_from start cuts term (before ++ b ∷ []) bytes

-- what bytes are answered, for a screen that begins and is changed so, and this terminal type
abbrev pub replies : Opening → List ℕ → List ℕ → List Cut → List ℕ
replies start term bytes cuts = replies_from start cuts term [] bytes

-- ---- token by token, while the size stays

-- what tokens are answered after those before them, which left this screen: of each its option answer, and the
-- reports of the control functions that it completes
abbrev pub replies_on : ScreenSize → List ℕ → Terminal → List Token → List Token → List ℕ
replies_on size term t before [] = []
replies_on size term t before (tok ∷ toks) =
    let now = before ++ tok ∷ [] in
    let completed = drop (length (functions before)) (functions now) in
    (option_answer size.columns size.rows term (switches_from all_off before) tok ++ doubled (reports_from t completed))
    ++ replies_on size term (after_controls t completed) now toks

-- ---- laws, which a public function of `laws::telnet` proves

-- what bytes that come after all changes of size are answered goes on from the screen before them, token by token, with
-- the size in force
abbrev pub RepliesGoOn : Type 0
RepliesGoOn = (start : Opening) (term bytes more : List ℕ) (cuts : List Cut) (given : List Token) → AreWithin (length bytes) cuts → tokens (bytes ++ more) ≡ tokens bytes ++ given
    → replies start term (bytes ++ more) cuts ≡ replies start term bytes cuts ++ replies_on (size_after start.size cuts) term (screen start bytes cuts) (tokens bytes) given

-- a change after all bytes answers nothing
abbrev pub RepliesStay : Type 0
RepliesStay = (start : Opening) (term bytes : List ℕ) (cuts : List Cut) (to : ScreenSize) → replies start term bytes (cuts ++ record { after = length bytes; size = to } ∷ []) ≡ replies start term bytes cuts
