-- Reports, data bytes and switches of lists that are joined.
use Rattle.std.proofs.Common.{◌≡◌, ℕ, List, [], ◌∷◌, ◌++◌, refl, ap, sym, ◌∙◌, append-nil, append_assoc}
use Rattle.std.proofs.lemmas.Grind.{flat_map-append}
use Rattle.bstr.proofs.Computing.{computing}
use Rattle.gate_model.specs.declared.control.Control.{Control}
use Rattle.gate_model.specs.declared.token.Token.{Token}
use Rattle.gate_model.specs.terminal.Effects.{effect}
use Rattle.gate_model.specs.telnet.OptionAnswers.{Switches, switches_after, switches_from}
use Rattle.gate_model.specs.text.Reading.{read}
use Rattle.gate_model.specs.terminal.Reports.{report}
use Rattle.gate_model.specs.terminal.Screens.{after_controls, data_byte, data_of, functions}
use Rattle.gate_model.specs.telnet.TelnetTokens.{tokens, sent_byte, doubled}
use Rattle.gate_model.specs.terminal.Terminal.{Terminal}
use Rattle.gate_model.specs.terminal.Replies.{reports_from}

-- no bytes, and no tokens
pub no_tokens : tokens [] ≡ []
unfolding read
no_tokens = refl

pub no_functions : functions [] ≡ []
unfolding computing read
no_functions = refl

pub switches_from-append : (s : Switches) (xs ys : List Token) → switches_from s (xs ++ ys) ≡ switches_from (switches_from s xs) ys
switches_from-append s [] ys = refl
switches_from-append s (t ∷ xs) ys = switches_from-append (switches_after s t) xs ys

pub data_of-append : (xs ys : List Token) → data_of (xs ++ ys) ≡ data_of xs ++ data_of ys
data_of-append xs ys = flat_map-append data_byte xs ys

pub doubled-append : (xs ys : List ℕ) → doubled (xs ++ ys) ≡ doubled xs ++ doubled ys
doubled-append xs ys = flat_map-append sent_byte xs ys

pub reports_from-append : (t : Terminal) (xs ys : List Control) → reports_from t (xs ++ ys) ≡ reports_from t xs ++ reports_from (after_controls t xs) ys
reports_from-append t [] ys = refl
reports_from-append t (c ∷ xs) ys =
    ap (λ (rs : List ℕ). report c t ++ rs) (reports_from-append (effect c t) xs ys)
    ∙ sym (append_assoc (report c t) (reports_from (effect c t) xs) (reports_from (after_controls (effect c t) xs) ys))

-- a token without data completes no control function
pub functions-command : (before : List Token) (t : Token) → data_byte t ≡ [] → functions (before ++ t ∷ []) ≡ functions before
functions-command before t none =
    let d : data_of (before ++ t ∷ []) ≡ data_of before = data_of-append before (t ∷ []) ∙ (ap (λ (bs : List ℕ). data_of before ++ (bs ++ [])) none ∙ append-nil (data_of before)) in
    rw d refl
