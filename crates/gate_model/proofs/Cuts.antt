-- What bytes and changes of size leave, one after the other.
use Rattle.std.proofs.Common.{◌≡◌, ℕ, suc, ◌+◌, ◌≤◌, List, [], ◌∷◌, ◌++◌, length, take, drop, map, true, false, refl, ap, sym, ◌∙◌, arith, append-nil, append_assoc, length-append}
use Rattle.std.specs.Prelude.{nat_lt}
use Rattle.std.proofs.Math.Seq.{drop-append_seam, drop-length}
use Rattle.std.proofs.lemmas.List.{append_cancel_left, map-append, drop-append-le, take_all, take-append-drop, take-append-le}
use Rattle.std.proofs.lemmas.List.Elements.{filter-append}
use Rattle.std.proofs.lemmas.Bool.{lt-ltb, le-ltb}
use Rattle.gate_model.specs.declared.control.Control.{Control}
use Rattle.gate_model.specs.declared.token.Token.{Token}
use Rattle.gate_model.specs.telnet.OptionAnswers.{all_off, option_answer, switches_from, all_at, without_sizes, sized_from, sized_tokens, answers_from, option_answers}
use Rattle.gate_model.specs.telnet.TelnetTokens.{tokens, unfinished_token, doubled}
use Rattle.gate_model.specs.terminal.Characters.{characters}
use Rattle.gate_model.specs.terminal.Controls.{controls}
use Rattle.gate_model.specs.terminal.Effects.{effect}
use Rattle.gate_model.specs.terminal.Replies.{reports_from, reports_of, reports, past, reply_after, replies_from, replies, replies_on, RepliesGoOn, RepliesStay}
use Rattle.gate_model.specs.terminal.Reports.{report}
use Rattle.gate_model.specs.terminal.Resizing.{resized}
use Rattle.gate_model.specs.terminal.Screens.{Happening, Does, Turns, after_controls, after_all, completed, data_of, functions, happens, happens_past, screen}
use Rattle.gate_model.specs.terminal.Terminal.{Terminal, opening_screen}
use Rattle.gate_model.specs.terminal.Sizes.{ScreenSize, Opening, Cut, AreWithin, cuts_below, size_after, size_at}
use Rattle.gate_model.specs.terminal.ScreenLaws.{ScreensGoOn, ScreensTurn}
use Rattle.gate_model.proofs.OneToken.{one-token}
use Rattle.gate_model.proofs.OptionLaws.{answers_from-append}
use Rattle.gate_model.proofs.ReplyLaws.{no_tokens, data_of-append}
use Rattle.gate_model.proofs.ScreenLaws.{after_controls-append}
use Rattle.gate_model.proofs.TokenLaws.{tokens-cut}
use Rattle.gate_model.proofs.UnfinishedLaws.{controls-stay}

-- ---- control functions, and then more

-- more bytes complete more control functions
pub functions_more : (bytes more : List ℕ) → functions (tokens (bytes ++ more)) ≡ functions (tokens bytes) ++ completed bytes more
functions_more bytes more =
    let given = tokens (unfinished_token bytes ++ more) in
    let stay = controls-stay (data_of (tokens bytes)) (data_of given) in
    let both : functions (tokens (bytes ++ more)) ≡ functions (tokens bytes) ++ stay.0 =
    ap functions (tokens-cut bytes more).given ∙ (ap (λ (d : List ℕ). controls (characters d)) (data_of-append (tokens bytes) given) ∙ stay.1) in
    both ∙ sym (ap (λ (cs : List Control). functions (tokens bytes) ++ drop (length (functions (tokens bytes))) cs) both
    ∙ ap (λ (cs : List Control). functions (tokens bytes) ++ cs) (drop-append_seam (functions (tokens bytes)) stay.0))

after_all-append : (t : Terminal) (xs ys : List Happening) → after_all t (xs ++ ys) ≡ after_all (after_all t xs) ys
after_all-append t [] ys = refl
after_all-append t (Does c ∷ xs) ys = after_all-append (effect c t) xs ys
after_all-append t (Turns s ∷ xs) ys = after_all-append (resized s.columns s.rows t) xs ys

pub after_all-does : (t : Terminal) (cs : List Control) → after_all t (map Does cs) ≡ after_controls t cs
after_all-does t [] = refl
after_all-does t (c ∷ cs) = after_all-does (effect c t) cs

reports_of-append : (t : Terminal) (xs ys : List Happening) → reports_of t (xs ++ ys) ≡ reports_of t xs ++ reports_of (after_all t xs) ys
reports_of-append t [] ys = refl
reports_of-append t (Does c ∷ xs) ys = ap (λ (rs : List ℕ). report c t ++ rs) (reports_of-append (effect c t) xs ys) ∙ sym (append_assoc (report c t) (reports_of (effect c t) xs) (reports_of (after_all (effect c t) xs) ys))
reports_of-append t (Turns s ∷ xs) ys = reports_of-append (resized s.columns s.rows t) xs ys

reports_of-does : (t : Terminal) (cs : List Control) → reports_of t (map Does cs) ≡ reports_from t cs
reports_of-does t [] = refl
reports_of-does t (c ∷ cs) = ap (λ (rs : List ℕ). report c t ++ rs) (reports_of-does (effect c t) cs)

-- ---- changes of size among bytes

cut_first : (n : ℕ) (cut : Cut) (cuts : List Cut) → AreWithin n (cut ∷ cuts) → cut.after ≤ n
cut_first n cut cuts w = w 0 cut (omega arith)

cut_rest : (n : ℕ) (cut : Cut) (cuts : List Cut) → AreWithin n (cut ∷ cuts) → AreWithin n cuts
cut_rest n cut cuts w = λ i d lt. w (suc i) d (omega (arith, lt))

-- some first bytes complete some first control functions
functions_front : (n : ℕ) (bytes : List ℕ) → length (functions (tokens (take n bytes))) ≤ length (functions (tokens bytes))
functions_front n bytes = omega (
  arith,
  ap length (sym (ap (λ (bs : List ℕ). functions (tokens bs)) (take-append-drop n bytes)) ∙ functions_more (take n bytes) (drop n bytes)),
  length-append (functions (tokens (take n bytes))) (completed (take n bytes) (drop n bytes)),
)

happens-more : (done : ℕ) (bytes more : List ℕ) (cuts : List Cut) → AreWithin (length bytes) cuts → done ≤ length (functions (tokens bytes))
    → happens_past done (bytes ++ more) cuts ≡ happens_past done bytes cuts ++ map Does (completed bytes more)
happens-more done bytes more [] w le =
    let fs = functions (tokens bytes) in
    ap (λ (cs : List Control). map Does (drop done cs)) (functions_more bytes more)
    ∙ ap (map Does) (drop-append-le done fs (completed bytes more) le)
    ∙ map-append Does (drop done fs) (completed bytes more)
happens-more done bytes more (cut ∷ cuts) w le =
    let same : take cut.after (bytes ++ more) ≡ take cut.after bytes = take-append-le cut.after bytes more (cut_first (length bytes) cut cuts w) in
    let before = functions (tokens (take cut.after bytes)) in
    ap (λ (bs : List ℕ). map Does (drop done (functions (tokens bs))) ++ Turns cut.size ∷ happens_past (length (functions (tokens bs))) (bytes ++ more) cuts) same
    ∙ ap (λ (hs : List Happening). map Does (drop done before) ++ Turns cut.size ∷ hs) (happens-more (length before) bytes more cuts (cut_rest (length bytes) cut cuts w) (functions_front cut.after bytes))
    ∙ sym (append_assoc (map Does (drop done before)) (Turns cut.size ∷ happens_past (length before) bytes cuts) (map Does (completed bytes more)))

happens-turn : (done : ℕ) (bytes : List ℕ) (cuts : List Cut) (to : ScreenSize) → happens_past done bytes (cuts ++ record { after = length bytes; size = to } ∷ []) ≡ happens_past done bytes cuts ++ Turns to ∷ []
happens-turn done bytes [] to =
    let fs = functions (tokens bytes) in
    ap (λ (bs : List ℕ). map Does (drop done (functions (tokens bs))) ++ Turns to ∷ map Does (drop (length (functions (tokens bs))) fs)) (take_all (length bytes) bytes (omega arith))
    ∙ ap (λ (cs : List Control). map Does (drop done fs) ++ Turns to ∷ map Does cs) (drop-length fs)
happens-turn done bytes (cut ∷ cuts) to =
    let before = functions (tokens (take cut.after bytes)) in
    ap (λ (hs : List Happening). map Does (drop done before) ++ Turns cut.size ∷ hs) (happens-turn (length before) bytes cuts to)
    ∙ sym (append_assoc (map Does (drop done before)) (Turns cut.size ∷ happens_past (length before) bytes cuts) (Turns to ∷ []))

pub screens-go-on : ScreensGoOn
screens-go-on start bytes more cuts w =
    let t = opening_screen start.faces start.size.columns start.size.rows in
    ap (after_all t) (happens-more 0 bytes more cuts w (omega arith))
    ∙ after_all-append t (happens bytes cuts) (map Does (completed bytes more))
    ∙ after_all-does (screen start bytes cuts) (completed bytes more)

pub screens-turn : ScreensTurn
screens-turn start bytes cuts to =
    let t = opening_screen start.faces start.size.columns start.size.rows in
    ap (after_all t) (happens-turn 0 bytes cuts to) ∙ after_all-append t (happens bytes cuts) (Turns to ∷ [])

reports-go-on : (start : Opening) (bytes more : List ℕ) (cuts : List Cut) → AreWithin (length bytes) cuts → reports start (bytes ++ more) cuts ≡ reports start bytes cuts ++ reports_from (screen start bytes cuts) (completed bytes more)
reports-go-on start bytes more cuts w =
    let t = opening_screen start.faces start.size.columns start.size.rows in
    ap (reports_of t) (happens-more 0 bytes more cuts w (omega arith))
    ∙ reports_of-append t (happens bytes cuts) (map Does (completed bytes more))
    ∙ ap (λ (rs : List ℕ). reports start bytes cuts ++ rs) (reports_of-does (screen start bytes cuts) (completed bytes more))

-- ---- tokens with their sizes

sized-append : (size : ScreenSize) (cuts : List Cut) (before xs ys : List ℕ) → sized_from size cuts before (xs ++ ys) ≡ sized_from size cuts before xs ++ sized_from size cuts (before ++ xs) ys
sized-append size cuts before [] ys = ap (λ (bs : List ℕ). sized_from size cuts bs ys) (sym (append-nil before))
sized-append size cuts before (b ∷ xs) ys =
    let now = before ++ b ∷ [] in
    let first : List (ScreenSize × Token) = all_at (size_at size cuts (length now)) (drop (length (tokens before)) (tokens now)) in
    ap (λ (ts : List (ScreenSize × Token)). first ++ ts) (sized-append size cuts now xs ys)
    ∙ sym (append_assoc first (sized_from size cuts now xs) (sized_from size cuts (now ++ xs) ys))
    ∙ ap (λ (bs : List ℕ). (first ++ sized_from size cuts now xs) ++ sized_from size cuts bs ys) (append_assoc before (b ∷ []) xs)

tokens_past : (before more : List ℕ) (given : List Token) → tokens (before ++ more) ≡ tokens before ++ given → drop (length (tokens before)) (tokens (before ++ more)) ≡ given
tokens_past before more given e = ap (drop (length (tokens before))) e ∙ drop-append_seam (tokens before) given

untold : (size : ScreenSize) (ts : List Token) → without_sizes (all_at size ts) ≡ ts
untold size [] = refl
untold size (t ∷ ts) = ap (λ (us : List Token). t ∷ us) (untold size ts)

sized-are : (size : ScreenSize) (cuts : List Cut) (before bytes : List ℕ) → tokens before ++ without_sizes (sized_from size cuts before bytes) ≡ tokens (before ++ bytes)
sized-are size cuts before [] = append-nil (tokens before) ∙ ap tokens (sym (append-nil before))
sized-are size cuts before (b ∷ bytes) =
    let now = before ++ b ∷ [] in
    let given = tokens (unfinished_token before ++ b ∷ []) in
    let more : tokens now ≡ tokens before ++ given = (tokens-cut before (b ∷ [])).given in
    let new : List Token = drop (length (tokens before)) (tokens now) in
    let is : new ≡ given = tokens_past before (b ∷ []) given more in
    let rest : List (ScreenSize × Token) = sized_from size cuts now bytes in
    ap (λ (ts : List Token). tokens before ++ ts) (map-append (λ (p : ScreenSize × Token). p.1) (all_at (size_at size cuts (length now)) new) rest
    ∙ ap (λ (ts : List Token). ts ++ without_sizes rest) (untold (size_at size cuts (length now)) new ∙ is))
    ∙ (sym (append_assoc (tokens before) given (without_sizes rest))
    ∙ (ap (λ (ts : List Token). ts ++ without_sizes rest) (sym more)
    ∙ (sized-are size cuts now bytes ∙ ap tokens (append_assoc before (b ∷ []) bytes))))

sized-tokens : (size : ScreenSize) (cuts : List Cut) (bytes : List ℕ) → without_sizes (sized_tokens size bytes cuts) ≡ tokens bytes
sized-tokens size cuts bytes = ap (λ (ts : List Token). ts ++ without_sizes (sized_tokens size bytes cuts)) (sym no_tokens) ∙ sized-are size cuts [] bytes

-- what the option answers have past those before, by one byte
answers-past : (size : ScreenSize) (cuts : List Cut) (term before : List ℕ) (b : ℕ) (given : List Token) → tokens (before ++ b ∷ []) ≡ tokens before ++ given
    → past (option_answers term (sized_tokens size before cuts)) (option_answers term (sized_tokens size (before ++ b ∷ []) cuts))
    ≡ answers_from term (switches_from all_off (tokens before)) (all_at (size_at size cuts (length (before ++ b ∷ []))) given)
answers-past size cuts term before b given e =
    let now = before ++ b ∷ [] in
    let old : List (ScreenSize × Token) = sized_tokens size before cuts in
    let told : List Token → List (ScreenSize × Token) = λ ts. all_at (size_at size cuts (length now)) ts in
    let new : sized_tokens size now cuts ≡ old ++ told given =
    sized-append size cuts [] before (b ∷ [])
    ∙ ap (λ (ts : List (ScreenSize × Token)). old ++ ts) (append-nil (told (drop (length (tokens before)) (tokens now))) ∙ ap told (tokens_past before (b ∷ []) given e)) in
    ap (λ (ts : List (ScreenSize × Token)). past (option_answers term old) (option_answers term ts)) new
    ∙ ap (past (option_answers term old)) (answers_from-append term all_off old (told given))
    ∙ drop-append_seam (option_answers term old) (answers_from term (switches_from all_off (without_sizes old)) (told given))
    ∙ ap (λ (ts : List Token). answers_from term (switches_from all_off ts) (told given)) (sized-tokens size cuts before)

-- ---- what is answered after all changes

pub all_below : (n : ℕ) (cuts : List Cut) → AreWithin n cuts → cuts_below (n + 1) cuts ≡ cuts
all_below n [] w = refl
all_below n (cut ∷ cuts) w =
    let low : nat_lt cut.after (n + 1) ≡ true = lt-ltb cut.after (n + 1) (omega (arith, cut_first n cut cuts w)) in
    rw low (ap (λ (cs : List Cut). cut ∷ cs) (all_below n cuts (cut_rest n cut cuts w)))

within-more : (bytes : List ℕ) (b : ℕ) (cuts : List Cut) → AreWithin (length bytes) cuts → AreWithin (length (bytes ++ b ∷ [])) cuts
within-more bytes b cuts w = λ i d lt. omega (arith, w i d lt, length-append bytes (b ∷ []))

-- the same of lists of tokens
abbrev pub after_tokens : List Token → List Token → List Control
after_tokens before ts = drop (length (functions before)) (functions (before ++ ts))

token_functions : (before ts : List Token) → functions (before ++ ts) ≡ functions before ++ after_tokens before ts
token_functions before ts =
    let stay = controls-stay (data_of before) (data_of ts) in
    let both : functions (before ++ ts) ≡ functions before ++ stay.0 = ap (λ (d : List ℕ). controls (characters d)) (data_of-append before ts) ∙ stay.1 in
    both ∙ sym (ap (λ (cs : List Control). functions before ++ drop (length (functions before)) cs) both ∙ ap (λ (cs : List Control). functions before ++ cs) (drop-append_seam (functions before) stay.0))

pub after_tokens-append : (before xs ys : List Token) → after_tokens before (xs ++ ys) ≡ after_tokens before xs ++ after_tokens (before ++ xs) ys
after_tokens-append before xs ys =
    append_cancel_left (functions before) (after_tokens before (xs ++ ys)) (after_tokens before xs ++ after_tokens (before ++ xs) ys)
    (sym (token_functions before (xs ++ ys))
    ∙ (ap functions (sym (append_assoc before xs ys))
    ∙ (token_functions (before ++ xs) ys
    ∙ (ap (λ (cs : List Control). cs ++ after_tokens (before ++ xs) ys) (token_functions before xs)
    ∙ append_assoc (functions before) (after_tokens before xs) (after_tokens (before ++ xs) ys)))))

pub replies_on-append : (size : ScreenSize) (term : List ℕ) (t : Terminal) (before xs ys : List Token)
    → replies_on size term t before (xs ++ ys) ≡ replies_on size term t before xs ++ replies_on size term (after_controls t (after_tokens before xs)) (before ++ xs) ys
replies_on-append size term t before [] ys =
    let none : after_tokens before [] ≡ [] = ap (λ (ts : List Token). drop (length (functions before)) (functions ts)) (append-nil before) ∙ drop-length (functions before) in
    ap (λ (ts : List Token). replies_on size term t ts ys) (sym (append-nil before))
    ∙ ap (λ (cs : List Control). replies_on size term (after_controls t cs) (before ++ []) ys) (sym none)
replies_on-append size term t before (tok ∷ xs) ys =
    let now = before ++ tok ∷ [] in
    let one = after_tokens before (tok ∷ []) in
    let said : List ℕ = option_answer size.columns size.rows term (switches_from all_off before) tok ++ doubled (reports_from t one) in
    let mid : after_tokens before (tok ∷ xs) ≡ one ++ after_tokens now xs = after_tokens-append before (tok ∷ []) xs in
    ap (λ (rs : List ℕ). said ++ rs) (replies_on-append size term (after_controls t one) now xs ys)
    ∙ (sym (append_assoc said (replies_on size term (after_controls t one) now xs) (replies_on size term (after_controls (after_controls t one) (after_tokens now xs)) (now ++ xs) ys))
    ∙ (ap (λ (u : Terminal). (said ++ replies_on size term (after_controls t one) now xs) ++ replies_on size term u (now ++ xs) ys)
    (sym (after_controls-append t one (after_tokens now xs)) ∙ ap (after_controls t) (sym mid))
    ∙ ap (λ (ts : List Token). (said ++ replies_on size term (after_controls t one) now xs) ++ replies_on size term (after_controls t (after_tokens before (tok ∷ xs))) ts ys) (append_assoc before (tok ∷ []) xs)))

past-same : (xs : List ℕ) → past xs xs ≡ []
past-same xs = drop-length xs

-- one byte
pub reply_is : (start : Opening) (cuts : List Cut) (term before : List ℕ) (b : ℕ) (given : List Token) → AreWithin (length before) cuts → length given ≤ 1 → tokens (before ++ b ∷ []) ≡ tokens before ++ given
    → reply_after start cuts term before b ≡ replies_on (size_after start.size cuts) term (screen start before cuts) (tokens before) given
reply_is start cuts term before b given w le e = by_given given le e (answers-past start.size cuts term before b given e)
  where
    now : List ℕ
    now = before ++ b ∷ []

    counted : length now ≡ length before + 1
    counted = length-append before (b ∷ [])

    all : cuts_below (length now) cuts ≡ cuts
    all = ap (λ n. cuts_below n cuts) counted ∙ all_below (length before) cuts w

    said : List ℕ
    said = reports_from (screen start before cuts) (completed before (b ∷ []))

    reported : past (reports start before cuts) (reports start now cuts) ≡ said
    reported = ap (past (reports start before cuts)) (reports-go-on start before (b ∷ []) cuts w) ∙ drop-append_seam (reports start before cuts) said

    earlier : reply_after start cuts term before b ≡ past (option_answers term (sized_tokens start.size before cuts)) (option_answers term (sized_tokens start.size now cuts)) ++ doubled said
    earlier =
        ap (λ (cs : List Cut). past (option_answers term (sized_tokens start.size before cs)) (option_answers term (sized_tokens start.size now cs)) ++ doubled (past (reports start before cs) (reports start now cs))) all
        ∙ ap (λ (rs : List ℕ). past (option_answers term (sized_tokens start.size before cuts)) (option_answers term (sized_tokens start.size now cuts)) ++ doubled rs) reported

    in_force : size_at start.size cuts (length now) ≡ size_after start.size cuts
    in_force = ap (size_after start.size) all

    by_given : (ts : List Token) → length ts ≤ 1 → tokens now ≡ tokens before ++ ts
        → past (option_answers term (sized_tokens start.size before cuts)) (option_answers term (sized_tokens start.size now cuts)) ≡ answers_from term (switches_from all_off (tokens before)) (all_at (size_at start.size cuts (length now)) ts)
        → reply_after start cuts term before b ≡ replies_on (size_after start.size cuts) term (screen start before cuts) (tokens before) ts
    by_given [] le e is =
        let same : tokens now ≡ tokens before = e ∙ append-nil (tokens before) in
        let none : completed before (b ∷ []) ≡ [] = ap (λ (ts : List Token). drop (length (functions (tokens before))) (functions ts)) same ∙ drop-length (functions (tokens before)) in
        earlier ∙ ap (λ (rs : List ℕ). rs ++ doubled said) is ∙ ap (λ (cs : List Control). doubled (reports_from (screen start before cuts) cs)) none
    by_given (tok ∷ []) le e is =
        let done : completed before (b ∷ []) ≡ after_tokens (tokens before) (tok ∷ []) = ap (λ (ts : List Token). drop (length (functions (tokens before))) (functions ts)) e in
        let answer : ScreenSize → List ℕ = λ s. option_answer s.columns s.rows term (switches_from all_off (tokens before)) tok in
        earlier
        ∙ ap (λ (rs : List ℕ). rs ++ doubled said) (is ∙ append-nil (answer (size_at start.size cuts (length now))) ∙ ap answer in_force)
        ∙ ap (λ (cs : List Control). answer (size_after start.size cuts) ++ doubled (reports_from (screen start before cuts) cs)) done
        ∙ sym (append-nil (answer (size_after start.size cuts) ++ doubled (reports_from (screen start before cuts) (after_tokens (tokens before) (tok ∷ [])))))
    by_given (t ∷ u ∷ ts) le e is = absurd (omega (arith, le))

replies_after_all : (start : Opening) (cuts : List Cut) (term before more : List ℕ) (given : List Token) → AreWithin (length before) cuts → tokens (before ++ more) ≡ tokens before ++ given
    → replies_from start cuts term before more ≡ replies_on (size_after start.size cuts) term (screen start before cuts) (tokens before) given
replies_after_all start cuts term before [] given w e =
    let none : given ≡ [] = append_cancel_left (tokens before) given [] (sym e ∙ (ap tokens (append-nil before) ∙ sym (append-nil (tokens before)))) in
    sym (ap (replies_on (size_after start.size cuts) term (screen start before cuts) (tokens before)) none)
replies_after_all start cuts term before (b ∷ more) given w e =
    let now = before ++ b ∷ [] in
    let one = tokens (unfinished_token before ++ b ∷ []) in
    let first : tokens now ≡ tokens before ++ one = (tokens-cut before (b ∷ [])).given in
    let rest = tokens (unfinished_token now ++ more) in
    let next : tokens (now ++ more) ≡ tokens now ++ rest = (tokens-cut now more).given in
    let both : given ≡ one ++ rest = append_cancel_left (tokens before) given (one ++ rest)
    (sym e ∙ (ap tokens (sym (append_assoc before (b ∷ []) more)) ∙ (next ∙ (ap (λ (ts : List Token). ts ++ rest) first ∙ append_assoc (tokens before) one rest)))) in
    let t = screen start before cuts in
    let s = size_after start.size cuts in
    let done : completed before (b ∷ []) ≡ after_tokens (tokens before) one = ap (λ (ts : List Token). drop (length (functions (tokens before))) (functions ts)) first in
    let turned : screen start now cuts ≡ after_controls t (after_tokens (tokens before) one) = screens-go-on start before (b ∷ []) cuts w ∙ ap (after_controls t) done in
    ap (λ (rs : List ℕ). rs ++ replies_from start cuts term now more) (reply_is start cuts term before b one w (one-token before b) first)
    ∙ ap (λ (rs : List ℕ). replies_on s term t (tokens before) one ++ rs) (replies_after_all start cuts term now more rest (within-more before b cuts w) next)
    ∙ ap (λ (u : Terminal). replies_on s term t (tokens before) one ++ replies_on s term u (tokens now) rest) turned
    ∙ ap (λ (ts : List Token). replies_on s term t (tokens before) one ++ replies_on s term (after_controls t (after_tokens (tokens before) one)) ts rest) first
    ∙ sym (ap (replies_on s term t (tokens before)) both ∙ replies_on-append s term t (tokens before) one rest)

from-append : (start : Opening) (cuts : List Cut) (term before bytes more : List ℕ) → replies_from start cuts term before (bytes ++ more) ≡ replies_from start cuts term before bytes ++ replies_from start cuts term (before ++ bytes) more
from-append start cuts term before [] more = ap (λ (bs : List ℕ). replies_from start cuts term bs more) (sym (append-nil before))
from-append start cuts term before (b ∷ bytes) more =
    let first : List ℕ = reply_after start cuts term before b in
    let next : List ℕ = before ++ b ∷ [] in
    ap (λ (rs : List ℕ). first ++ rs) (from-append start cuts term next bytes more)
    ∙ (sym (append_assoc first (replies_from start cuts term next bytes) (replies_from start cuts term (next ++ bytes) more))
    ∙ ap (λ (bs : List ℕ). (first ++ replies_from start cuts term next bytes) ++ replies_from start cuts term bs more) (append_assoc before (b ∷ []) bytes))

-- more bytes are answered as much or more
pub replies-longer : (start : Opening) (term bytes more : List ℕ) (cuts : List Cut) → length (replies start term bytes cuts) ≤ length (replies start term (bytes ++ more) cuts)
replies-longer start term bytes more cuts = omega (arith, ap length (from-append start cuts term [] bytes more), length-append (replies start term bytes cuts) (replies_from start cuts term bytes more))

pub replies-go-on : RepliesGoOn
replies-go-on start term bytes more cuts given w e = from-append start cuts term [] bytes more ∙ ap (λ (rs : List ℕ). replies start term bytes cuts ++ rs) (replies_after_all start cuts term bytes more given w e)

late : (n k : ℕ) (cuts : List Cut) (to : ScreenSize) → k ≤ n → cuts_below k (cuts ++ record { after = n; size = to } ∷ []) ≡ cuts_below k cuts
late n k cuts to le =
    let high : nat_lt n k ≡ false = le-ltb n k le in
    filter-append (λ (cut : Cut). nat_lt cut.after k) cuts (record { after = n; size = to } ∷ []) ∙ rw high (append-nil (cuts_below k cuts))

replies-late : (start : Opening) (cuts : List Cut) (n : ℕ) (to : ScreenSize) (term before bytes : List ℕ) → length before + length bytes ≤ n
    → replies_from start (cuts ++ record { after = n; size = to } ∷ []) term before bytes ≡ replies_from start cuts term before bytes
replies-late start cuts n to term before [] le = refl
replies-late start cuts n to term before (b ∷ bytes) le =
    let now = before ++ b ∷ [] in
    let more : List Cut = cuts ++ record { after = n; size = to } ∷ [] in
    let small : length now ≤ n = omega (arith, le, length-append before (b ∷ [])) in
    ap (λ (cs : List Cut). (past (option_answers term (sized_tokens start.size before cs)) (option_answers term (sized_tokens start.size now cs)) ++ doubled (past (reports start before cs) (reports start now cs))) ++ replies_from start more term now bytes)
    (late n (length now) cuts to small)
    ∙ ap (λ (rs : List ℕ). reply_after start cuts term before b ++ rs) (replies-late start cuts n to term now bytes (omega (arith, le, length-append before (b ∷ []))))

pub replies-stay : RepliesStay
replies-stay start term bytes cuts to = replies-late start cuts (length bytes) to term [] bytes (omega arith)
