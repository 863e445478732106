-- How long what bytes and changes of size are answered is.
use Rattle.std.proofs.Common.{◌≡◌, ℕ, zero, suc, ◌+◌, ◌<◌, ◌*◌, ◌≤◌, List, [], ◌∷◌, ◌++◌, length, take, drop, map, Bool, true, false, Option, Some, None, refl, ap, sym, ◌∙◌, subst, arith, append-nil, append_assoc, length-append, length-take, length-drop}
use Rattle.std.specs.Prelude.{IfSome, nat_lt, if◌then◌else◌}
use Rattle.std.specs.Option.{option_map}
use Rattle.std.proofs.lemmas.Bool.Decides.{nat_tests}
use Rattle.std.proofs.lemmas.List.FromFn.{length-map-range_with_len}
use Rattle.gate_model.specs.declared.control.Control.{Control}
use Rattle.gate_model.specs.declared.token.Token.{Token}
use Rattle.gate_model.specs.telnet.OptionAnswers.{all_off, option_answer, switches_from}
use Rattle.gate_model.specs.telnet.TelnetTokens.{tokens, unfinished_token, doubled}
use Rattle.gate_model.specs.terminal.Effects.{effect}
use Rattle.gate_model.specs.terminal.Replies.{reports_from, reply_given, reply_after, replies_from, replies, replies_on}
use Rattle.gate_model.specs.terminal.Resizing.{resized, saved_within}
use Rattle.gate_model.specs.terminal.Screens.{Happening, Does, Turns, after_all, data_byte, data_of, functions, happens_past, screen}
use Rattle.gate_model.specs.terminal.Sizes.{ScreenSize, Opening, IsScreenSize, Cut, AreWithin, cuts_below, size_after}
use Rattle.gate_model.specs.terminal.TabStops.{stops_resized}
use Rattle.gate_model.specs.terminal.Terminal.{Saved, Terminal, first_stops, is_first_stop, opening_screen}
use Rattle.gate_model.proofs.Cuts.{reply_is}
use Rattle.gate_model.proofs.FewCursor.{Near, opening-near, effect-near}
use Rattle.gate_model.proofs.FewReplies.{answer-short, functions-short, reports-short, tokens-short}
use Rattle.gate_model.proofs.FewTyped.{doubled-short}
use Rattle.gate_model.proofs.OneToken.{one-token}
use Rattle.gate_model.proofs.ReplyLaws.{no_tokens, data_of-append}
use Rattle.gate_model.proofs.ScreenLaws.{effect-keeps}
use Rattle.gate_model.proofs.TokenLaws.{tokens-cut}
use Rattle.gate_model.proofs.UnfinishedLaws.{controls-stay}
use Rattle.gate_model.specs.terminal.Characters.{characters}
use Rattle.gate_model.specs.terminal.Controls.{controls}

-- ---- the cursor stays on a screen that gets other sizes

stops_fit : (c : ℕ) (stops : List Bool) → length (stops_resized c stops) ≤ c
stops_fit c stops = omega (arith, length-append (take c stops) (drop (length stops) (first_stops c)), length-take c stops, length-drop (length stops) (first_stops c), length-map-range_with_len is_first_stop 0 c)

saved_fits : (c r : ℕ) (o : Option Saved) → 1 ≤ c → 1 ≤ r → IfSome (option_map (saved_within c r) o) (λ s. (s.x < c) × (s.y < r))
saved_fits c r None some lines = tt
saved_fits c r (Some s) some lines = (omega (arith, some), omega (arith, lines))

resized-near : (c r : ℕ) (t : Terminal) → 1 ≤ c → 1 ≤ r → Near (resized c r t)
resized-near c r t some lines = record { x = omega (arith, some); y = omega (arith, lines); bottom = omega (arith, lines); stops = stops_fit c t.stops; saved = saved_fits c r t.saved some lines }

record Fits (t : Terminal) : Type 0 where
  near : Near t
  cols : t.grid.cols ≤ 512
  rows : t.grid.rows ≤ 512

-- each size is one of a screen
abbrev pub AreSizes : List Cut → Type 0
AreSizes [] = Unit {0}
AreSizes (cut ∷ cuts) = IsScreenSize cut.size.columns cut.size.rows × AreSizes cuts

pub sizes_both : (xs ys : List Cut) → AreSizes xs → AreSizes ys → AreSizes (xs ++ ys)
sizes_both [] ys a b = b
sizes_both (x ∷ xs) ys a b = (a.0, sizes_both xs ys a.1 b)

sizes_below : (n : ℕ) (cuts : List Cut) → AreSizes cuts → AreSizes (cuts_below n cuts)
sizes_below n [] a = tt
sizes_below n (cut ∷ cuts) a = pick (nat_lt cut.after n) (sizes_below n cuts a.1)
  where
    pick : (b : Bool) → AreSizes (cuts_below n cuts) → AreSizes (if b then cut ∷ cuts_below n cuts else cuts_below n cuts)
    pick true rest = (a.0, rest)
    pick false rest = rest

fits_all : (t : Terminal) (cs : List Control) (hs : List Happening) → Fits t → ((u : Terminal) → Fits u → Fits (after_all u hs)) → Fits (after_all t (map Does cs ++ hs))
fits_all t [] hs f on = on t f
fits_all t (c ∷ cs) hs f on = let k = effect-keeps c t in fits_all (effect c t) cs hs record { near = effect-near c t f.near; cols = omega (arith, k.columns, f.cols); rows = omega (arith, k.rows, f.rows) } on

happens_fits : (t : Terminal) (done : ℕ) (bytes : List ℕ) (cuts : List Cut) → Fits t → AreSizes cuts → Fits (after_all t (happens_past done bytes cuts))
happens_fits t done bytes [] f a = subst (λ (hs : List Happening). Fits (after_all t hs)) (append-nil (map Does (drop done (functions (tokens bytes))))) (fits_all t (drop done (functions (tokens bytes))) [] f (λ u g. g))
happens_fits t done bytes (cut ∷ cuts) f a =
    let before = functions (tokens (take cut.after bytes)) in
    fits_all t (drop done before) (Turns cut.size ∷ happens_past (length before) bytes cuts) f (λ u g.
    happens_fits (resized cut.size.columns cut.size.rows u) (length before) bytes cuts record { near = resized-near cut.size.columns cut.size.rows u a.0.some_columns a.0.some_rows; cols = a.0.few_columns; rows = omega (arith, a.0.few_rows) } a.1)

-- ---- one byte

below_again : (n : ℕ) (cuts : List Cut) → cuts_below n (cuts_below n cuts) ≡ cuts_below n cuts
below_again n [] = refl
below_again n (cut ∷ cuts) = pick (nat_lt cut.after n) refl (below_again n cuts)
  where
    pick : (b : Bool) → nat_lt cut.after n ≡ b → cuts_below n (cuts_below n cuts) ≡ cuts_below n cuts → cuts_below n (if b then cut ∷ cuts_below n cuts else cuts_below n cuts) ≡ (if b then cut ∷ cuts_below n cuts else cuts_below n cuts)
    pick true e rest = rw e (ap (λ (cs : List Cut). cut ∷ cs) rest)
    pick false e rest = rest

within_below : (n : ℕ) (cuts : List Cut) → AreWithin n (cuts_below (n + 1) cuts)
within_below n [] = λ i d lt. absurd (omega (arith, lt))
within_below n (cut ∷ cuts) = pick (nat_lt cut.after (n + 1)) refl (within_below n cuts)
  where
    both : (cs : List Cut) → cut.after ≤ n → AreWithin n cs → AreWithin n (cut ∷ cs)
    both cs le w zero d lt = le
    both cs le w (suc i) d lt = w i d (omega (arith, lt))

    pick : (b : Bool) → nat_lt cut.after (n + 1) ≡ b → AreWithin n (cuts_below (n + 1) cuts) → AreWithin n (if b then cut ∷ cuts_below (n + 1) cuts else cuts_below (n + 1) cuts)
    pick true e rest = let lt : cut.after < n + 1 = grind (arith, nat_tests) in both (cuts_below (n + 1) cuts) (omega (arith, lt)) rest
    pick false e rest = rest

module _ (start : Opening) (cuts : List Cut) (term : List ℕ) (sized : IsScreenSize start.size.columns start.size.rows) (sizes : AreSizes cuts) (few : length term ≤ 40) where
  by_given : (s : ScreenSize) (t : Terminal) (before given : List Token) → Fits t → length given ≤ 1
      → length (replies_on s term t before given) + (46 * length (data_of (before ++ given)) + (46 * length (functions before) + 46 * length before))
      ≤ 46 * length (before ++ given) + (46 * length (data_of before) + 46 * length (functions (before ++ given)))
  by_given s t before [] f le = omega (arith, ap length (append-nil before), ap (λ (ts : List Token). length (data_of ts)) (append-nil before), ap (λ (ts : List Token). length (functions ts)) (append-nil before))
  by_given s t before (tok ∷ []) f le =
      let now = before ++ tok ∷ [] in
      let done : List Control = drop (length (functions before)) (functions now) in
      let answer : List ℕ = option_answer s.columns s.rows term (switches_from all_off before) tok in
      let said : List ℕ = doubled (reports_from t done) in
      omega (
        arith,
        ap length (append-nil (answer ++ said)),
        length-append answer said,
        doubled-short (reports_from t done),
        reports-short t done f.near f.cols f.rows,
        length-drop (length (functions before)) (functions now),
        answer-short s.columns s.rows term (switches_from all_off before) tok few,
        ap length (data_of-append before (tok ∷ [])),
        length-append (data_of before) (data_byte tok ++ []),
        ap length (append-nil (data_byte tok)),
        length-append before (tok ∷ []),
        grows before tok,
      )
    where
      grows : (before : List Token) (tok : Token) → length (functions before) ≤ length (functions (before ++ tok ∷ []))
      grows before tok =
          let stay = controls-stay (data_of before) (data_of (tok ∷ [])) in
          let both : functions (before ++ tok ∷ []) ≡ functions before ++ stay.0 = ap (λ (d : List ℕ). controls (characters d)) (data_of-append before (tok ∷ [])) ∙ stay.1 in
          omega (arith, ap length both, length-append (functions before) stay.0)
  by_given s t before (a ∷ b ∷ given) f le = absurd (omega (arith, le))

  byte_short : (before : List ℕ) (b : ℕ) → let now = before ++ b ∷ [] in
      length (reply_after start cuts term before b) + (46 * length (data_of (tokens now)) + (46 * length (functions (tokens before)) + 46 * length (tokens before)))
      ≤ 46 * length (tokens now) + (46 * length (data_of (tokens before)) + 46 * length (functions (tokens now)))
  byte_short before b =
      let now : List ℕ = before ++ b ∷ [] in
      let earlier = cuts_below (length now) cuts in
      let given = tokens (unfinished_token before ++ b ∷ []) in
      let more : tokens now ≡ tokens before ++ given = (tokens-cut before (b ∷ [])).given in
      let counted : length now ≡ length before + 1 = length-append before (b ∷ []) in
      let w : AreWithin (length before) earlier = subst (λ n. AreWithin (length before) (cuts_below n cuts)) (sym counted) (within_below (length before) cuts) in
      let same : reply_after start cuts term before b ≡ reply_after start earlier term before b = sym (ap (λ (cs : List Cut). reply_with cs before b) (below_again (length now) cuts)) in
      let is = reply_is start earlier term before b given w (one-token before b) more in
      let t = screen start before earlier in
      let fits : Fits t = happens_fits (opening_screen start.faces start.size.columns start.size.rows) 0 before earlier record { near = opening-near start.faces start.size.columns start.size.rows sized.some_columns sized.some_rows; cols = sized.few_columns; rows = omega (arith, sized.few_rows) } (sizes_below (length now) cuts sizes) in
      subst (λ (ts : List Token). length (reply_after start cuts term before b) + (46 * length (data_of ts) + (46 * length (functions (tokens before)) + 46 * length (tokens before))) ≤ 46 * length ts + (46 * length (data_of (tokens before)) + 46 * length (functions ts))) (sym more)
      (omega (arith, ap length (same ∙ is), by_given (size_after start.size earlier) t (tokens before) given fits (one-token before b)))
    where
      reply_with : List Cut → List ℕ → ℕ → List ℕ
      reply_with cs before b = reply_given start cs term before b

  from_short : (before bytes : List ℕ) → length (replies_from start cuts term before bytes) + (46 * length (data_of (tokens (before ++ bytes))) + (46 * length (functions (tokens before)) + 46 * length (tokens before)))
      ≤ 46 * length (tokens (before ++ bytes)) + (46 * length (data_of (tokens before)) + 46 * length (functions (tokens (before ++ bytes))))
  from_short before [] = let same : before ++ [] ≡ before = append-nil before in rw same (omega arith)
  from_short before (b ∷ bytes) =
      let now : List ℕ = before ++ b ∷ [] in
      let same : now ++ bytes ≡ before ++ b ∷ bytes = append_assoc before (b ∷ []) bytes in
      subst (λ (bs : List ℕ). length (replies_from start cuts term before (b ∷ bytes)) + (46 * length (data_of (tokens bs)) + (46 * length (functions (tokens before)) + 46 * length (tokens before))) ≤ 46 * length (tokens bs) + (46 * length (data_of (tokens before)) + 46 * length (functions (tokens bs)))) same
      (omega (arith, length-append (reply_after start cuts term before b) (replies_from start cuts term now bytes), byte_short before b, from_short now bytes))

pub replies-short : (start : Opening) (term bs : List ℕ) (cuts : List Cut) → IsScreenSize start.size.columns start.size.rows → AreSizes cuts → length term ≤ 40 → length (replies start term bs cuts) ≤ 46 * length bs
replies-short start term bs cuts sized sizes few =
    omega (arith, from_short start cuts term sized sizes few [] bs, ap (λ (ts : List Token). length (data_of ts)) no_tokens, functions-short (tokens bs), tokens-short bs)
