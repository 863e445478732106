-- What bytes give by one more byte, where the bytes before it may still become a character.
use Rattle.std.proofs.Common.{◌≡◌, ◌≢◌, ℕ, suc, ◌+◌, ◌≤◌, ◌<◌, List, [], ◌∷◌, ◌++◌, length, length-append, drop, set, take, slice_index, true, false, Option, Some, None, ◌⊎◌, ⊎_elim, refl, sym, ap, ◌∙◌, arith}
use Rattle.std.proofs.lemmas.Bool.{cases_lt, cases_eq, cases_Bool}
use Rattle.std.proofs.lemmas.Bool.Decides.{nat_tests}
use Rattle.std.proofs.lemmas.List.{drop_all, drop_at, take_more_set, length-take-le, take-append-drop}
use Rattle.std.specs.List.{cons_option}
use Rattle.bstr.specs.Utf8.{Decoded, decoded, bad, good, lead_len, or_replacement}
use Rattle.bstr.proofs.lemmas.PieceLemmas.{by-shape, piece-bounds, value-1, value-2, value-3, value-4}
use Rattle.gate_model.specs.terminal.Characters.{is_unfinished, head_char}
use Rattle.gate_model.specs.text.Reading.{read, after}
use Rattle.ecma_parser.specs.Waiting.{IsWaiting}
use Rattle.gate_model.proofs.Cutting.{read-whole, read-unfinished}
use Rattle.gate_model.proofs.CharacterLaws.{head_char-is, head_char-whole, head_char-none, unfinished-parts, unfinished-from, decoded-front}

-- a term of the type given
abbrev by : (A : Type 0) → A → A
by A a = a

read-nothing : read head_char [] ≡ ([], [])
read-nothing = read-unfinished head_char head_char-is [] refl

pub read-held : (xs : List ℕ) → is_unfinished xs ≡ true → read head_char xs ≡ ([], xs)
read-held xs e = read-unfinished head_char head_char-is xs (head_char-none xs e)

-- the piece at the front, and then the rest
read-piece : (xs : List ℕ) → is_unfinished xs ≡ false
    → read head_char xs ≡ after (or_replacement (decoded xs).char ∷ []) (read head_char (drop (decoded xs).size xs))
read-piece xs e = read-whole head_char head_char-is xs (drop (decoded xs).size xs) (or_replacement (decoded xs).char ∷ []) (head_char-whole xs e)

-- one piece that is all
read-only : (xs : List ℕ) (p : Decoded) → is_unfinished xs ≡ false → decoded xs ≡ p → p.size ≡ length xs → read head_char xs ≡ (or_replacement p.char ∷ [], [])
read-only xs p e is size =
    let none : drop (decoded xs).size xs ≡ [] = drop_all (decoded xs).size xs (omega (arith, ap (λ (q : Decoded). q.size) is)) in
    read-piece xs e
    ∙ ap (λ t. after (or_replacement (decoded xs).char ∷ []) (read head_char t)) none
    ∙ ap (after (or_replacement (decoded xs).char ∷ [])) read-nothing
    ∙ ap (λ (q : Decoded). (or_replacement q.char ∷ [], [])) is

-- ---- one byte alone

one-settled : (b : ℕ) → lead_len b ≤ 1 → is_unfinished (b ∷ []) ≡ false
one-settled b le = ⊎_elim
    (λ (yes : is_unfinished (b ∷ []) ≡ true). let parts = unfinished-parts (b ∷ []) yes in absurd (omega (arith, parts.1)))
    (λ no. no)
    (cases_Bool (is_unfinished (b ∷ [])))

pub read-ascii : (b : ℕ) → b ≤ 0x7F → read head_char (b ∷ []) ≡ (b ∷ [], [])
read-ascii b low = read-only (b ∷ []) (good b 1) (one-settled b (grind (arith, nat_tests))) (value-1 1 b 0 0 0 (omega arith, omega arith)) refl

pub read-stray : (b : ℕ) → 0x7F < b → (b < 0xC2) ⊎ (0xF4 < b) → read head_char (b ∷ []) ≡ (0xFFFD ∷ [], [])
read-stray b high where_is = ⊎_elim
    (λ (low : b < 0xC2). read-only (b ∷ []) (bad 1) (one-settled b (grind (arith, nat_tests))) (value-2 1 b 0 0 0 (omega arith, omega arith, low)) refl)
    (λ (past : 0xF4 < b). read-only (b ∷ []) (bad 1) (one-settled b (grind (arith, nat_tests))) (value-3 1 b 0 0 0 (omega arith, past)) refl)
    where_is

pub unfinished-lead : (b : ℕ) → 0xC2 ≤ b → b ≤ 0xF4 → is_unfinished (b ∷ []) ≡ true
unfinished-lead b from to =
    unfinished-from (b ∷ []) (ap (λ (p : Decoded). p.size) (value-4 1 b 0 0 0 (omega arith, from, to, omega arith))) (grind (arith, nat_tests))

-- ---- one byte more

-- bytes that are unfinished are no character
unfinished-none : (xs : List ℕ) → is_unfinished xs ≡ true → (decoded xs).char ≡ None
unfinished-none xs e =
    let parts = unfinished-parts xs e in
    let longer = parts.1 in
    let b = slice_index xs 0 in
    let long = λ (n : ℕ) (code : ℕ) (lead : lead_len b ≤ n) (is : decoded xs ≡ good code n). by ((decoded xs).char ≡ None) (absurd (omega (arith, longer, parts.0, ap (λ (p : Decoded). p.size) is, lead))) in
    by-shape (length xs) b (slice_index xs 1) (slice_index xs 2) (slice_index xs 3)
    (λ h. ap (λ (p : Decoded). p.char) h.1)
    (λ h. long 1 _ (grind (arith, nat_tests)) h.2)
    (λ h. ap (λ (p : Decoded). p.char) h.3)
    (λ h. ap (λ (p : Decoded). p.char) h.2)
    (λ h. ap (λ (p : Decoded). p.char) h.4)
    (λ h. ap (λ (p : Decoded). p.char) h.4)
    (λ h. long 2 _ (grind (arith, nat_tests)) h.4)
    (λ h. ap (λ (p : Decoded). p.char) h.5)
    (λ h. ap (λ (p : Decoded). p.char) h.5)
    (λ h. long 3 _ (grind (arith, nat_tests)) h.5)
    (λ h. ap (λ (p : Decoded). p.char) h.6)
    (λ h. ap (λ (p : Decoded). p.char) h.6)
    (λ h. long 4 _ (grind (arith, nat_tests)) h.6)

-- two bytes or more that are one piece and no character are unfinished
piece-unfinished : (xs : List ℕ) → 2 ≤ length xs → (decoded xs).char ≡ None → (decoded xs).size ≡ length xs → is_unfinished xs ≡ true
piece-unfinished xs two none size =
    let b = slice_index xs 0 in
    let is = unfinished-from xs size in
    let char = λ (p : Decoded) (e : decoded xs ≡ p). sym (ap (λ (q : Decoded). q.char) e) ∙ none in
    by-shape (length xs) b (slice_index xs 1) (slice_index xs 2) (slice_index xs 3)
    (λ h. absurd (omega arith))
    (λ h. let k = char _ h.2 in cc)
    (λ h. let w = ap (λ (p : Decoded). p.size) h.3 in absurd (omega arith))
    (λ h. let w = ap (λ (p : Decoded). p.size) h.2 in absurd (omega arith))
    (λ h. absurd (omega arith))
    (λ h. let w = ap (λ (p : Decoded). p.size) h.4 in absurd (omega arith))
    (λ h. let k = char _ h.4 in cc)
    (λ h. is (grind (arith, nat_tests)))
    (λ h. let w = ap (λ (p : Decoded). p.size) h.5 in absurd (omega arith))
    (λ h. let k = char _ h.5 in cc)
    (λ h. is (grind (arith, nat_tests)))
    (λ h. let w = ap (λ (p : Decoded). p.size) h.6 in absurd (omega arith))
    (λ h. let k = char _ h.6 in cc)

module _ (held : List ℕ) (b : ℕ) (waits : is_unfinished held ≡ true) (some : 0 < length held) where
  abbrev whole : List ℕ
  whole = held ++ b ∷ []

  whole-length : length whole ≡ suc (length held)
  whole-length = let long = length-append held (b ∷ []) in omega arith

  -- the piece has the held bytes
  at_least : length held ≤ (decoded whole).size
  at_least = ⊎_elim
      (λ (less : (decoded whole).size < length held).
      let same = decoded-front held (b ∷ []) some (omega arith) in
      let parts = unfinished-parts held waits in
      absurd (omega (arith, parts.0, ap (λ (p : Decoded). p.size) same)))
      (λ le. le)
      (cases_lt (decoded whole).size (length held))

  -- where it has no more, it is no character
  no_more : (decoded whole).size ≡ length held → (decoded whole).char ≡ None
  no_more size =
      let same = decoded-front held (b ∷ []) some (omega arith) in
      sym (ap (λ (p : Decoded). p.char) same) ∙ unfinished-none held waits

  pub read-character : (c : ℕ) → Some c ≡ (decoded whole).char → read head_char whole ≡ (c ∷ [], [])
  read-character c found =
      let bounds = piece-bounds whole (omega (arith, whole-length)) in
      let size : (decoded whole).size ≡ length whole = ⊎_elim
      (λ (e : (decoded whole).size ≡ length held). let none = found ∙ no_more e in cc)
      (λ (ne : (decoded whole).size ≡ length held → ⊥). omega (arith, at_least, whole-length))
      (cases_eq (decoded whole).size (length held)) in
      let settled : is_unfinished whole ≡ false = ⊎_elim
      (λ (yes : is_unfinished whole ≡ true). let none = found ∙ unfinished-none whole yes in cc)
      (λ no. no)
      (cases_Bool (is_unfinished whole)) in
      read-only whole (decoded whole) settled refl size ∙ ap (λ o. (or_replacement o ∷ [], [])) (sym found)

  pub goes_on : None ≡ (decoded whole).char → (decoded whole).size ≡ length whole → is_unfinished whole ≡ true
  goes_on none size = piece-unfinished whole (omega (arith, whole-length)) (sym none) size

  pub read-broken : None ≡ (decoded whole).char → (decoded whole).size ≢ length whole → (second : Option ℕ) (rest : List ℕ)
      → read head_char (b ∷ []) ≡ (cons_option second [], rest) → read head_char whole ≡ (0xFFFD ∷ cons_option second [], rest)
  read-broken none differs second rest next =
      let bounds = piece-bounds whole (omega (arith, whole-length)) in
      let size : (decoded whole).size ≡ length held = omega (arith, at_least, whole-length) in
      let settled : is_unfinished whole ≡ false = ⊎_elim
      (λ (yes : is_unfinished whole ≡ true). let parts = unfinished-parts whole yes in absurd (omega (arith, parts.0)))
      (λ no. no)
      (cases_Bool (is_unfinished whole)) in
      read-piece whole settled
      ∙ ap (λ o. after (or_replacement o ∷ []) (read head_char (drop (decoded whole).size whole))) (sym none)
      ∙ ap (λ t. after (0xFFFD ∷ []) (read head_char t)) (drop_at held (b ∷ []) (decoded whole).size (sym size))
      ∙ ap (after (0xFFFD ∷ [])) next

-- ---- a character at the front of a piece

pub read-front : (piece : List ℕ) (c n : ℕ) → Some c ≡ (decoded piece).char → n ≡ (decoded piece).size → (n ≤ length piece) × (read head_char (take n piece) ≡ (c ∷ [], []))
read-front [] c n found size = let none = found in cc
read-front (b ∷ bs) c n found size =
    let piece = b ∷ bs in
    let bounds = piece-bounds piece (omega arith) in
    let front = take n piece in
    let within : n ≤ length piece = omega (arith, bounds, size) in
    let long : length front ≡ n = length-take-le n piece within in
    let all : front ++ drop n piece ≡ piece = take-append-drop n piece in
    let whole : decoded (front ++ drop n piece) ≡ decoded piece = ap decoded all in
    let same : decoded front ≡ decoded piece = decoded-front front (drop n piece) (omega (arith, long, bounds, size)) (omega (arith, long, size, ap (λ (p : Decoded). p.size) whole)) ∙ whole in
    let char : (decoded front).char ≡ Some c = ap (λ (p : Decoded). p.char) same ∙ sym found in
    let settled : is_unfinished front ≡ false = ⊎_elim
    (λ (yes : is_unfinished front ≡ true). let none = sym char ∙ unfinished-none front yes in cc)
    (λ no. no)
    (cases_Bool (is_unfinished front)) in
    (within, read-only front (decoded front) settled refl (ap (λ (p : Decoded). p.size) same ∙ sym size ∙ sym long) ∙ ap (λ o. (or_replacement o ∷ [], [])) char)

-- ---- where the bytes stand

pub first-taken : (bytes : List ℕ) (b : ℕ) → 0 < length bytes → take 1 (set bytes 0 b) ≡ b ∷ []
first-taken bytes b some = take_more_set bytes 0 b some

lead-few : (b : ℕ) → lead_len b ≤ 4
lead-few b = grind (arith, nat_tests)

module _ (bytes : List ℕ) (count b : ℕ) (waits : IsWaiting bytes count) (room : length bytes ≡ 4) (some : count ≡ 0 → ⊥) where
  abbrev held : List ℕ
  held = take count bytes

  abbrev now : List ℕ
  now = take (count + 1) (set bytes count b)

  few : count ≤ 3
  few = waits.few

  now-is : now ≡ held ++ b ∷ []
  now-is = take_more_set bytes count b (omega (arith, few))

  held-length : length held ≡ count
  held-length = length-take-le count bytes (omega (arith, few))

  held-some : 0 < length held
  held-some = omega (arith, held-length)

  now-length : length (held ++ b ∷ []) ≡ count + 1
  now-length = let long = length-append held (b ∷ []) in omega (arith, held-length)

  now-unfinished : (decoded now).char ≡ None → (decoded now).size ≡ count + 1 → is_unfinished (held ++ b ∷ []) ≡ true
  now-unfinished none size =
      let same = ap decoded now-is in
      goes_on held b waits.unfinished held-some (sym none ∙ ap (λ (p : Decoded). p.char) same)
      (sym (ap (λ (p : Decoded). p.size) same) ∙ size ∙ sym now-length)

  pub pushed-waiting : (decoded now).char ≡ None → (decoded now).size ≡ count + 1 → IsWaiting (set bytes count b) (count + 1)
  pushed-waiting none size =
      let is = now-unfinished none size in
      let parts = unfinished-parts (held ++ b ∷ []) is in
      record {
        unfinished = ap is_unfinished now-is ∙ is;
        few = omega (arith, parts.1, now-length, lead-few (slice_index (held ++ b ∷ []) 0));
      }

  pub pushed-character : (c : ℕ) → (decoded now).char ≡ Some c → read head_char (held ++ b ∷ []) ≡ (c ∷ [], [])
  pushed-character c found = read-character held b waits.unfinished held-some c (sym found ∙ ap (λ t. (decoded t).char) now-is)

  pub pushed-held : (decoded now).char ≡ None → (decoded now).size ≡ count + 1 → read head_char (held ++ b ∷ []) ≡ ([], now)
  pushed-held none size = read-held (held ++ b ∷ []) (now-unfinished none size) ∙ ap (λ t. ([], t)) (sym now-is)

  pub pushed-broken : (decoded now).char ≡ None → ((decoded now).size ≡ count + 1 → ⊥) → (second : Option ℕ) (rest : List ℕ)
      → read head_char (b ∷ []) ≡ (cons_option second [], rest) → read head_char (held ++ b ∷ []) ≡ (0xFFFD ∷ cons_option second [], rest)
  pushed-broken none differs second rest next =
      let same = ap decoded now-is in
      read-broken held b waits.unfinished held-some (sym none ∙ ap (λ (p : Decoded). p.char) same)
      (λ e. differs (ap (λ (p : Decoded). p.size) same ∙ e ∙ now-length)) second rest next
