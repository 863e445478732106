-- A head of characters takes something, and finds the same whatever follows; the characters and the pending bytes
-- are what it reads.
use Rattle.std.proofs.Common.{◌≡◌, ℕ, zero, suc, ◌+◌, ◌≤◌, ◌<◌, List, [], ◌∷◌, ◌++◌, length, length-append, length-drop, take, drop, slice_index, Bool, true, false, cond, Option, Some, None, ⊎_elim, refl, sym, ap, subst, ◌∙◌, arith}
use Rattle.std.proofs.lemmas.Bool.{false≢true, cases_lt, cases_eq, cases_Bool, eqb-true, eq-eqb, ltb-true, lt-ltb, and_from, and_parts, cond-true, cond-false}
use Rattle.std.proofs.lemmas.Bool.Decides.{nat_tests}
use Rattle.std.proofs.lemmas.List.{get_or_append_left, get_or-drop, drop-append-le, drop_at, length-take-le}
use Rattle.std.specs.Prelude.{is_some}
use Rattle.bstr.specs.Utf8.{Decoded, decoded, decoded_by, lead_len, second, continues, or_replacement, lossy_chars}
use Rattle.bstr.proofs.lemmas.PieceLemmas.{by-shape, decoded_by-cut, value-4, value-7, value-10, tail-continues, piece-bounds, lossy_chars-step, lossy_chars-nil}
use Rattle.gate_model.specs.terminal.Characters.{is_unfinished, pending, settled, characters, head_char}
use Rattle.gate_model.specs.text.Reading.{IsHead, read, after}
use Rattle.gate_model.proofs.Cutting.{read-whole, read-unfinished}

-- a term of the type given
abbrev by : (A : Type 0) → A → A
by A a = a

-- ---- on four bytes

-- a front that is shorter than the piece is unfinished
cut-unfinished : (k n b c d e c' d' e' : ℕ) → 0 < k → k < (decoded_by n b c d e).size → (1 < k → c' ≡ c) → (2 < k → d' ≡ d)
    → ((decoded_by k b c' d' e').size ≡ k) × (k < lead_len b)
cut-unfinished k n b c d e c' d' e' pos short second_c third_d = by-shape n b c d e
    (λ h. let size_is = ap (λ (p : Decoded). p.size) h.1 in absurd (omega arith))
    (λ h. let size_is = ap (λ (p : Decoded). p.size) h.2 in absurd (omega arith))
    (λ h. let size_is = ap (λ (p : Decoded). p.size) h.3 in absurd (omega arith))
    (λ h. let size_is = ap (λ (p : Decoded). p.size) h.2 in absurd (omega arith))
    (λ h. let size_is = ap (λ (p : Decoded). p.size) h.4 in absurd (omega arith))
    (λ h. let size_is = ap (λ (p : Decoded). p.size) h.4 in absurd (omega arith))
    (λ h. let size_is = ap (λ (p : Decoded). p.size) h.4 in one h.1 (omega arith) (omega arith) (grind (arith, nat_tests)))
    (λ h. let size_is = ap (λ (p : Decoded). p.size) h.5 in one (omega arith) h.2 (omega arith) (grind (arith, nat_tests)))
    (λ h. let size_is = ap (λ (p : Decoded). p.size) h.5 in one (omega arith) h.2 (omega arith) (grind (arith, nat_tests)))
    (λ h. let size_is = ap (λ (p : Decoded). p.size) h.5 in low h.1 (omega arith) h.3 (omega arith) (grind (arith, nat_tests)))
    (λ h. let size_is = ap (λ (p : Decoded). p.size) h.6 in low (omega arith) h.2 h.3 (omega arith) (grind (arith, nat_tests)))
    (λ h. let size_is = ap (λ (p : Decoded). p.size) h.6 in low (omega arith) h.2 h.3 (omega arith) (grind (arith, nat_tests)))
    (λ h. let size_is = ap (λ (p : Decoded). p.size) h.6 in ⊎_elim
    (λ (less : k < 3). low (omega arith) h.2 h.3 less (grind (arith, nat_tests)))
    (λ (more : 3 ≤ k). (
      ap (λ (p : Decoded). p.size) (value-10 k b c' d' e' (more, h.1, h.2, ap (second b) (second_c (omega arith)) ∙ h.3, ap continues (third_d (omega arith)) ∙ h.4, omega arith)) ∙ by (3 ≡ k) (omega arith),
      grind (arith, nat_tests),
    ))
    (cases_lt k 3))
  where
    one : 0xC2 ≤ b → b ≤ 0xF4 → k < 2 → k < lead_len b → ((decoded_by k b c' d' e').size ≡ k) × (k < lead_len b)
    one from to less longer = (ap (λ (p : Decoded). p.size) (value-4 k b c' d' e' (pos, from, to, less)) ∙ by (1 ≡ k) (omega arith), longer)

    low : 0xE0 ≤ b → b ≤ 0xF4 → second b c ≡ true → k < 3 → k < lead_len b → ((decoded_by k b c' d' e').size ≡ k) × (k < lead_len b)
    low from to is less longer = ⊎_elim
        (λ (first : k < 2). one (omega arith) to first longer)
        (λ (two : 2 ≤ k). (
          ap (λ (p : Decoded). p.size) (value-7 k b c' d' e' (two, from, to, ap (second b) (second_c (omega arith)) ∙ is, less)) ∙ by (2 ≡ k) (omega arith),
          longer,
        ))
        (cases_lt k 2)

-- ---- on lists of bytes

pub unfinished-parts : (xs : List ℕ) → is_unfinished xs ≡ true → ((decoded xs).size ≡ length xs) × (length xs < lead_len (slice_index xs 0))
unfinished-parts xs is =
    let both = and_parts _ _ is in
    let size : (decoded xs).size ≡ length xs = eqb-true _ _ both.0 in
    let short : length xs < lead_len (slice_index xs 0) = ltb-true _ _ both.1 in
    (size, short)

pub unfinished-from : (xs : List ℕ) → (decoded xs).size ≡ length xs → length xs < lead_len (slice_index xs 0) → is_unfinished xs ≡ true
unfinished-from xs size short = and_from _ _ (eq-eqb _ _ size) (lt-ltb _ _ short)

-- what isn't unfinished isn't empty
pub some-from : (xs : List ℕ) → is_unfinished xs ≡ false → 0 < length xs
some-from [] e = absurd (false≢true (sym e))
some-from (x ∷ xs) e = omega arith

-- a piece that isn't unfinished lies within the bytes, whatever follows them
pub fits-from : (xs more : List ℕ) → is_unfinished xs ≡ false → (decoded (xs ++ more)).size ≤ length xs
fits-from xs more e = ⊎_elim
    (λ (over : length xs < (decoded (xs ++ more)).size).
    let whole = xs ++ more in
    let some = some-from xs e in
    let at : (k : ℕ) → k < length xs → slice_index xs k ≡ slice_index whole k = λ k l. sym (get_or_append_left xs more 0 k l) in
    let cut = cut-unfinished (length xs) (length whole) (slice_index whole 0) (slice_index whole 1) (slice_index whole 2) (slice_index whole 3)
    (slice_index xs 1) (slice_index xs 2) (slice_index xs 3) some over (at 1) (at 2) in
    let first = at 0 some in
    let size : (decoded xs).size ≡ length xs =
    ap (λ b. (decoded_by (length xs) b (slice_index xs 1) (slice_index xs 2) (slice_index xs 3)).size) first ∙ cut.0 in
    let short : length xs < lead_len (slice_index xs 0) = subst (λ b. length xs < lead_len b) (sym first) cut.1 in
    absurd (false≢true (sym e ∙ unfinished-from xs size short)))
    (λ (within : (decoded (xs ++ more)).size ≤ length xs). within)
    (cases_lt (length xs) (decoded (xs ++ more)).size)

-- a piece doesn't look at what follows it
pub decoded-front : (xs more : List ℕ) → 0 < length xs → (decoded (xs ++ more)).size ≤ length xs → decoded xs ≡ decoded (xs ++ more)
decoded-front xs more some fits =
    let whole = xs ++ more in
    let long = length-append xs more in
    let at : (k : ℕ) → k < length xs → slice_index xs k ≡ slice_index whole k = λ k l. sym (get_or_append_left xs more 0 k l) in
    subst (λ b. decoded_by (length xs) b (slice_index xs 1) (slice_index xs 2) (slice_index xs 3) ≡ decoded whole) (sym (at 0 some))
    (decoded_by-cut (length xs) (length whole) (slice_index whole 0) (slice_index whole 1) (slice_index whole 2) (slice_index whole 3)
    (slice_index xs 1) (slice_index xs 2) (slice_index xs 3) fits (omega arith) some (at 1) (at 2) (at 3))

-- what isn't unfinished stays so
settles : (xs more : List ℕ) → is_unfinished xs ≡ false → is_unfinished (xs ++ more) ≡ false
settles xs more e = ⊎_elim
    (λ (yes : is_unfinished (xs ++ more) ≡ true).
    let parts = unfinished-parts (xs ++ more) yes in
    let fits = fits-from xs more e in
    let long = length-append xs more in
    let same = decoded-front xs more (some-from xs e) fits in
    let size : (decoded xs).size ≡ length xs = ap (λ (p : Decoded). p.size) same ∙ by ((decoded (xs ++ more)).size ≡ length xs) (omega arith) in
    let first = get_or_append_left xs more 0 0 (some-from xs e) in
    let short : length xs < lead_len (slice_index xs 0) = subst (λ b. length xs < lead_len b) first (omega arith) in
    absurd (false≢true (sym e ∙ unfinished-from xs size short)))
    (λ no. no)
    (cases_Bool (is_unfinished (xs ++ more)))

pub head_char-whole : (xs : List ℕ) → is_unfinished xs ≡ false → head_char xs ≡ Some (or_replacement (decoded xs).char ∷ [], drop (decoded xs).size xs)
head_char-whole xs e = cond-false _ _ _ e

pub head_char-none : (xs : List ℕ) → is_unfinished xs ≡ true → head_char xs ≡ None
head_char-none xs e = cond-true _ _ _ e

head_char-shrinks : (xs rest given : List ℕ) → head_char xs ≡ Some (given, rest) → length rest < length xs
head_char-shrinks xs rest given e = ⊎_elim
    (λ (yes : is_unfinished xs ≡ true). absurd (false≢true (ap is_some (sym (head_char-none xs yes) ∙ e))))
    (λ (no : is_unfinished xs ≡ false).
    let found = sym (head_char-whole xs no) ∙ e in
    let left = ap left_of found in
    let bounds = piece-bounds xs (some-from xs no) in
    omega (arith, length-drop (decoded xs).size xs))
    (cases_Bool (is_unfinished xs))
  where
    left_of : Option (List ℕ × List ℕ) → ℕ
    left_of None = 0
    left_of (Some found) = length found.1

abbrev carried : List ℕ → Option (List ℕ × List ℕ) → Option (List ℕ × List ℕ)
carried more None = None
carried more (Some found) = Some (found.0, found.1 ++ more)

head_char-carried : (xs more : List ℕ) → is_unfinished xs ≡ false → head_char (xs ++ more) ≡ carried more (head_char xs)
head_char-carried xs more e =
    let fits = fits-from xs more e in
    let same = decoded-front xs more (some-from xs e) fits in
    let size = ap (λ (p : Decoded). p.size) same in
    head_char-whole (xs ++ more) (settles xs more e)
    ∙ ap (λ (p : Decoded). Some (or_replacement p.char ∷ [], drop p.size (xs ++ more))) (sym same)
    ∙ ap (λ rest. Some (or_replacement (decoded xs).char ∷ [], rest)) (drop-append-le (decoded xs).size xs more (omega arith))
    ∙ ap (carried more) (sym (head_char-whole xs e))

pub head_char-is : IsHead head_char
head_char-is = record {
  shrinks = head_char-shrinks;
  stable = λ xs more rest given e. ⊎_elim
      (λ (yes : is_unfinished xs ≡ true). absurd (false≢true (ap is_some (sym (head_char-none xs yes) ∙ e))))
      (λ (no : is_unfinished xs ≡ false). head_char-carried xs more no ∙ ap (carried more) e)
      (cases_Bool (is_unfinished xs));
}

-- ---- what is read

pub settled-pending : (xs : List ℕ) → settled xs ++ pending xs ≡ xs
settled-pending [] = refl
settled-pending (x ∷ xs) = by_test (is_unfinished (x ∷ xs)) (settled-pending xs)
  where
    by_test : (b : Bool) → settled xs ++ pending xs ≡ xs → cond b [] (x ∷ settled xs) ++ cond b (x ∷ xs) (pending xs) ≡ x ∷ xs
    by_test true e = refl
    by_test false e = ap (λ t. x ∷ t) e

-- bytes at which nothing unfinished begins are settled
pub record Passes (k : ℕ) (xs : List ℕ) : Type 0 where
  pub front : settled xs ≡ take k xs ++ settled (drop k xs)
  pub end : pending xs ≡ pending (drop k xs)

passes : (k : ℕ) (xs : List ℕ) → k ≤ length xs → ((j : ℕ) → j < k → is_unfinished (drop j xs) ≡ false) → Passes k xs
passes zero xs le all = record { front = refl; end = refl }
passes (suc k) [] le all = absurd (omega arith)
passes (suc k) (x ∷ xs) le all =
    let rest = passes k xs (omega arith) (λ j l. all (suc j) (omega arith)) in
    let none : is_unfinished (x ∷ xs) ≡ false = all 0 (omega arith) in
    record {
      front = cond-false _ _ _ none ∙ ap (λ t. x ∷ t) rest.front;
      end = cond-false _ _ _ none ∙ rest.end;
    }

-- nothing unfinished begins at a byte that goes on a character
continues-settled : (xs : List ℕ) → continues (slice_index xs 0) ≡ true → is_unfinished xs ≡ false
continues-settled xs is =
    let b = slice_index xs 0 in
    let none : lead_len b ≡ 0 = grind (arith, nat_tests) in
    ⊎_elim
    (λ (yes : is_unfinished xs ≡ true).
    let parts = unfinished-parts xs yes in
    absurd (omega (arith, parts.1)))
    (λ no. no)
    (cases_Bool (is_unfinished xs))

-- nor within a piece
within-settled : (xs : List ℕ) → is_unfinished xs ≡ false → (j : ℕ) → j < (decoded xs).size → is_unfinished (drop j xs) ≡ false
within-settled xs e zero l = e
within-settled xs e (suc j) l =
    let tail = tail-continues (length xs) (slice_index xs 0) (slice_index xs 1) (slice_index xs 2) (slice_index xs 3) in
    let bounds = piece-bounds xs (some-from xs e) in
    let at : slice_index (drop (suc j) xs) 0 ≡ slice_index xs (suc j) = get_or-drop (suc j) xs 0 0 ∙ ap (slice_index xs) (by (suc j + 0 ≡ suc j) (omega arith)) in
    let is : continues (slice_index xs (suc j)) ≡ true = ⊎_elim
    (λ one. subst (λ i. continues (slice_index xs i) ≡ true) (sym one) (tail.0 (omega arith)))
    (λ other. ⊎_elim
    (λ two. subst (λ i. continues (slice_index xs i) ≡ true) (sym two) (tail.1 (omega arith)))
    (λ more.
    let three : suc j ≡ 3 = omega arith in
    subst (λ i. continues (slice_index xs i) ≡ true) (sym three) (tail.2 (omega arith)))
    (cases_eq (suc j) 2))
    (cases_eq (suc j) 1) in
    continues-settled (drop (suc j) xs) (ap continues at ∙ is)

-- a piece, and then the rest
piece-read : (all rest : List ℕ) (c : ℕ) → read head_char all ≡ after (c ∷ []) (read head_char rest) → read head_char rest ≡ (characters rest, pending rest)
    → characters all ≡ c ∷ characters rest → pending all ≡ pending rest → read head_char all ≡ (characters all, pending all)
piece-read all rest c whole shorter chars end =
    whole ∙ ap (after (c ∷ [])) shorter ∙ ap (λ t. (t, pending rest)) (sym chars) ∙ ap (λ t. (characters all, t)) (sym end)

characters_within : (n : ℕ) (xs : List ℕ) → length xs ≤ n → read head_char xs ≡ (characters xs, pending xs)
characters_within n [] le = read-unfinished head_char head_char-is [] refl ∙ ap (λ t. (t, [])) (sym lossy_chars-nil)
characters_within zero (x ∷ xs) le = absurd (omega arith)
characters_within (suc n) (x ∷ xs) le =
    let all = x ∷ xs in
    ⊎_elim
    (λ (yes : is_unfinished all ≡ true).
    let front : settled all ≡ [] = cond-true _ _ _ yes in
    let end : pending all ≡ all = cond-true _ _ _ yes in
    read-unfinished head_char head_char-is all (head_char-none all yes)
    ∙ ap (λ t. (t, all)) (sym (ap lossy_chars front ∙ lossy_chars-nil)) ∙ ap (λ t. (characters all, t)) (sym end))
    (λ (no : is_unfinished all ≡ false).
    let size = (decoded all).size in
    let bounds = piece-bounds all (omega arith) in
    let rest = drop size all in
    let shorter = length-drop size all in
    let pass = passes size all (omega arith) (within-settled all no) in
    let taken = length-take-le size all (omega arith) in
    let front = settled all in
    let long : size ≤ length front = omega (arith, ap length pass.front, length-append (take size all) (settled rest)) in
    let same : decoded front ≡ decoded all =
    decoded-front front (pending all) (omega arith) (subst (λ t. (decoded t).size ≤ length front) (sym (settled-pending all)) long)
    ∙ ap decoded (settled-pending all) in
    let left : drop (decoded front).size front ≡ settled rest =
    ap (λ (p : Decoded). drop p.size front) same ∙ ap (drop size) pass.front ∙ drop_at (take size all) (settled rest) size taken in
    let chars : characters all ≡ or_replacement (decoded all).char ∷ characters rest =
    lossy_chars-step front (omega arith) ∙ ap (λ (p : Decoded). or_replacement p.char ∷ lossy_chars (drop (decoded front).size front)) same
    ∙ ap (λ t. or_replacement (decoded all).char ∷ lossy_chars t) left in
    piece-read all rest (or_replacement (decoded all).char)
    (read-whole head_char head_char-is all rest (or_replacement (decoded all).char ∷ []) (head_char-whole all no))
    (characters_within n rest (omega arith)) chars pass.end)
    (cases_Bool (is_unfinished all))

pub characters_read : (xs : List ℕ) → read head_char xs ≡ (characters xs, pending xs)
characters_read xs = characters_within (length xs) xs (omega arith)
