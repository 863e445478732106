-- The first word of a line, and what stands behind it.
use Rattle.std.proofs.Common.{◌≡◌, ℕ, ◌+◌, ◌-◌, ◌<◌, List, [], ◌∷◌, length, take, drop, slice_index_or, Bool, true, false, refl, ap, sym, ◌∙◌, arith, length-drop}
use Rattle.std.specs.Prelude.{Some, None, position, nat_lt, cond, ◌==◌}
use Rattle.std.specs.List.{position_or_len}
use Rattle.std.proofs.lemmas.List.{take_all}
use Rattle.std.proofs.lemmas.Bool.{ltb-false}
use Rattle.std.proofs.lemmas.Bool.Decides.{nat_tests}
use Rattle.script_grammar.specs.Grammar.{is_blank, first_word, behind_word, meant, by_word, line_of}

-- the place that `position` finds
place-is : (text : List ℕ) (k : ℕ) → Some k ≡ position is_blank text → (k ≡ position_or_len is_blank text) × (nat_lt (position_or_len is_blank text) (length text) ≡ true)
place-is text k e = found (nat_lt (position_or_len is_blank text) (length text)) refl e
  where
    found : (b : Bool) → nat_lt (position_or_len is_blank text) (length text) ≡ b → Some k ≡ cond b (Some (position_or_len is_blank text)) None → (k ≡ position_or_len is_blank text) × (nat_lt (position_or_len is_blank text) (length text) ≡ true)
    found true t q = (cc, t)
    found false t q = absurd (let w : Some k ≡ None = q in cc)

none-is : (text : List ℕ) → None ≡ position is_blank text → nat_lt (position_or_len is_blank text) (length text) ≡ false
none-is text e = found (nat_lt (position_or_len is_blank text) (length text)) refl e
  where
    found : (b : Bool) → nat_lt (position_or_len is_blank text) (length text) ≡ b → None ≡ cond b (Some (position_or_len is_blank text)) None → nat_lt (position_or_len is_blank text) (length text) ≡ false
    found true t q = absurd (let w : None ≡ Some (position_or_len is_blank text) = q in cc)
    found false t q = t

pub first-found : (text : List ℕ) (k : ℕ) → Some k ≡ position is_blank text → take k text ≡ first_word text
first-found text k e = ap (λ (n : ℕ). take n text) (place-is text k e).0

pub behind-found : (text : List ℕ) (k : ℕ) → Some k ≡ position is_blank text → Some (take (length text - (k + 1)) (drop (k + 1) text)) ≡ behind_word text
behind-found text k e =
    let p = place-is text k e in
    let all : take (length text - (k + 1)) (drop (k + 1) text) ≡ drop (k + 1) text = take_all (length text - (k + 1)) (drop (k + 1) text) (omega (arith, length-drop (k + 1) text)) in
    ap (λ (l : List ℕ). Some l) all ∙ (ap (λ (n : ℕ). Some (drop (n + 1) text)) p.0 ∙ sym (rw p.1 refl))

pub first-alone : (text : List ℕ) → None ≡ position is_blank text → text ≡ first_word text
first-alone text e = sym (take_all (position_or_len is_blank text) text (omega (arith, ltb-false (position_or_len is_blank text) (length text) (none-is text e))))

pub behind-none : (text : List ℕ) → None ≡ position is_blank text → None ≡ behind_word text
behind-none text e = rw (none-is text e) refl

-- a line with words
pub line_of-words : (entries : ℕ) (text behind : List ℕ) → 0 < length text → (slice_index_or text 0 0 ≡ 35 → ⊥) → Some behind ≡ behind_word text → meant entries (first_word text) behind ≡ line_of entries text
line_of-words entries [] behind some no_comment is = absurd (omega (arith, some))
line_of-words entries (b ∷ bs) behind some no_comment is = rw (eqb-false b 35 no_comment) (ap (by_word entries (first_word (b ∷ bs))) is)
  where
    eqb-false : (m n : ℕ) → (m ≡ n → ⊥) → (m == n) ≡ false
    eqb-false m n no_ = grind (arith, nat_tests)

pub some_bytes : (text : List ℕ) (b : Bool) → b ≡ (length text == 0) → b ≡ false → 0 < length text
some_bytes text b is no_ = not_zero (length text) (sym is ∙ no_)
  where
    not_zero : (n : ℕ) → (n == 0) ≡ false → 0 < n
    not_zero n e = grind (arith, nat_tests)

pub no_bytes : (text : List ℕ) (b : Bool) → b ≡ (length text == 0) → b ≡ true → length text ≡ 0
no_bytes text b is yes_ = is_zero (length text) (sym is ∙ yes_)
  where
    is_zero : (n : ℕ) → (n == 0) ≡ true → n ≡ 0
    is_zero n e = grind (arith, nat_tests)
