-- How one more character changes the parts of a text, and their values at their places.
use Rattle.std.proofs.Common.{◌≡◌, ℕ, zero, suc, ◌+◌, ◌-◌, ◌*◌, ◌≤◌, ◌<◌, min, List, [], ◌∷◌, ◌++◌, length, length-append, map, take, set, replicate, Bool, true, false, append_assoc, refl, sym, ap, ◌∙◌, arith}
use Rattle.std.proofs.lemmas.Bool.{cond-true, cond-false}
use Rattle.std.proofs.lemmas.Bool.Decides.{nat_tests}
use Rattle.std.proofs.lemmas.List.{map-append, length-map, length-replicate, length-take-le, take-append-le, set_at, get_or_at, get_or-take}
use Rattle.std.proofs.lemmas.Int.Digits.{digits_value_push}
use Rattle.std.specs.Char.{digit_value}
use Rattle.std.specs.List.{onto_first}
use Rattle.std.specs.Prelude.{◌==◌, slice_index}
use Rattle.std.specs.Str.Parse.{digits_value}
use Rattle.gate_model.specs.terminal.Parameters.{is_separator, default, value, parts}
use Rattle.ecma_parser.specs.Sequence.{next_value}

-- ---- the parts of a text

-- the last part, and how one more character changes the parts
pub record LastPart (t : List ℕ) : Type 0 where
  pub front : List (List ℕ)
  pub last : List ℕ
  pub is : parts t ≡ front ++ last ∷ []
  pub more : (c : ℕ) → is_separator c ≡ false → parts (t ++ c ∷ []) ≡ front ++ (last ++ c ∷ []) ∷ []
  pub next : (c : ℕ) → is_separator c ≡ true → parts (t ++ c ∷ []) ≡ parts t ++ [] ∷ []

pub last-part : (t : List ℕ) → LastPart t
last-part [] = record {
  front = [];
  last = [];
  is = refl;
  more = λ c isnt. cond-false _ _ _ isnt;
  next = λ c is_it. cond-true _ _ _ is_it;
}
last-part (x ∷ xs) = by_test (is_separator x) refl (last-part xs)
  where
    within : is_separator x ≡ false → (front : List (List ℕ)) (last : List ℕ) → parts xs ≡ front ++ last ∷ []
        → ((c : ℕ) → is_separator c ≡ false → parts (xs ++ c ∷ []) ≡ front ++ (last ++ c ∷ []) ∷ [])
        → ((c : ℕ) → is_separator c ≡ true → parts (xs ++ c ∷ []) ≡ parts xs ++ [] ∷ []) → LastPart (x ∷ xs)
    within isnt [] last is more next = record {
      front = [];
      last = x ∷ last;
      is = cond-false _ _ _ isnt ∙ ap (onto_first x) is;
      more = λ c e. cond-false _ _ _ isnt ∙ ap (onto_first x) (more c e);
      next = λ c e. cond-false _ _ _ isnt ∙ ap (onto_first x) (next c e ∙ ap (λ ps. ps ++ [] ∷ []) is) ∙ sym (ap (λ ps. ps ++ [] ∷ []) (cond-false _ _ _ isnt ∙ ap (onto_first x) is));
    }
    within isnt (part ∷ front) last is more next = record {
      front = (x ∷ part) ∷ front;
      last = last;
      is = cond-false _ _ _ isnt ∙ ap (onto_first x) is;
      more = λ c e. cond-false _ _ _ isnt ∙ ap (onto_first x) (more c e);
      next = λ c e. cond-false _ _ _ isnt ∙ ap (onto_first x) (next c e ∙ ap (λ ps. ps ++ [] ∷ []) is) ∙ sym (ap (λ ps. ps ++ [] ∷ []) (cond-false _ _ _ isnt ∙ ap (onto_first x) is));
    }

    by_test : (b : Bool) → is_separator x ≡ b → LastPart xs → LastPart (x ∷ xs)
    by_test true is_it h = record {
      front = [] ∷ h.front;
      last = h.last;
      is = cond-true _ _ _ is_it ∙ ap (λ ps. [] ∷ ps) h.is;
      more = λ c e. cond-true _ _ _ is_it ∙ ap (λ ps. [] ∷ ps) (h.more c e);
      next = λ c e. cond-true _ _ _ is_it ∙ ap (λ ps. [] ∷ ps) (h.next c e) ∙ sym (ap (λ ps. ps ++ [] ∷ []) (cond-true _ _ _ is_it));
    }
    by_test false isnt h = within isnt h.front h.last h.is h.more h.next

-- ---- values at their places

take-set : (n : ℕ) (l : List ℕ) (i a : ℕ) → take n (set l i a) ≡ set (take n l) i a
take-set zero l i a = refl
take-set (suc n) [] i a = refl
take-set (suc n) (x ∷ xs) zero a = refl
take-set (suc n) (x ∷ xs) (suc i) a = ap (λ t. x ∷ t) (take-set n xs i a)

-- how many defaults stand behind the sixteen doesn't matter
take-filled : (n k j d : ℕ) (xs : List ℕ) → n ≤ k → n ≤ j → take n (xs ++ replicate k d) ≡ take n (xs ++ replicate j d)
take-filled zero k j d xs p q = refl
take-filled (suc n) zero j d xs p q = absurd (omega arith)
take-filled (suc n) (suc k) zero d xs p q = absurd (omega arith)
take-filled (suc n) (suc k) (suc j) d [] p q = ap (λ t. d ∷ t) (take-filled n k j d [] (omega arith) (omega arith))
take-filled (suc n) (suc k) (suc j) d (x ∷ xs) p q = ap (λ t. x ∷ t) (take-filled n (suc k) (suc j) d xs (omega arith) (omega arith))

abbrev pub filled : List (List ℕ) → List ℕ
filled ps = take 16 (map value ps ++ replicate 16 default)

-- they are sixteen
pub sixteen_filled : (ps : List (List ℕ)) → length (filled ps) ≡ 16
sixteen_filled ps =
    length-take-le 16 (map value ps ++ replicate 16 default) (omega (arith, length-append (map value ps) (replicate 16 default), length-replicate 16 default))

pub filled-next : (ps : List (List ℕ)) → filled (ps ++ [] ∷ []) ≡ filled ps
filled-next ps =
    ap (λ vs. take 16 (vs ++ replicate 16 default)) (map-append value ps ([] ∷ []))
    ∙ ap (take 16) (append_assoc (map value ps) (default ∷ []) (replicate 16 default))
    ∙ take-filled 16 17 16 default (map value ps) (omega arith) (omega arith)

filled-last : (front : List (List ℕ)) (last : List ℕ) → filled (front ++ last ∷ []) ≡ take 16 (map value front ++ value last ∷ replicate 16 default)
filled-last front last =
    ap (λ vs. take 16 (vs ++ replicate 16 default)) (map-append value front (last ∷ []))
    ∙ ap (take 16) (append_assoc (map value front) (value last ∷ []) (replicate 16 default))

-- past the sixteenth parameter the last part doesn't matter
pub filled-past : (front : List (List ℕ)) (last other : List ℕ) → 16 ≤ length front → filled (front ++ last ∷ []) ≡ filled (front ++ other ∷ [])
filled-past front last other past =
    let long = length-map front value in
    let cut = λ (rest : List ℕ). take-append-le 16 (map value front) rest (omega arith) in
    filled-last front last ∙ cut (value last ∷ replicate 16 default) ∙ sym (cut (value other ∷ replicate 16 default)) ∙ sym (filled-last front other)

pub filled-at : (front : List (List ℕ)) (last : List ℕ) → length front < 16 → slice_index (filled (front ++ last ∷ [])) (length front) ≡ value last
filled-at front last below =
    ap (λ vs. slice_index vs (length front)) (filled-last front last)
    ∙ get_or-take 16 (map value front ++ value last ∷ replicate 16 default) (length front) 0 below
    ∙ get_or_at (map value front) (value last) (replicate 16 default) 0 (length front) (length-map front value)

pub filled-set : (front : List (List ℕ)) (last other : List ℕ) → filled (front ++ other ∷ []) ≡ set (filled (front ++ last ∷ [])) (length front) (value other)
filled-set front last other =
    filled-last front other
    ∙ ap (take 16) (sym (set_at (map value front) (value last) (replicate 16 default) (value other) (length front) (length-map front value)))
    ∙ take-set 16 (map value front ++ value last ∷ replicate 16 default) (length front) (value other)
    ∙ ap (λ vs. set vs (length front) (value other)) (sym (filled-last front last))

-- one more digit of a part
pub value-more : (last : List ℕ) (c : ℕ) → 48 ≤ c → c ≤ 57 → value (last ++ c ∷ []) ≡ next_value (value last) (c - 48)
value-more [] c from to = number-of
  where
    digit-is : digit_value c ≡ c - 48
    digit-is = grind (arith, nat_tests)

    number-of : min 9999 (digits_value 10 (c ∷ [])) ≡ next_value default (c - 48)
    number-of = omega (arith, digit-is)
value-more (x ∷ xs) c from to = number-of
  where
    digit-is : digit_value c ≡ c - 48
    digit-is = grind (arith, nat_tests)

    read : ℕ
    read = digits_value 10 (x ∷ xs)

    whole : min 9999 (digits_value 10 (x ∷ xs ++ c ∷ [])) ≡ min 9999 (digits_value 10 (x ∷ xs) * 10 + (c - 48))
    whole = ap (min 9999) (digits_value_push 10 (x ∷ xs) c ∙ ap (λ d. digits_value 10 (x ∷ xs) * 10 + d) digit-is)

    kept : (min 9999 (digits_value 10 (x ∷ xs)) == default) ≡ false
    kept = grind (arith, nat_tests)

    number-of : min 9999 (digits_value 10 (x ∷ xs ++ c ∷ [])) ≡ next_value (min 9999 (digits_value 10 (x ∷ xs))) (c - 48)
    number-of =
        whole ∙ by_min (digits_value 10 (x ∷ xs)) (c - 48)
        ∙ ap (λ n. min 9999 (n * 10 + (c - 48))) (sym (cond-false _ _ _ kept))
      where
        by_min : (n d : ℕ) → min 9999 (n * 10 + d) ≡ min 9999 (min 9999 n * 10 + d)
        by_min n d = omega arith
