-- Bytes of which no continuation has an instruction at its front, and bytes of which no front is one.
use Rattle.std.proofs.Common.{◌≡◌, ◌≢◌, ℕ, suc, ◌+◌, ◌<◌, ◌≤◌, ◌⊎◌, inl, inr, true, List, [], ◌∷◌, ◌++◌, length, ap, sym, ◌∙◌, subst, arith, append_assoc, append-nil, length-append}
use Rattle.std.specs.Prelude.{encode_utf8_all}
use Rattle.std.specs.Str.{all_scalars}
use Rattle.std.specs.Char.{IsScalar, encode_utf8}
use Rattle.std.proofs.lemmas.Bool.{and_parts}
use Rattle.std.proofs.lemmas.Str.{length-le-encodes}
use Rattle.gate_model.specs.text.Spelling.{IsDigit, AllDigits, number_of, SpellsOthers}
use Rattle.gate_model.proofs.Digits.{head_same, AllDigits-rest, number_of-le}
use Rattle.gate_model.proofs.Spelt.{no_digit}
use Rattle.guac_framing.specs.Begun.{Begins, BeginsNone}
use Rattle.guac_framing.specs.Standing.{InLength, InValue, BehindValue}
use Rattle.guac_framing.specs.Found.{HasNoInstruction}
use Rattle.guac_framing.proofs.Begins.{length-Follows}
use Rattle.guac_framing.proofs.Seen.{NoElements, none_by, never_nil, see_length, see_value, see_behind}

-- ---- in a length
pub length_none : (f ds : List ℕ) (vs : List (List ℕ)) → InLength f vs ds → HasNoInstruction f
length_none f ds vs i = none_by f (λ c x es s count size e.
    let n = see_length f ds [] c x vs es i s (e ∙ ap (λ l. 44 ∷ l) (sym (append-nil f))) in
    omega (arith, ap length n.behind, length-append n.extra (46 ∷ (encode_utf8_all n.seen.value ++ (n.seen.more ++ 59 ∷ x)))))

-- what stands behind the digits: a further digit, or `.` where there is one digit at least
behind_digits : (ds element extra y : List ℕ) (b : ℕ) (z : List ℕ) → AllDigits element → element ≡ ds ++ extra → extra ++ 46 ∷ y ≡ b ∷ z → ((b ≡ 46) × (element ≡ ds)) ⊎ (IsDigit b × (length ds < length element))
behind_digits ds element [] y b z all long e = inl (sym (head_same _ _ _ _ e), long ∙ append-nil ds)
behind_digits ds element (d ∷ extra) y b z all long e =
    inr (subst IsDigit (head_same _ _ _ _ e) (AllDigits-rest ds (d ∷ extra) (subst AllDigits long all)).0, omega (arith, ap length long, length-append ds (d ∷ extra)))

pub length_rejects_digit : (f ds : List ℕ) (vs : List (List ℕ)) (b : ℕ) (z : List ℕ) → InLength f vs ds → (IsDigit b → ⊥) → (b ≡ 46 → ds ≡ []) → NoElements (f ++ b ∷ z)
length_rejects_digit f ds vs b z i none first = λ c x es s count e.
    let n = see_length f ds (b ∷ z) c x vs es i s e in
    elim (behind_digits ds n.seen.element.0 n.extra _ b z n.seen.element.1.all n.longer n.behind) [
      | inl h ↦ omega (arith, n.seen.element.1.some, ap length (h.1 ∙ first h.0))
      | inr h ↦ none h.0
    ]

pub length_rejects_sixth : (f ds : List ℕ) (vs : List (List ℕ)) (b : ℕ) (z : List ℕ) → InLength f vs ds → length ds ≡ 5 → IsDigit b → NoElements (f ++ b ∷ z)
length_rejects_sixth f ds vs b z i five digit = λ c x es s count e.
    let n = see_length f ds (b ∷ z) c x vs es i s e in
    elim (behind_digits ds n.seen.element.0 n.extra _ b z n.seen.element.1.all n.longer n.behind) [
      | inl h ↦ no_digit (subst IsDigit h.0 digit)
      | inr h ↦ omega (arith, n.seen.element.1.short, h.1)
    ]

-- the number of the digits makes the shortest completion too long
pub length_rejects_long : (f ds z : List ℕ) (vs : List (List ℕ)) → InLength f vs ds → 8192 < length f + (number_of ds + 2) → HasNoInstruction (f ++ z)
length_rejects_long f ds z vs i long = none_by (f ++ z) (λ c x es s count size e.
    let n = see_length f ds z c x vs es i s e in
    let value : number_of ds ≤ length n.seen.value = subst (λ m. number_of ds ≤ m) (ap number_of (sym n.longer) ∙ n.seen.element.1.value) (number_of-le ds n.extra) in
    omega (
      arith,
      size,
      n.seen.size,
      ap length n.seen.element.3,
      length-append n.seen.element.0 (46 ∷ encode_utf8_all n.seen.value),
      ap length n.longer,
      length-append ds n.extra,
      value,
      length-le-encodes n.seen.value,
      ap length i.split,
      length-append i.done (44 ∷ ds),
    ))

-- another element makes it too long
pub comma_rejects_long : (f z : List ℕ) (vs : List (List ℕ)) → InLength f vs [] → 8192 < length f + 3 → HasNoInstruction (f ++ z)
comma_rejects_long f z vs i long = none_by (f ++ z) (λ c x es s count size e.
    let n = see_length f [] z c x vs es i s e in
    omega (
      arith,
      size,
      n.seen.size,
      ap length n.seen.element.3,
      length-append n.seen.element.0 (46 ∷ encode_utf8_all n.seen.value),
      n.seen.element.1.some,
      ap length i.split,
      length-append i.done (44 ∷ []),
    ))

-- ---- in a value
pub value_none : (f chars : List ℕ) (vs : List (List ℕ)) (left : ℕ) → InValue f vs chars left → HasNoInstruction f
value_none f chars vs left i = none_by f (λ c x es s count size e.
    let n = see_value f [] c x chars vs es left i s (e ∙ ap (λ l. 44 ∷ l) (sym (append-nil f))) in
    never_nil (encode_utf8_all n.last) n.more x n.behind)

-- of the characters that are left there is a first one
pub record First (last tail w : List ℕ) (left : ℕ) : Type 0 where
  pub char : ℕ
  pub others : List ℕ
  pub scalar : IsScalar char
  pub count : length others ≡ left
  pub bytes : length (encode_utf8_all last) ≡ length (encode_utf8 char) + length (encode_utf8_all others)
  pub begins : encode_utf8 char ++ (encode_utf8_all others ++ tail) ≡ w

pub first_of : (last tail w : List ℕ) (left : ℕ) → length last ≡ suc left → all_scalars last ≡ true → encode_utf8_all last ++ tail ≡ w → First last tail w left
first_of [] tail w left n s e = absurd (omega (arith, n))
first_of (c ∷ last) tail w left n s e = record {
  char = c;
  others = last;
  scalar = (and_parts _ _ s).0;
  count = omega (arith, n);
  bytes = length-append (encode_utf8 c) (encode_utf8_all last);
  begins = sym (append_assoc (encode_utf8 c) (encode_utf8_all last) tail) ∙ e;
}

-- no character begins with the byte
pub value_rejects_lead : (f chars : List ℕ) (vs : List (List ℕ)) (left b : ℕ) (z : List ℕ) → InValue f vs chars (suc left) → BeginsNone b → NoElements (f ++ b ∷ z)
value_rejects_lead f chars vs left b z i none = λ c x es s count e.
    let n = see_value f (b ∷ z) c x chars vs es (suc left) i s e in
    let p = first_of n.last (n.more ++ 59 ∷ x) (b ∷ z) left n.left_is n.scalars n.behind in
    none p.char (encode_utf8_all p.others ++ (n.more ++ 59 ∷ x)) z p.scalar p.begins

-- no character continues so
pub char_rejects : (f begun chars : List ℕ) (vs : List (List ℕ)) (left b : ℕ) (z : List ℕ) → InValue f vs chars (suc left)
    → ((c : ℕ) (x z : List ℕ) → IsScalar c → encode_utf8 c ++ x ≡ begun ++ b ∷ z → ⊥) → NoElements (f ++ (begun ++ b ∷ z))
char_rejects f begun chars vs left b z i none = λ c x es s count e.
    let n = see_value f (begun ++ b ∷ z) c x chars vs es (suc left) i s e in
    let p = first_of n.last (n.more ++ 59 ∷ x) (begun ++ b ∷ z) left n.left_is n.scalars n.behind in
    none p.char (encode_utf8_all p.others ++ (n.more ++ 59 ∷ x)) z p.scalar p.begins

pub char_none : (f begun chars : List ℕ) (vs : List (List ℕ)) (left n least most : ℕ) → InValue f vs chars (suc left) → Begins begun (suc n) least most → HasNoInstruction (f ++ begun)
char_none f begun chars vs left n least most i k = none_by (f ++ begun) (λ c x es s count size e.
    let v = see_value f begun c x chars vs es (suc left) i s e in
    let p = first_of v.last (v.more ++ 59 ∷ x) begun left v.left_is v.scalars v.behind in
    let r = k.only p.char (encode_utf8_all p.others ++ (v.more ++ 59 ∷ x)) [] p.scalar (p.begins ∙ sym (append-nil begun)) in
    omega (arith, ap length r.2, length-append r.0 (encode_utf8_all p.others ++ (v.more ++ 59 ∷ x)), length-Follows (suc n) least most r.0 r.1))

-- the bytes that are due of a character make the shortest completion too long
pub char_rejects_long : (f begun z chars : List ℕ) (vs : List (List ℕ)) (left n least most : ℕ) → InValue f vs chars (suc left) → Begins begun n least most
    → 8192 < length f + length begun + n + left + 1 → HasNoInstruction (f ++ (begun ++ z))
char_rejects_long f begun z chars vs left n least most i k long = none_by (f ++ (begun ++ z)) (λ c x es s count size e.
    let v = see_value f (begun ++ z) c x chars vs es (suc left) i s e in
    let p = first_of v.last (v.more ++ 59 ∷ x) (begun ++ z) left v.left_is v.scalars v.behind in
    let rest = encode_utf8_all p.others ++ (v.more ++ 59 ∷ x) in
    let r = k.only p.char rest z p.scalar p.begins in
    let all : length (encode_utf8 p.char) + length rest ≡ length begun + length z =
    sym (length-append (encode_utf8 p.char) rest) ∙ ap length p.begins ∙ length-append begun z in
    omega (arith, size, v.size, all, ap length r.2, length-append r.0 rest, length-Follows n least most r.0 r.1, p.bytes, p.count, length-le-encodes p.others))

-- ---- behind a value
pub behind_none : (f : List ℕ) (vs : List (List ℕ)) → BehindValue f vs → HasNoInstruction f
behind_none f vs i = none_by f (λ c x es s count size e.
    let n = see_behind f [] c x vs es i s (e ∙ ap (λ l. 44 ∷ l) (sym (append-nil f))) in
    never_nil [] n.0 x n.4)

-- behind it stands `;`, or `,` and then there are more elements
ends : (vs es values : List (List ℕ)) (rest x z : List ℕ) (b : ℕ) → SpellsOthers rest values → es ≡ vs ++ values → rest ++ 59 ∷ x ≡ b ∷ z → (b ≡ 59) ⊎ ((b ≡ 44) × (length vs < length es))
ends vs es [] rest x z b s p e = inl (sym (head_same _ _ _ _ (sym (ap (λ l. l ++ 59 ∷ x) s) ∙ e)))
ends vs es (v ∷ values) rest x z b s p e = inr (sym (head_same _ _ _ _ (sym (ap (λ l. l ++ 59 ∷ x) s.3) ∙ e)), omega (arith, ap length p, length-append vs (v ∷ values)))

pub behind_rejects_separator : (f : List ℕ) (vs : List (List ℕ)) (b : ℕ) (z : List ℕ) → BehindValue f vs → b ≢ 44 → b ≢ 59 → NoElements (f ++ b ∷ z)
behind_rejects_separator f vs b z i no_comma no_end = λ c x es s count e.
    let n = see_behind f (b ∷ z) c x vs es i s e in
    elim (ends vs es n.1 n.0 x z b n.2 n.3 n.4) [ inl h ↦ no_end h | inr h ↦ no_comma h.0 ]

pub behind_rejects_many : (f : List ℕ) (vs : List (List ℕ)) (b : ℕ) (z : List ℕ) → BehindValue f vs → b ≡ 44 → length vs ≡ 128 → NoElements (f ++ b ∷ z)
behind_rejects_many f vs b z i comma many = λ c x es s count e.
    let n = see_behind f (b ∷ z) c x vs es i s e in
    elim (ends vs es n.1 n.0 x z b n.2 n.3 n.4) [ inl h ↦ omega (arith, h, comma) | inr h ↦ omega (arith, h.1, count, many) ]
