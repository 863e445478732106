-- Numbers that are written are read, and a value means the same in UTF-8.
use Rattle.std.proofs.Common.{◌≡◌, ℕ, suc, ◌-◌, ◌^◌, ◌<◌, ◌≤◌, List, [], ◌∷◌, ◌++◌, length, map, true, false, inl, inr, refl, ap, sym, ◌∙◌, subst, decimal, ℤ, pos, negsuc, neg_ℤ, arith, lit<, rules, length-append}
use Rattle.std.specs.Prelude.{nat_le, Option, Some, None, option_map, option_and_then, encode_utf8_all, bytes_eq, slice_get, get_or}
use Rattle.std.specs.Int.{is_in_range}
use Rattle.std.specs.Char.{is_ascii_digit}
use Rattle.std.specs.List.{list_all}
use Rattle.std.specs.Fmt.{signed_decimal}
use Rattle.std.proofs.lemmas.Bool.{leb-true, le-leb, and_parts, and_right, cases_Bool, cases_eq, ne_eqb}
use Rattle.std.proofs.lemmas.Bool.Decides.{same_from_decides, Decides-like}
use Rattle.std.proofs.lemmas.Slice.Eq.{bytes_eq-Decides}
use Rattle.std.proofs.lemmas.Fmt.{digits_decimal, digits_value-decimal, length-decimal-le, decimal_nonempty, decimal_digit}
use Rattle.std.proofs.lemmas.Str.{encode_ascii, encodes_same, char_from_byte, length-encode, len_utf8_bounds}
use Rattle.std.proofs.lemmas.Str.Parse.{IsNumeralModel, numerals_by_fold}
use Rattle.std.proofs.lemmas.Option.{slice_get-map}
use lib.Utf8.{encode}
use lib.Dec.{leb→le}
use Rattle.gate_model.specs.text.Spelling.{number_after, number_of}
use Rattle.gate_model.specs.text.Numerals.{value_at, is_number, number_within, number_of_bits, coordinate_of, layer_of}
use Rattle.gate_model.specs.picture.Shape.{IsLayer}

-- ---- written and read

own : IsNumeralModel (λ ds. list_all is_ascii_digit ds ≡ true) (number_after 0)
own = numerals_by_fold _ (search rules) number_after (search rules)

pub digits-decimal : (n : ℕ) → n < 2 ^ 64 → list_all is_ascii_digit (decimal n) ≡ true
digits-decimal n small = digits_decimal own n small

pub value-decimal : (n : ℕ) → n < 2 ^ 64 → number_of (decimal n) ≡ n
value-decimal n small = digits_value-decimal own n small

pub short-decimal : (n : ℕ) → n < 2 ^ 64 → length (decimal n) ≤ 20
short-decimal n small = length-decimal-le 20 n (lit< tt) (omega (arith, small)) small

within : (least most n : ℕ) → least ≤ n → n ≤ most → is_in_range least most n ≡ true
within least most n l m = rw (le-leb least n l, le-leb n most m) refl

is_number-decimal : (n : ℕ) → n < 2 ^ 64 → is_number (decimal n) ≡ true
is_number-decimal n small =
    let long : is_in_range 1 20 (length (decimal n)) ≡ true = within 1 20 (length (decimal n)) (omega (arith, decimal_nonempty n small)) (short-decimal n small) in
    rw (long, digits-decimal n small) refl

pub number_within-decimal : (least most n : ℕ) → n < 2 ^ 64 → least ≤ n → n ≤ most → number_within least most (decimal n) ≡ Some n
number_within-decimal least most n small l m =
    let ranged : is_in_range least most n ≡ true = within least most n l m in
    rw (is_number-decimal n small, value-decimal n small, ranged) refl

pub layer_of-signed : (k : ℤ) → IsLayer k → layer_of (signed_decimal k) ≡ Some k
layer_of-signed (pos n) (low, high) =
    let none : n ≡ 0 = omega (arith, leb→le n 0 high.le) in
    subst (λ (m : ℕ). layer_of (signed_decimal (pos m)) ≡ Some (pos m)) (sym none) (ap layer_of (decimal_digit 0 (lit< tt)))
layer_of-signed (negsuc n) (low, high) =
    let most : n ≤ 1023 = leb→le n 1023 low.le in
    ap (option_map (λ (m : ℕ). neg_ℤ (pos m))) (number_within-decimal 1 1024 (suc n) (omega (arith, most)) (omega arith) (omega (arith, most)))

-- ---- in UTF-8

-- digits are their own UTF-8
digits_stay : (value : List ℕ) → list_all is_ascii_digit value ≡ true → encode_utf8_all value ≡ value
digits_stay [] all = refl
digits_stay (c ∷ cs) all =
    let p = and_parts (is_ascii_digit c) (list_all is_ascii_digit cs) all in
    let q = and_parts (nat_le 48 c) (nat_le c 57) p.0 in
    let small : c ≤ 57 = leb-true c 57 q.1 in
    let first : encode c ≡ c ∷ [] = encode_ascii c (omega (arith, small)) in
    rw (first, digits_stay cs p.1) refl

-- a number is read alike
pub number_in_utf8 : (least most : ℕ) (value : List ℕ) → number_within least most (encode_utf8_all value) ≡ number_within least most value
number_in_utf8 least most value =
    elim (cases_Bool (list_all is_ascii_digit value)) as (λ _. number_within least most (encode_utf8_all value) ≡ number_within least most value) [
      | inl is ↦ ap (number_within least most) (digits_stay value is)
      | inr not ↦ elim (cases_Bool (list_all is_ascii_digit (encode_utf8_all value))) as (λ _. number_within least most (encode_utf8_all value) ≡ number_within least most value) [
        | inl is ↦ ap (number_within least most) (encodes_same (encode_utf8_all value) value (digits_stay (encode_utf8_all value) is))
        | inr neither ↦ none (encode_utf8_all value) neither ∙ sym (none value not)
      ]
    ]
  where
    none : (v : List ℕ) → list_all is_ascii_digit v ≡ false → number_within least most v ≡ None
    none v e =
        let no : is_number v ≡ false = and_right (is_in_range 1 20 (length v)) (list_all is_ascii_digit v) e in
        rw no refl

-- a word is told alike
pub word_in_utf8 : (value word : List ℕ) → encode_utf8_all word ≡ word → bytes_eq (encode_utf8_all value) word ≡ bytes_eq value word
word_in_utf8 value word own =
    same_from_decides (bytes_eq (encode_utf8_all value) word) (bytes_eq value word)
    (Decides-like (bytes_eq (encode_utf8_all value) word) (λ e. encodes_same value word (e ∙ sym own)) (λ e. ap encode_utf8_all e ∙ own) (bytes_eq-Decides (encode_utf8_all value) word))
    (bytes_eq-Decides value word)

-- what reads a `-` and then digits, or digits alone, reads alike
signed_in_utf8 : (reads minus plain : List ℕ → Option ℤ) → reads [] ≡ plain [] → ((cs : List ℕ) → reads (45 ∷ cs) ≡ minus cs) → ((c : ℕ) (cs : List ℕ) → (c ≡ 45 → ⊥) → reads (c ∷ cs) ≡ plain (c ∷ cs))
    → ((v : List ℕ) → minus (encode_utf8_all v) ≡ minus v) → ((v : List ℕ) → plain (encode_utf8_all v) ≡ plain v) → (value : List ℕ) → reads (encode_utf8_all value) ≡ reads value
signed_in_utf8 reads minus plain nil at_minus at_other minus_same plain_same [] = refl
signed_in_utf8 reads minus plain nil at_minus at_other minus_same plain_same (c ∷ cs) =
    elim (cases_eq c 45) as (λ _. reads (encode_utf8_all (c ∷ cs)) ≡ reads (c ∷ cs)) [
      | inl is ↦ subst (λ (b : ℕ). reads (encode_utf8_all (b ∷ cs)) ≡ reads (b ∷ cs)) (sym is) (ap (λ front. reads (front ++ encode_utf8_all cs)) (encode_ascii 45 (lit< tt)) ∙ at_minus (encode_utf8_all cs) ∙ minus_same cs ∙ sym (at_minus cs))
      | inr not ↦ unsigned (encode_utf8_all (c ∷ cs)) (first not) ∙ plain_same (c ∷ cs) ∙ sym (at_other c cs not)
    ]
  where
    unsigned : (v : List ℕ) → (get_or v 0 0 ≡ 45 → ⊥) → reads v ≡ plain v
    unsigned [] not = nil
    unsigned (b ∷ bs) not = at_other b bs not

    first : (c ≡ 45 → ⊥) → get_or (encode_utf8_all (c ∷ cs)) 0 0 ≡ 45 → ⊥
    first not e =
        let some : 0 < length (encode c ++ encode_utf8_all cs) = omega (arith, length-append (encode c) (encode_utf8_all cs), length-encode c, (len_utf8_bounds c).0) in
        not (char_from_byte (encode c ++ encode_utf8_all cs) (encode_utf8_all cs) c refl (omega (arith, e)) some ∙ e)

pub coordinate_in_utf8 : (value : List ℕ) → coordinate_of (encode_utf8_all value) ≡ coordinate_of value
coordinate_in_utf8 =
    signed_in_utf8 coordinate_of (λ v. option_map (λ n. neg_ℤ (pos n)) (number_of_bits 31 v)) (λ v. option_map (λ n. pos n) (number_of_bits 31 v)) refl (λ cs. refl) (λ c cs not. rw (ne_eqb c 45 not) refl)
    (λ v. ap (option_map (λ n. neg_ℤ (pos n))) (number_in_utf8 0 (2 ^ 31 - 1) v)) (λ v. ap (option_map (λ n. pos n)) (number_in_utf8 0 (2 ^ 31 - 1) v))

pub layer_in_utf8 : (value : List ℕ) → layer_of (encode_utf8_all value) ≡ layer_of value
layer_in_utf8 =
    signed_in_utf8 layer_of (λ v. option_map (λ n. neg_ℤ (pos n)) (number_within 1 1024 v)) (λ v. option_map (λ n. pos n) (number_within 0 0 v)) refl (λ cs. refl) (λ c cs not. rw (ne_eqb c 45 not) refl)
    (λ v. ap (option_map (λ n. neg_ℤ (pos n))) (number_in_utf8 1 1024 v)) (λ v. ap (option_map (λ n. pos n)) (number_in_utf8 0 0 v))

-- the value of an element is read alike
pub value_in_utf8 : {A : Type 0} (reads : List ℕ → Option A) → ((v : List ℕ) → reads (encode_utf8_all v) ≡ reads v) → (k : ℕ) (elements : List (List ℕ))
    → value_at reads k (map encode_utf8_all elements) ≡ value_at reads k elements
value_in_utf8 reads same k elements = ap (option_and_then reads) (slice_get-map encode_utf8_all elements k) ∙ read (slice_get elements k)
  where
    read : (o : Option (List ℕ)) → option_and_then reads (option_map encode_utf8_all o) ≡ option_and_then reads o
    read None = refl
    read (Some v) = same v
