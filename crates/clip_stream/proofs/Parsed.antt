-- The instruction at the front of bytes is what `Spells` says, both ways.
use Rattle.std.proofs.Common.{◌≡◌, ℕ, zero, suc, ◌+◌, ◌*◌, ◌-◌, ◌<◌, ◌≤◌, List, [], ◌∷◌, ◌++◌, length, length-append, length-drop, take, drop, map, Bool, true, false, cond, Option, Some, None, refl, ap, sym, subst, ◌∙◌, arith, append_assoc, append-nil}
use Rattle.std.proofs.lemmas.Bool.{eqb-true, eq-eqb, ltb-true, lt-ltb, leb-true, le-leb, and_from, and_parts, cond-true, cond-false}
use Rattle.std.proofs.lemmas.List.{take-append-drop}
use Rattle.std.proofs.Math.Seq.{take-append_seam, drop-append_seam}
use Rattle.std.proofs.lemmas.Str.{IsUtf8-from_is_utf8, is_utf8-from_IsUtf8, encodes-chars, scalars-chars, chars_from_encodes}
use Rattle.std.specs.Prelude.{◌==◌, ◌&&◌, nat_lt, nat_le, option_map, option_and_then}
use Rattle.std.specs.Char.{is_ascii_digit}
use Rattle.std.specs.Str.{all_scalars, chars, encode_utf8_all, IsUtf8}
use Rattle.gate_model.specs.text.Spelling.{IsDigit, AllDigits, number_after, SpellsElement, SpellsOthers, SpellsElements, Spells}
use Rattle.gate_model.specs.text.Reading.{IsHead}
use Rattle.gate_model.proofs.Spelt.{chars_same}
use Rattle.guac_framing.specs.Answers.{IsWhole}
use Rattle.guac_framing.specs.Found.{HasNoInstruction}
use Rattle.std.proofs.lemmas.Bool.Decides.{nat_tests}
use Rattle.clip_stream.specs.Fronts.{find, cut_at, has_chars, length_at, value_at, element_at, behind, elements_at, with_first, within, instruction_at, Sent}
use Rattle.gate_model.specs.Limits.{most_bytes, most_elements}
use Rattle.clip_stream.proofs.Finding.{find-sound, find-complete}

some_same : {A : Type 0} (x y : A) → Some x ≡ Some y → x ≡ y
some_same x y e = cc

-- a pair that was found, part by part
pub pair_same : {A B : Type 0} (a c : A) (b d : B) → ◌≡◌ {A = Option (A × B)} (Some (a, b)) (Some (c, d)) → (a ≡ c) × (b ≡ d)
pair_same {A} {B} a c b d e = let p = some_same {A = A × B} (a, b) (c, d) e in (ap (λ (q : A × B). q.0) p, ap (λ (q : A × B). q.1) p)

-- a text of so many characters
pub has-sound : (count : ℕ) (text : List ℕ) → has_chars count text ≡ true → (u : List ℕ) × (length u ≡ count) × (all_scalars u ≡ true) × (text ≡ encode_utf8_all u)
has-sound count text e =
    let p = and_parts _ _ e in
    let utf8 = IsUtf8-from_is_utf8 text p.0 in
    (chars text, eqb-true _ _ p.1, scalars-chars text utf8, sym (encodes-chars text utf8))

pub has-complete : (u : List ℕ) (text : List ℕ) → all_scalars u ≡ true → text ≡ encode_utf8_all u → has_chars (length u) text ≡ true
has-complete u text all e =
    let utf8 : IsUtf8 text = (u, (all, sym e)) in
    and_from _ _ (is_utf8-from_IsUtf8 text utf8) (eq-eqb _ _ (ap length (sym (chars_from_encodes u text utf8 (sym e)))))

-- two fronts of one list, of so many characters, are one
one_front : (count m k : ℕ) (bytes : List ℕ) → m ≤ length bytes → k ≤ length bytes → has_chars count (take m bytes) ≡ true → has_chars count (take k bytes) ≡ true → k ≡ m
one_front count m k bytes a b first second =
    let u = has-sound count (take m bytes) first in
    let w = has-sound count (take k bytes) second in
    let same = chars_same w.0 u.0 (drop k bytes) (drop m bytes) (w.1 ∙ sym u.1)
    (ap (λ t. t ++ drop k bytes) (sym w.3) ∙ take-append-drop k bytes ∙ sym (take-append-drop m bytes) ∙ ap (λ t. t ++ drop m bytes) u.3) in
    let len = ap length same.1 in
    omega (arith, len, length-drop k bytes, length-drop m bytes)

value-sound-by : (count : ℕ) (bytes value rest : List ℕ) (o : Option ℕ) → find (λ n. has_chars count (take n bytes)) (length bytes + 1) ≡ o → option_map (cut_at bytes) o ≡ Some (value, rest)
    → (u : List ℕ) × (length u ≡ count) × (all_scalars u ≡ true) × (value ≡ encode_utf8_all u) × (bytes ≡ value ++ rest)
value-sound-by count bytes value rest None found f = cc
value-sound-by count bytes value rest (Some n) found f =
    let is = find-sound (λ k. has_chars count (take k bytes)) (length bytes + 1) n found in
    let u = has-sound count (take n bytes) is.1 in
    let p = pair_same (take n bytes) value (drop n bytes) rest f in
    (u.0, u.1, u.2, sym p.0 ∙ u.3, sym (take-append-drop n bytes) ∙ ap (λ t. t ++ drop n bytes) p.0 ∙ ap (λ t. value ++ t) p.1)

pub value-sound : (count : ℕ) (bytes value rest : List ℕ) → value_at count bytes ≡ Some (value, rest) → (u : List ℕ) × (length u ≡ count) × (all_scalars u ≡ true) × (value ≡ encode_utf8_all u) × (bytes ≡ value ++ rest)
unfolding value_at
value-sound count bytes value rest e = value-sound-by count bytes value rest (find (λ n. has_chars count (take n bytes)) (length bytes + 1)) refl e

pub value-complete : (u rest : List ℕ) → all_scalars u ≡ true → value_at (length u) (encode_utf8_all u ++ rest) ≡ Some (encode_utf8_all u, rest)
unfolding value_at
value-complete u rest all =
    let bytes = encode_utf8_all u ++ rest in
    let n = length (encode_utf8_all u) in
    let long = length-append (encode_utf8_all u) rest in
    let front : take n bytes ≡ encode_utf8_all u = take-append_seam (encode_utf8_all u) rest in
    let back : drop n bytes ≡ rest = drop-append_seam (encode_utf8_all u) rest in
    let is = has-complete u (take n bytes) all front in
    let found = find-complete (λ k. has_chars (length u) (take k bytes)) (length bytes + 1) n (omega (arith, long)) is (λ k below t. one_front (length u) n k bytes (omega (arith, long)) (omega arith) is t) in
    let pair : cut_at bytes n ≡ (encode_utf8_all u, rest) = ap (λ (v : List ℕ). (v, drop n bytes)) front ∙ ap (λ (r : List ℕ). (encode_utf8_all u, r)) back in
    ap (option_map (cut_at bytes)) found ∙ ap Some pair

-- ---- a length

digit_from : (b : ℕ) → is_ascii_digit b ≡ true → IsDigit b
digit_from b e = grind (arith, nat_tests)

digit_is : (b : ℕ) → IsDigit b → is_ascii_digit b ≡ true
digit_is b d = let low = d.0 in let high = d.1 in grind (arith, nat_tests)

pub record Length (n digits : ℕ) (bytes : List ℕ) (value : ℕ) (rest : List ℕ) : Type 0 where
  pub own : List ℕ
  pub all : AllDigits own
  pub some : 1 ≤ digits + length own
  pub short : digits + length own ≤ 5
  pub value_is : number_after n own ≡ value
  pub split : bytes ≡ own ++ 46 ∷ rest

length-end : (n digits value : ℕ) (bytes rest : List ℕ) (t : Bool) → nat_lt 0 digits ≡ t → digits ≤ 5 → cond {A = Option (ℕ × List ℕ)} t (Some (n, bytes)) None ≡ Some (value, rest) → Length n digits (46 ∷ bytes) value rest
length-end n digits value bytes rest true is few e =
    let some = ltb-true 0 digits is in
    let p = pair_same n value bytes rest e in
    record { own = []; all = tt; some = omega arith; short = omega arith; value_is = p.0; split = ap (λ t. 46 ∷ t) p.1 }
length-end n digits value bytes rest false is few e = cc

length-more : (n digits value b : ℕ) (bytes rest : List ℕ) (t : Bool) → (is_ascii_digit b && nat_lt digits 5) ≡ t
    → (digits + 1 ≤ 5 → length_at (10 * n + (b - 48)) (digits + 1) bytes ≡ Some (value, rest) → Length (10 * n + (b - 48)) (digits + 1) bytes value rest)
    → cond t (length_at (10 * n + (b - 48)) (digits + 1) bytes) None ≡ Some (value, rest) → Length n digits (b ∷ bytes) value rest
length-more n digits value b bytes rest true is further e =
    let both = and_parts _ _ is in
    let less = ltb-true digits 5 both.1 in
    let r = further (omega arith) e in
    record { own = b ∷ r.own; all = (digit_from b both.0, r.all); some = omega (arith, r.some); short = omega (arith, r.short); value_is = r.value_is; split = ap (λ t. b ∷ t) r.split }
length-more n digits value b bytes rest false is further e = cc

length-by : (n digits value b : ℕ) (bytes rest : List ℕ) (t : Bool) → (b == 46) ≡ t → digits ≤ 5
    → (digits + 1 ≤ 5 → length_at (10 * n + (b - 48)) (digits + 1) bytes ≡ Some (value, rest) → Length (10 * n + (b - 48)) (digits + 1) bytes value rest)
    → cond {A = Option (ℕ × List ℕ)} t (cond (nat_lt 0 digits) (Some (n, bytes)) None) (cond (is_ascii_digit b && nat_lt digits 5) (length_at (10 * n + (b - 48)) (digits + 1) bytes) None) ≡ Some (value, rest)
    → Length n digits (b ∷ bytes) value rest
length-by n digits value b bytes rest true is few further e =
    subst (λ (c : ℕ). Length n digits (c ∷ bytes) value rest) (sym (eqb-true b 46 is)) (length-end n digits value bytes rest (nat_lt 0 digits) refl few e)
length-by n digits value b bytes rest false is few further e = length-more n digits value b bytes rest (is_ascii_digit b && nat_lt digits 5) refl further e

pub length-sound : (n digits : ℕ) (bytes : List ℕ) (value : ℕ) (rest : List ℕ) → digits ≤ 5 → length_at n digits bytes ≡ Some (value, rest) → Length n digits bytes value rest
length-sound n digits [] value rest few e = cc
length-sound n digits (b ∷ bytes) value rest few e =
    length-by n digits value b bytes rest (b == 46) refl few (λ less f. length-sound (10 * n + (b - 48)) (digits + 1) bytes value rest less f) e

pub length-complete : (n digits : ℕ) (own rest : List ℕ) → AllDigits own → 1 ≤ digits + length own → digits + length own ≤ 5 → length_at n digits (own ++ 46 ∷ rest) ≡ Some (number_after n own, rest)
length-complete n digits [] rest all some short = ap (λ (t : Bool). cond {A = Option (ℕ × List ℕ)} t (Some (n, rest)) None) (lt-ltb 0 digits (omega arith))
length-complete n digits (b ∷ own) rest all some short =
    let other : (b == 46) ≡ false = let low = all.0.0 in grind (arith, nat_tests) in
    let more : (is_ascii_digit b && nat_lt digits 5) ≡ true = and_from _ _ (digit_is b all.0) (lt-ltb digits 5 (omega arith)) in
    cond-false _ _ _ other ∙ (cond-true _ _ _ more ∙ length-complete (10 * n + (b - 48)) (digits + 1) own rest all.1 (omega arith) (omega arith))

-- ---- an element

pub record Element (bytes value rest : List ℕ) : Type 0 where
  pub own : List ℕ
  pub chars_of : List ℕ
  pub spelled : SpellsElement own chars_of
  pub value_is : value ≡ encode_utf8_all chars_of
  pub split : bytes ≡ own ++ rest

element-by : (bytes value rest : List ℕ) (o : Option (ℕ × List ℕ)) → length_at 0 0 bytes ≡ o → option_and_then (λ (l : ℕ × List ℕ). value_at l.0 l.1) o ≡ Some (value, rest) → Element bytes value rest
element-by bytes value rest None found e = cc
element-by bytes value rest (Some l) found e =
    let n = length-sound 0 0 bytes l.0 l.1 (omega arith) found in
    let v = value-sound l.0 l.1 value rest e in
    record {
      own = n.own ++ 46 ∷ encode_utf8_all v.0;
      chars_of = v.0;
      spelled = (n.own, record { all = n.all; some = omega (arith, n.some); short = omega (arith, n.short); value = n.value_is ∙ sym v.1 }, v.2, refl);
      value_is = v.3;
      split = n.split ∙ ap (λ t. n.own ++ 46 ∷ t) (v.4 ∙ ap (λ t. t ++ rest) v.3) ∙ sym (append_assoc n.own (46 ∷ encode_utf8_all v.0) rest);
    }

pub element-sound : (bytes value rest : List ℕ) → element_at bytes ≡ Some (value, rest) → Element bytes value rest
element-sound bytes value rest e = element-by bytes value rest (length_at 0 0 bytes) refl e

pub element-complete : (own u rest : List ℕ) → SpellsElement own u → element_at (own ++ rest) ≡ Some (encode_utf8_all u, rest)
element-complete own u rest s =
    let text : own ++ rest ≡ s.0 ++ 46 ∷ (encode_utf8_all u ++ rest) = ap (λ t. t ++ rest) s.3 ∙ append_assoc s.0 (46 ∷ encode_utf8_all u) rest in
    let n = length-complete 0 0 s.0 (encode_utf8_all u ++ rest) s.1.all (omega (arith, s.1.some)) (omega (arith, s.1.short)) in
    let count : number_after 0 s.0 ≡ length u = s.1.value in
    ap (option_and_then (λ (l : ℕ × List ℕ). value_at l.0 l.1)) (ap (length_at 0 0) text ∙ n)
    ∙ ap (λ k. value_at k (encode_utf8_all u ++ rest)) count
    ∙ value-complete u rest s.2

-- ---- elements

pub record Elements (n : ℕ) (bytes : List ℕ) (values : List (List ℕ)) (rest : List ℕ) : Type 0 where
  pub own : List ℕ
  pub elements : List (List ℕ)
  pub spelled : SpellsElements own elements
  pub few : length elements ≤ n
  pub values_are : values ≡ map encode_utf8_all elements
  pub split : bytes ≡ own ++ rest

abbrev First : ℕ → List ℕ → List (List ℕ) → List ℕ → Type 0
First n bytes values rest = elements_at n bytes ≡ Some (values, rest) → Elements n bytes values rest

-- elements behind the first
others-from : (own : List ℕ) (elements : List (List ℕ)) → SpellsElements own elements → (r : List ℕ) × SpellsOthers r elements × (44 ∷ own ≡ r ++ 59 ∷ [])
others-from own [] s = absurd s
others-from own (e ∷ es) s = (44 ∷ s.0 ++ s.1, (s.0, s.1, s.2, refl, s.3), ap (λ t. 44 ∷ t) s.4)

elements-comma : (n : ℕ) (value bytes rest : List ℕ) (values : List (List ℕ)) (whole : List ℕ) (f : Element whole value (44 ∷ bytes)) (o : Option (List (List ℕ) × List ℕ)) → elements_at n bytes ≡ o
    → ((vs : List (List ℕ)) (x : List ℕ) → elements_at n bytes ≡ Some (vs, x) → Elements n bytes vs x)
    → option_map (with_first value) o ≡ Some (values, rest) → Elements (suc n) whole values rest
elements-comma n value bytes rest values whole f None found further e = cc
elements-comma n value bytes rest values whole f (Some r) found further e =
    let m = further r.0 r.1 found in
    let p = pair_same (value ∷ r.0) values r.1 rest e in
    let os = others-from m.own m.elements m.spelled in
    record {
      own = f.own ++ 44 ∷ m.own;
      elements = f.chars_of ∷ m.elements;
      spelled = (f.own, os.0, f.spelled, os.1, ap (λ t. f.own ++ t) os.2 ∙ sym (append_assoc f.own os.0 (59 ∷ [])));
      few = omega (arith, m.few);
      values_are = sym p.0 ∙ ap (λ v. v ∷ r.0) f.value_is ∙ ap (λ vs. encode_utf8_all f.chars_of ∷ vs) m.values_are;
      split = f.split ∙ ap (λ t. f.own ++ 44 ∷ t) (m.split ∙ ap (λ t. m.own ++ t) p.1) ∙ sym (append_assoc f.own (44 ∷ m.own) rest);
    }

elements-behind : (n : ℕ) (value bytes rest : List ℕ) (b : ℕ) (values : List (List ℕ)) (whole : List ℕ) (f : Element whole value (b ∷ bytes)) (t u : Bool) → (b == 59) ≡ t → (b == 44) ≡ u
    → ((vs : List (List ℕ)) (x : List ℕ) → elements_at n bytes ≡ Some (vs, x) → Elements n bytes vs x)
    → cond {A = Option (List (List ℕ) × List ℕ)} t (Some (value ∷ [], bytes)) (cond u (option_map (with_first value) (elements_at n bytes)) None) ≡ Some (values, rest)
    → Elements (suc n) whole values rest
elements-behind n value bytes rest b values whole f true u is other further e =
    let p = pair_same (value ∷ []) values bytes rest e in
    let b_is : b ≡ 59 = eqb-true b 59 is in
    record {
      own = f.own ++ 59 ∷ [];
      elements = f.chars_of ∷ [];
      spelled = (f.own, [], f.spelled, refl, ap (λ t. t ++ 59 ∷ []) (sym (append-nil f.own)));
      few = omega arith;
      values_are = sym p.0 ∙ ap (λ v. v ∷ []) f.value_is;
      split = f.split ∙ ap (λ c. f.own ++ c ∷ bytes) b_is ∙ ap (λ t. f.own ++ 59 ∷ t) p.1 ∙ sym (append_assoc f.own (59 ∷ []) rest);
    }
elements-behind n value bytes rest b values whole f false true is other further e =
    elements-comma n value bytes rest values whole (subst (λ (c : ℕ). Element whole value (c ∷ bytes)) (eqb-true b 44 other) f) (elements_at n bytes) refl further e
elements-behind n value bytes rest b values whole f false false is other further e = cc

elements-first : (n : ℕ) (bytes rest : List ℕ) (values : List (List ℕ)) (o : Option (List ℕ × List ℕ)) → element_at bytes ≡ o
    → ((b : List ℕ) (vs : List (List ℕ)) (x : List ℕ) → elements_at n b ≡ Some (vs, x) → Elements n b vs x)
    → option_and_then (behind (elements_at n)) o ≡ Some (values, rest) → Elements (suc n) bytes values rest
elements-first n bytes rest values None found further e = cc
elements-first n bytes rest values (Some (value, [])) found further e = cc
elements-first n bytes rest values (Some (value, b ∷ more)) found further e =
    elements-behind n value more rest b values bytes (element-sound bytes value (b ∷ more) found) (b == 59) (b == 44) refl refl (further more) e

pub elements-sound : (n : ℕ) (bytes : List ℕ) (values : List (List ℕ)) (rest : List ℕ) → elements_at n bytes ≡ Some (values, rest) → Elements n bytes values rest
unfolding elements_at
elements-sound zero bytes values rest e = cc
elements-sound (suc n) bytes values rest e = elements-first n bytes rest values (element_at bytes) refl (λ b vs x f. elements-sound n b vs x f) e

-- elements that are spelled are found
abbrev Found : List ℕ → List (List ℕ) → Type 0
Found own elements = (n : ℕ) (rest : List ℕ) → length elements ≤ n → elements_at n (own ++ rest) ≡ Some (map encode_utf8_all elements, rest)

behind-end : (n : ℕ) (value rest : List ℕ) → behind (elements_at n) (value, 59 ∷ rest) ≡ Some (value ∷ [], rest)
behind-end n value rest = refl

behind-comma : (n : ℕ) (value rest : List ℕ) → behind (elements_at n) (value, 44 ∷ rest) ≡ option_map (with_first value) (elements_at n rest)
behind-comma n value rest = refl

-- an element, and what is behind it
step-complete : (n : ℕ) (own u rest : List ℕ) → SpellsElement own u → elements_at (suc n) (own ++ rest) ≡ behind (elements_at n) (encode_utf8_all u, rest)
unfolding elements_at
step-complete n own u rest s = ap (option_and_then (behind (elements_at n))) (element-complete own u rest s)

-- the others, as if they stood behind a value
rest-complete : (n : ℕ) (value : List ℕ) (others : List (List ℕ)) (own rest : List ℕ) → SpellsOthers own others → length others ≤ n
    → behind (elements_at n) (value, own ++ 59 ∷ rest) ≡ Some (value ∷ map encode_utf8_all others, rest)
rest-complete n value [] own rest s few = ap (λ t. behind (elements_at n) (value, t ++ 59 ∷ rest)) s ∙ behind-end n value rest
rest-complete zero value (e ∷ others) own rest s few = absurd (omega arith)
rest-complete (suc n) value (e ∷ others) own rest s few =
    let text : own ++ 59 ∷ rest ≡ 44 ∷ (s.0 ++ (s.1 ++ 59 ∷ rest)) = ap (λ t. t ++ 59 ∷ rest) s.3 ∙ ap (λ t. 44 ∷ t) (append_assoc s.0 s.1 (59 ∷ rest)) in
    ap (λ t. behind (elements_at (suc n)) (value, t)) text
    ∙ behind-comma (suc n) value (s.0 ++ (s.1 ++ 59 ∷ rest))
    ∙ ap (option_map (with_first value)) (step-complete n s.0 e (s.1 ++ 59 ∷ rest) s.2 ∙ rest-complete n (encode_utf8_all e) others s.1 rest s.4 (omega arith))

pub elements-complete : (n : ℕ) (own : List ℕ) (elements : List (List ℕ)) (rest : List ℕ) → SpellsElements own elements → length elements ≤ n → elements_at n (own ++ rest) ≡ Some (map encode_utf8_all elements, rest)
elements-complete n own [] rest s few = absurd s
elements-complete zero own (e ∷ others) rest s few = absurd (omega arith)
elements-complete (suc n) own (e ∷ others) rest s few =
    let text : own ++ rest ≡ s.0 ++ (s.1 ++ 59 ∷ rest) = ap (λ t. t ++ rest) s.4 ∙ append_assoc (s.0 ++ s.1) (59 ∷ []) rest ∙ append_assoc s.0 s.1 (59 ∷ rest) in
    ap (elements_at (suc n)) text ∙ step-complete n s.0 e (s.1 ++ 59 ∷ rest) s.2 ∙ rest-complete n (encode_utf8_all e) others s.1 rest s.3 (omega arith)

-- ---- an instruction

pub record Instruction (bytes : List ℕ) (sent : Sent) (rest : List ℕ) : Type 0 where
  pub elements : List (List ℕ)
  pub spelled : Spells sent.0 elements
  pub values_are : sent.1 ≡ map encode_utf8_all elements
  pub split : bytes ≡ sent.0 ++ rest

-- the front of a list, by the length of the rest
front_is : (own rest bytes : List ℕ) → bytes ≡ own ++ rest → take (length bytes - length rest) bytes ≡ own
front_is own rest bytes e =
    let n : length bytes - length rest ≡ length own = omega (arith, ap length e, length-append own rest) in
    ap (λ k. take k bytes) n ∙ ap (take (length own)) e ∙ take-append_seam own rest

pub record One (bytes : List ℕ) (given : List Sent) (rest : List ℕ) : Type 0 where
  pub sent : Sent
  pub given_is : given ≡ sent ∷ []
  pub is : Instruction bytes sent rest

within-by : (bytes : List ℕ) (found : List (List ℕ) × List ℕ) (given : List Sent) (rest : List ℕ) (t : Bool) → nat_le (length bytes - length found.1) most_bytes ≡ t → Elements most_elements bytes found.0 found.1
    → cond {A = Option (List Sent × List ℕ)} t (Some ((take (length bytes - length found.1) bytes, found.0) ∷ [], found.1)) None ≡ Some (given, rest) → One bytes given rest
within-by bytes found given rest true is whole e =
    let p = pair_same {A = List Sent} {B = List ℕ} ((take (length bytes - length found.1) bytes, found.0) ∷ []) given found.1 rest e in
    let front = front_is whole.own found.1 bytes whole.split in
    let size = leb-true _ _ is in
    record {
      sent = (take (length bytes - length found.1) bytes, found.0);
      given_is = sym p.0;
      is = record {
        elements = whole.elements;
        spelled = record {
          spelled = subst (λ (o : List ℕ). SpellsElements o whole.elements) (sym front) whole.spelled;
          count = whole.few;
          size = omega (arith, size, ap length front, ap length whole.split, length-append whole.own found.1);
        };
        values_are = whole.values_are;
        split = whole.split ∙ ap (λ o. o ++ found.1) (sym front) ∙ ap (λ r. take (length bytes - length found.1) bytes ++ r) p.1;
      };
    }
within-by bytes found given rest false is whole e = cc

instruction-by : (bytes : List ℕ) (given : List Sent) (rest : List ℕ) (o : Option (List (List ℕ) × List ℕ)) → elements_at most_elements bytes ≡ o → option_and_then (within bytes) o ≡ Some (given, rest) → One bytes given rest
instruction-by bytes given rest None found e = cc
instruction-by bytes given rest (Some r) found e =
    within-by bytes r given rest (nat_le (length bytes - length r.1) most_bytes) refl (elements-sound most_elements bytes r.0 r.1 found) e

-- what is found is an instruction
pub instruction-sound : (bytes : List ℕ) (given : List Sent) (rest : List ℕ) → instruction_at bytes ≡ Some (given, rest) → One bytes given rest
instruction-sound bytes given rest e = instruction-by bytes given rest (elements_at most_elements bytes) refl e

abbrev in_place : List ℕ → List (List ℕ) → List ℕ → Option (List Sent × List ℕ)
in_place own values rest = Some ((own, values) ∷ [], rest)

-- an instruction is found
pub instruction-complete : (own : List ℕ) (elements : List (List ℕ)) (rest : List ℕ) → Spells own elements → instruction_at (own ++ rest) ≡ Some ((own, map encode_utf8_all elements) ∷ [], rest)
instruction-complete own elements rest s =
    let found = elements-complete most_elements own elements rest s.spelled s.count in
    let front = front_is own rest (own ++ rest) refl in
    let size = s.size in
    let long = length-append own rest in
    let fits : nat_le (length (own ++ rest) - length rest) most_bytes ≡ true = le-leb _ _ (omega arith) in
    ap (option_and_then (within (own ++ rest))) found
    ∙ ap (λ (t : Bool). cond {A = Option (List Sent × List ℕ)} t (Some ((take (length (own ++ rest) - length rest) (own ++ rest), map encode_utf8_all elements) ∷ [], rest)) None) fits
    ∙ ap (λ (o : List ℕ). in_place o (map encode_utf8_all elements) rest) front

-- ---- what the reader of an instruction says

-- an instruction at the front of the bytes that came is there whatever follows them
pub front-whole : (bytes more : List ℕ) (values : List (List ℕ)) (n : ℕ) → IsWhole bytes values n → instruction_at (bytes ++ more) ≡ Some ((take n bytes, values) ∷ [], drop n bytes ++ more)
front-whole bytes more values n w =
    let text : bytes ++ more ≡ take n bytes ++ (drop n bytes ++ more) = ap (λ t. t ++ more) (sym (take-append-drop n bytes)) ∙ append_assoc (take n bytes) (drop n bytes) more in
    ap instruction_at text ∙ instruction-complete (take n bytes) w.elements (drop n bytes ++ more) w.spelled
    ∙ ap (λ (v : List (List ℕ)). in_place (take n bytes) v (drop n bytes ++ more)) (sym w.texts)

none-by : (bytes : List ℕ) (o : Option (List Sent × List ℕ)) → HasNoInstruction bytes → instruction_at bytes ≡ o → o ≡ None
none-by bytes None none e = refl
none-by bytes (Some r) none e =
    let one = instruction-sound bytes r.0 r.1 e in
    let own = one.sent.0 in
    let front : take (length own) bytes ≡ own = ap (take (length own)) one.is.split ∙ take-append_seam own r.1 in
    absurd (none (length own) one.is.elements (subst (λ (t : List ℕ). Spells t one.is.elements) (sym front) one.is.spelled))

-- bytes that have none at their front
pub front-none : (bytes : List ℕ) → HasNoInstruction bytes → instruction_at bytes ≡ None
front-none bytes none = none-by bytes (instruction_at bytes) none refl

abbrev on_rest : List Sent → List ℕ → Option (List Sent × List ℕ)
on_rest given rest = Some (given, rest)

-- ---- a head, as all that comes in pieces is read

pub spelled-some : (own : List ℕ) (elements : List (List ℕ)) → SpellsElements own elements → 0 < length own
spelled-some own [] s = absurd s
spelled-some own (e ∷ es) s = omega (arith, ap length s.4, length-append (s.0 ++ s.1) (59 ∷ []))

pub is-head : IsHead instruction_at
is-head = record {
  shrinks = λ xs rest given e.
      let one = instruction-sound xs given rest e in
      let some = spelled-some one.sent.0 one.is.elements one.is.spelled.spelled in
      omega (arith, some, ap length one.is.split, length-append one.sent.0 rest);
  stable = λ xs more rest given e.
      let one = instruction-sound xs given rest e in
      ap instruction_at (ap (λ t. t ++ more) one.is.split ∙ append_assoc one.sent.0 rest more)
      ∙ instruction-complete one.sent.0 one.is.elements (rest ++ more) one.is.spelled
      ∙ ap (λ (v : List (List ℕ)). in_place one.sent.0 v (rest ++ more)) (sym one.is.values_are)
      ∙ ap (λ (g : List Sent). on_rest g (rest ++ more)) (sym one.given_is);
}
