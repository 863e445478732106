-- What an instruction looks like that agrees with bytes read so far.
use Rattle.std.proofs.Common.{◌≡◌, ℕ, ◌+◌, ◌≤◌, true, List, [], ◌∷◌, ◌++◌, length, take, drop, ap, sym, ◌∙◌, arith, append_assoc, length-append}
use Rattle.std.specs.Prelude.{encode_utf8_all}
use Rattle.std.specs.Str.{all_scalars}
use Rattle.std.proofs.lemmas.List.{take-append-drop}
use Rattle.std.proofs.lemmas.Bool.{and_parts}
use Rattle.std.proofs.lemmas.Str.{encodes-append}
use Rattle.gate_model.specs.text.Spelling.{AllDigits, number_of, SpellsElement, SpellsOthers}
use Rattle.gate_model.proofs.Digits.{head_same, tail_same, digits_go_on}
use Rattle.gate_model.proofs.Spelt.{others_go_on, as_others, chars_go_on, digits_same, no_digit, not_comma}
use Rattle.guac_framing.specs.Standing.{InLength, InValue, BehindValue}
use Rattle.guac_framing.specs.Found.{HasNoInstruction}

-- a list's front is no instruction, if no elements and `;` agree with the list
pub none_by : (t : List ℕ)
    → ((c x : List ℕ) (es : List (List ℕ)) → SpellsOthers c es → length es ≤ 128 → length c ≤ 8192 → c ++ 59 ∷ x ≡ 44 ∷ t → ⊥)
    → HasNoInstruction t
none_by t never n es s =
    let o = as_others (take n t) es s.spelled in
    never o.0 (drop n t) es o.1 s.count (omega (arith, ap length o.2, length-append o.0 (59 ∷ []), s.size))
    (sym (append_assoc o.0 (59 ∷ []) (drop n t)) ∙ sym (ap (λ l. l ++ drop n t) o.2) ∙ ap (λ l. 44 ∷ l) (take-append-drop n t))

-- no elements and `;` agree with the list, of however many bytes
abbrev pub NoElements : List ℕ → Type 0
NoElements t = (c x : List ℕ) (es : List (List ℕ)) → SpellsOthers c es → length es ≤ 128 → c ++ 59 ∷ x ≡ 44 ∷ t → ⊥

pub none_of : (t : List ℕ) → NoElements t → HasNoInstruction t
none_of t never = none_by t (λ c x es s count size e. never c x es s count e)

-- of an instruction that begins with the elements `done`, the next element, and what follows it
pub record Seen (done c : List ℕ) (vs es : List (List ℕ)) (x w : List ℕ) : Type 0 where
  pub value : List ℕ
  pub values : List (List ℕ)
  pub own : List ℕ
  pub more : List ℕ
  pub element : SpellsElement own value
  pub others : SpellsOthers more values
  pub elements : es ≡ vs ++ value ∷ values
  pub tail : own ++ (more ++ 59 ∷ x) ≡ w
  pub size : length c ≡ length done + (1 + (length own + length more))

pub see : (vs es : List (List ℕ)) (done c x w : List ℕ) → SpellsOthers c es → SpellsOthers done vs → c ++ 59 ∷ x ≡ done ++ 44 ∷ w → Seen done c vs es x w
see vs es done c x w s t e =
    let r = others_go_on vs es c done x (44 ∷ w) s t e in
    by r.0 r.1 r.2 r.3 r.4 r.5
  where
    by : (rest : List ℕ) (values : List (List ℕ)) → c ≡ done ++ rest → es ≡ vs ++ values → SpellsOthers rest values → rest ++ 59 ∷ x ≡ 44 ∷ w → Seen done c vs es x w
    by rest [] p q o f = not_comma (head_same _ _ _ _ (sym (ap (λ l. l ++ 59 ∷ x) o) ∙ f))
    by rest (v ∷ values) p q o f = record {
      value = v;
      values = values;
      own = o.0;
      more = o.1;
      element = o.2;
      others = o.4;
      elements = q;
      tail = sym (append_assoc o.0 o.1 (59 ∷ x)) ∙ tail_same _ _ _ _ (sym (ap (λ l. l ++ 59 ∷ x) o.3) ∙ f);
      size = omega (arith, ap length p, length-append done rest, ap length o.3, length-append o.0 o.1);
    }

-- nothing is left of a list that ends in `;` and more
pub never_nil : (a b : List ℕ) (x : List ℕ) → a ++ (b ++ 59 ∷ x) ≡ [] → ⊥
never_nil a b x e = omega (arith, ap length e, length-append a (b ++ 59 ∷ x), length-append b (59 ∷ x))

-- behind the digits of a length, such an instruction has further digits or the `.`
pub record SeenLength (done c : List ℕ) (vs es : List (List ℕ)) (ds x z : List ℕ) : Type 0 where
  pub seen : Seen done c vs es x (ds ++ z)
  pub extra : List ℕ
  pub longer : seen.element.0 ≡ ds ++ extra
  pub behind : extra ++ 46 ∷ (encode_utf8_all seen.value ++ (seen.more ++ 59 ∷ x)) ≡ z

pub see_length : (f ds z c x : List ℕ) (vs es : List (List ℕ)) (i : InLength f vs ds) → SpellsOthers c es → c ++ 59 ∷ x ≡ 44 ∷ (f ++ z) → SeenLength i.done c vs es ds x z
see_length f ds z c x vs es i s e =
    let n = see vs es i.done c x (ds ++ z) s i.others (e ∙ ap (λ l. l ++ z) i.split ∙ append_assoc i.done (44 ∷ ds) z) in
    let d = digits_go_on n.element.0 ds 46 (encode_utf8_all n.value ++ (n.more ++ 59 ∷ x)) z n.element.1.all i.all no_digit
    (sym (append_assoc n.element.0 (46 ∷ encode_utf8_all n.value) (n.more ++ 59 ∷ x)) ∙ sym (ap (λ l. l ++ (n.more ++ 59 ∷ x)) n.element.3) ∙ n.tail) in
    record { seen = n; extra = d.0; longer = d.1; behind = d.2 }

-- behind the characters of a value, such an instruction has the characters that are left
pub record SeenValue (f c : List ℕ) (vs es : List (List ℕ)) (left : ℕ) (x z : List ℕ) : Type 0 where
  pub last : List ℕ
  pub more : List ℕ
  pub scalars : all_scalars last ≡ true
  pub left_is : length last ≡ left
  pub behind : encode_utf8_all last ++ (more ++ 59 ∷ x) ≡ z
  pub size : length c ≡ 1 + (length f + (length (encode_utf8_all last) + length more))

scalars-rest : (w v : List ℕ) → all_scalars (w ++ v) ≡ true → all_scalars v ≡ true
scalars-rest [] v e = e
scalars-rest (c ∷ w) v e = scalars-rest w v (and_parts _ _ e).1

-- an element of which the length and a front of the value are known, and what follows it
value_behind : (own value ds w tail z : List ℕ) → SpellsElement own value → AllDigits ds → own ++ tail ≡ ds ++ 46 ∷ (w ++ z)
    → (number_of ds ≡ length value) × (encode_utf8_all value ++ tail ≡ w ++ z) × (length own ≡ length ds + (1 + length (encode_utf8_all value)))
value_behind own value ds w tail z k all e =
    let joined : k.0 ++ 46 ∷ (encode_utf8_all value ++ tail) ≡ ds ++ 46 ∷ (w ++ z) =
    sym (append_assoc k.0 (46 ∷ encode_utf8_all value) tail) ∙ sym (ap (λ l. l ++ tail) k.3) ∙ e in
    let d = digits_same k.0 ds (encode_utf8_all value ++ tail) (w ++ z) k.1.all all joined in
    (sym (ap number_of d.0) ∙ k.1.value, d.1, omega (arith, ap length k.3, length-append k.0 (46 ∷ encode_utf8_all value), ap length d.0))

-- the characters that are left of it
chars_behind : (w value : List ℕ) (n left : ℕ) (tail z : List ℕ) → n ≡ length w + left → n ≡ length value → all_scalars value ≡ true → encode_utf8_all value ++ tail ≡ encode_utf8_all w ++ z
    → (v : List ℕ) × (all_scalars v ≡ true) × (length v ≡ left) × (encode_utf8_all v ++ tail ≡ z) × (length (encode_utf8_all value) ≡ length (encode_utf8_all w) + length (encode_utf8_all v))
chars_behind w value n left tail z counted long s e =
    let v = chars_go_on w value tail z (omega (arith, counted, long)) e in (
      v.0,
      scalars-rest w v.0 (ap all_scalars (sym v.1) ∙ s),
      omega (arith, counted, long, ap length v.1, length-append w v.0),
      v.2,
      ap (λ l. length (encode_utf8_all l)) v.1 ∙ ap length (encodes-append w v.0) ∙ length-append (encode_utf8_all w) (encode_utf8_all v.0),
    )

-- where its value begins, in the bytes with the `,`
split_value : (f done ds w z : List ℕ) → 44 ∷ f ≡ done ++ 44 ∷ ds ++ 46 ∷ w → (44 ∷ (f ++ z) ≡ done ++ 44 ∷ (ds ++ 46 ∷ (w ++ z))) × (1 + length f ≡ length done + (1 + (length ds + (1 + length w))))
split_value f done ds w z e = (
  ap (λ l. l ++ z) e ∙ append_assoc (done ++ 44 ∷ ds) (46 ∷ w) z ∙ append_assoc done (44 ∷ ds) (46 ∷ (w ++ z)),
  omega (arith, ap length e, length-append (done ++ 44 ∷ ds) (46 ∷ w), length-append done (44 ∷ ds)),
)

pub see_value : (f z c x chars : List ℕ) (vs es : List (List ℕ)) (left : ℕ) → InValue f vs chars left → SpellsOthers c es → c ++ 59 ∷ x ≡ 44 ∷ (f ++ z) → SeenValue f c vs es left x z
see_value f z c x chars vs es left i s e =
    let p = split_value f i.done i.digits (encode_utf8_all chars) z i.split in
    let n = see vs es i.done c x (i.digits ++ 46 ∷ (encode_utf8_all chars ++ z)) s i.others (e ∙ p.0) in
    let d = value_behind n.own n.value i.digits (encode_utf8_all chars) (n.more ++ 59 ∷ x) z n.element i.counted.all n.tail in
    let v = chars_behind chars n.value (number_of i.digits) left (n.more ++ 59 ∷ x) z i.counted.value d.0 n.element.2 d.1 in
    record {
      last = v.0;
      more = n.more;
      scalars = v.1;
      left_is = v.2;
      behind = v.3;
      size = omega (arith, n.size, d.2, v.4, p.1);
    }

-- behind a value, such an instruction has the other elements
pub see_behind : (f z c x : List ℕ) (vs es : List (List ℕ)) → BehindValue f vs → SpellsOthers c es → c ++ 59 ∷ x ≡ 44 ∷ (f ++ z)
    → (rest : List ℕ) × (values : List (List ℕ)) × SpellsOthers rest values × (es ≡ vs ++ values) × (rest ++ 59 ∷ x ≡ z)
see_behind f z c x vs es i s e =
    let r = others_go_on vs es c (44 ∷ f) x z s i.others e in
    (r.0, r.1, r.4, r.3, r.5)
