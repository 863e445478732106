-- No spelling begins another.
use Rattle.std.proofs.Common.{◌≡◌, ℕ, ◌<◌, ◌≤◌, List, [], ◌∷◌, ◌++◌, length, refl, ap, sym, ◌∙◌, subst, arith, append_assoc, append-nil}
use Rattle.std.specs.Prelude.{encode_utf8_all}
use Rattle.std.proofs.lemmas.Str.{encode_same}
use lib.Utf8.{encode}
use Rattle.gate_model.specs.text.Spelling.{IsDigit, AllDigits, number_of, SpellsElement, SpellsOthers, SpellsElements, SpellingsArePrefixFree}
use Rattle.gate_model.proofs.Digits.{head_same, tail_same, digits_go_on, AllDigits-rest}

-- what stands behind the UTF-8 of characters, beside more characters
pub chars_go_on : (w u x z : List ℕ) → length w ≤ length u → encode_utf8_all u ++ x ≡ encode_utf8_all w ++ z
    → (v : List ℕ) × (u ≡ w ++ v) × (encode_utf8_all v ++ x ≡ z)
chars_go_on [] u x z le e = (u, refl, e)
chars_go_on (c ∷ w) [] x z le e = absurd (omega arith)
chars_go_on (c ∷ w) (d ∷ u) x z le e =
    let p = encode_same d c (encode_utf8_all u ++ x) (encode_utf8_all w ++ z) (sym (append_assoc (encode d) (encode_utf8_all u) x) ∙ e ∙ append_assoc (encode c) (encode_utf8_all w) z) in
    let v = chars_go_on w u x z (omega arith) p.1 in
    (v.0, (let h : d ≡ c = p.0 in let t : u ≡ w ++ v.0 = v.1 in cc), v.2)

-- characters of one number, and what follows them
pub chars_same : (u w x z : List ℕ) → length u ≡ length w → encode_utf8_all u ++ x ≡ encode_utf8_all w ++ z → (u ≡ w) × (x ≡ z)
chars_same [] [] x z n e = (refl, e)
chars_same [] (d ∷ w) x z n e = absurd (omega arith)
chars_same (c ∷ u) [] x z n e = absurd (omega arith)
chars_same (c ∷ u) (d ∷ w) x z n e =
    let p = encode_same c d (encode_utf8_all u ++ x) (encode_utf8_all w ++ z) (sym (append_assoc (encode c) (encode_utf8_all u) x) ∙ e ∙ append_assoc (encode d) (encode_utf8_all w) z) in
    let t = chars_same u w x z (omega arith) p.1 in
    ((let h : c ≡ d = p.0 in let s : u ≡ w = t.0 in cc), t.1)

-- a full stop is no digit
pub no_digit : IsDigit 46 → ⊥
no_digit d = omega (arith, d.0)

-- digits up to a full stop
pub digits_same : (ds es x z : List ℕ) → AllDigits ds → AllDigits es → ds ++ 46 ∷ x ≡ es ++ 46 ∷ z → (ds ≡ es) × (x ≡ z)
digits_same ds es x z a b e =
    let p = digits_go_on ds es 46 x (46 ∷ z) a b no_digit e in
    ended p.0 p.1 p.2
  where
    ended : (more : List ℕ) → ds ≡ es ++ more → more ++ 46 ∷ x ≡ 46 ∷ z → (ds ≡ es) × (x ≡ z)
    ended [] s t = (s ∙ append-nil es, tail_same _ _ _ _ t)
    ended (m ∷ more) s t = absurd (no_digit (subst IsDigit (head_same _ _ _ _ t) (AllDigits-rest es (m ∷ more) (subst AllDigits s a)).0))

-- an element, and what follows it
pub element_same : (a b x z u v : List ℕ) → SpellsElement a u → SpellsElement b v → a ++ x ≡ b ++ z → (a ≡ b) × (u ≡ v) × (x ≡ z)
element_same a b x z u v s t e =
    let d = digits_same s.0 t.0 (encode_utf8_all u ++ x) (encode_utf8_all v ++ z) s.1.all t.1.all
    (sym (ap (λ l. l ++ x) s.3 ∙ append_assoc s.0 (46 ∷ encode_utf8_all u) x) ∙ e ∙ (ap (λ l. l ++ z) t.3 ∙ append_assoc t.0 (46 ∷ encode_utf8_all v) z)) in
    let n : length u ≡ length v = sym s.1.value ∙ ap number_of d.0 ∙ t.1.value in
    let c = chars_same u v x z n d.1 in
    (s.3 ∙ ap (λ l. l ++ 46 ∷ encode_utf8_all u) d.0 ∙ ap (λ l. t.0 ++ 46 ∷ encode_utf8_all l) c.0 ∙ sym t.3, c.0, c.1)

-- `;` is no `,`
pub not_comma : {A : Type 0} → ◌≡◌ {A = ℕ} 59 44 → A
not_comma e = absurd (omega (arith, e))

-- elements up to a `;`, beside elements and anything: the second are a front of the first
pub others_go_on : (vs es : List (List ℕ)) (c front x y : List ℕ) → SpellsOthers c es → SpellsOthers front vs → c ++ 59 ∷ x ≡ front ++ y
    → (rest : List ℕ) × (values : List (List ℕ)) × (c ≡ front ++ rest) × (es ≡ vs ++ values) × SpellsOthers rest values × (rest ++ 59 ∷ x ≡ y)
others_go_on [] es c front x y s t e = (c, es, sym (ap (λ f. f ++ c) t), refl, s, e ∙ ap (λ f. f ++ y) t)
others_go_on (v ∷ vs) [] c front x y s t e =
    not_comma (head_same _ _ _ _ (sym (ap (λ l. l ++ 59 ∷ x) s) ∙ e ∙ ap (λ f. f ++ y) t.3))
others_go_on (v ∷ vs) (u ∷ es) c front x y s t e =
    let f = tail_same _ _ _ _ (sym (ap (λ l. l ++ 59 ∷ x) s.3) ∙ e ∙ ap (λ l. l ++ y) t.3) in
    let p = element_same s.0 t.0 (s.1 ++ 59 ∷ x) (t.1 ++ y) u v s.2 t.2 (sym (append_assoc s.0 s.1 (59 ∷ x)) ∙ f ∙ append_assoc t.0 t.1 y) in
    let r = others_go_on vs es s.1 t.1 x y s.4 t.4 p.2 in (
      r.0,
      r.1,
      s.3 ∙ ap (λ l. 44 ∷ l ++ s.1) p.0 ∙ ap (λ l. 44 ∷ t.0 ++ l) r.2 ∙ ap (λ l. 44 ∷ l) (sym (append_assoc t.0 t.1 r.0)) ∙ sym (ap (λ l. l ++ r.0) t.3),
      ap (λ w. w ∷ es) p.1 ∙ ap (λ ws. v ∷ ws) r.3,
      r.4,
      r.5,
    )

-- an instruction's elements with `,` before each, as if one stood before the first
pub as_others : (b : List ℕ) (es : List (List ℕ)) → SpellsElements b es → (c : List ℕ) × SpellsOthers c es × (44 ∷ b ≡ c ++ 59 ∷ []) × (0 < length es)
as_others b [] s = absurd s
as_others b (e ∷ es) s = (44 ∷ s.0 ++ s.1, (s.0, s.1, s.2, refl, s.3), ap (λ l. 44 ∷ l) (s.4), omega arith)

-- nothing spells elements and begins with a `;`
pub none_left : (c x y : List ℕ) (es : List (List ℕ)) → SpellsOthers c es → c ++ 59 ∷ x ≡ 59 ∷ y → (c ≡ []) × (es ≡ [])
none_left c x y [] s e = (s, refl)
none_left c x y (v ∷ es) s e =
    not_comma (sym (head_same _ _ _ _ (sym (ap (λ l. l ++ 59 ∷ x) s.3) ∙ e)))

pub prefix_free : SpellingsArePrefixFree
prefix_free a b x y first second s t e =
    let p = as_others a first s.spelled in
    let q = as_others b second t.spelled in
    let f : p.0 ++ 59 ∷ x ≡ q.0 ++ 59 ∷ y =
    sym (append_assoc p.0 (59 ∷ []) x) ∙ sym (ap (λ l. l ++ x) p.2) ∙ ap (λ l. 44 ∷ l) e ∙ ap (λ l. l ++ y) q.2 ∙ append_assoc q.0 (59 ∷ []) y in
    let r = others_go_on second first p.0 q.0 x (59 ∷ y) p.1 q.1 f in
    let n = none_left r.0 x y r.1 r.4 r.5 in
    let c : p.0 ≡ q.0 = r.2 ∙ ap (λ l. q.0 ++ l) n.0 ∙ append-nil q.0 in
    (tail_same _ _ _ _ (p.2 ∙ ap (λ l. l ++ 59 ∷ []) c ∙ sym q.2), r.3 ∙ ap (λ l. second ++ l) n.1 ∙ append-nil second)
