-- A byte is bad for one reason.
use Rattle.std.proofs.Common.{◌≡◌, ℕ, suc, ◌+◌, ◌≢◌, ◌⊎◌, inl, inr, List, [], ◌∷◌, ◌++◌, length, refl, ap, sym, ◌∙◌, subst, arith, append_assoc, append-nil, length-append}
use Rattle.std.specs.Prelude.{encode_utf8_all}
use Rattle.std.specs.Char.{IsScalar, encode_utf8}
use Rattle.std.proofs.lemmas.Str.{encode_same}
use Rattle.gate_model.specs.text.Spelling.{AllDigits, number_of, IsLength, SpellsOthers}
use Rattle.gate_model.proofs.Digits.{head_same, tail_same, AllDigits-rest}
use Rattle.gate_model.proofs.Spelt.{as_others, chars_go_on, digits_same, element_same, no_digit}
use Rattle.guac_framing.specs.declared.next.BadKind.{BadKind}
use Rattle.guac_framing.specs.declared.next.BadKind.TheVariants.{Digit, Length, Separator, Utf8, TooMany, TooLong}
use Rattle.guac_framing.specs.Standing.{InLength, InValue, BehindValue}
use Rattle.gate_model.specs.terminal.ControlLaws.{BeginsCharacter}
use Rattle.guac_framing.specs.Found.{HasKind, IsForbidden}
use Rattle.guac_framing.proofs.Seen.{NoElements, see_length, see_value}
use Rattle.guac_framing.proofs.Rejects.{first_of, length_rejects_digit, length_rejects_sixth, char_rejects, behind_rejects_separator, behind_rejects_many}

-- ---- a front of a character holds no whole one
no_whole : (begun : List ℕ) (c : ℕ) (y : List ℕ) → BeginsCharacter begun → encode_utf8 c ++ y ≡ begun → ⊥
no_whole begun c y g e =
    let joined : encode_utf8 c ++ (y ++ g.1) ≡ encode_utf8 g.0 ++ [] =
    sym (append_assoc (encode_utf8 c) y (g.1)) ∙ ap (λ l. l ++ g.1) e ∙ sym g.4 ∙ sym (append-nil (encode_utf8 g.0)) in
    let p = encode_same c g.0 (y ++ g.1) [] joined in
    omega (arith, ap length p.1, length-append y g.1, g.3)

-- of two lists with the same byte behind them
without_last : (a b : List ℕ) (x : ℕ) → a ++ x ∷ [] ≡ b ++ x ∷ [] → a ≡ b
without_last [] [] x e = refl
without_last [] (d ∷ b) x e = absurd (omega (arith, ap length e, length-append b (x ∷ [])))
without_last (c ∷ a) [] x e = absurd (omega (arith, ap length e, length-append a (x ∷ [])))
without_last (c ∷ a) (d ∷ b) x e =
    let h : c ≡ d = head_same _ _ _ _ e in
    let t : a ≡ b = without_last a b x (tail_same _ _ _ _ e) in
    cc

-- ---- the places exclude each other
no_end : (extra y : List ℕ) → extra ++ 46 ∷ y ≡ 59 ∷ [] → ⊥
no_end [] y e = let h : ◌≡◌ {A = ℕ} 46 59 = head_same _ _ _ _ e in omega (arith, h)
no_end (d ∷ extra) y e = omega (arith, ap length e, length-append extra (46 ∷ y))

length_or_behind : (f ds : List ℕ) (vs ws : List (List ℕ)) → InLength f vs ds → BehindValue f ws → ⊥
length_or_behind f ds vs ws i b =
    let n = see_length f ds (59 ∷ []) (44 ∷ f) [] vs ws i b.others refl in
    no_end n.extra _ n.behind

value_or_behind : (f due begun chars : List ℕ) (vs ws : List (List ℕ)) (left : ℕ) → f ≡ due ++ begun → InValue due ws chars (suc left) → BeginsCharacter begun → BehindValue f vs → ⊥
value_or_behind f due begun chars vs ws left split i g b =
    let e : 44 ∷ (f ++ 59 ∷ []) ≡ 44 ∷ (due ++ (begun ++ 59 ∷ [])) = ap (λ l. 44 ∷ (l ++ 59 ∷ [])) split ∙ ap (λ l. 44 ∷ l) (append_assoc due begun (59 ∷ [])) in
    let n = see_value due (begun ++ 59 ∷ []) (44 ∷ f) [] chars ws vs (suc left) i b.others e in
    let p = first_of n.last (n.more ++ 59 ∷ []) (begun ++ 59 ∷ []) left n.left_is n.scalars n.behind in
    let rest = encode_utf8_all p.others ++ n.more in
    no_whole begun p.char rest g
    (without_last (encode_utf8 p.char ++ rest) begun 59
    (append_assoc (encode_utf8 p.char) rest (59 ∷ []) ∙ ap (λ l. encode_utf8 p.char ++ l) (append_assoc (encode_utf8_all p.others) n.more (59 ∷ [])) ∙ p.begins))

-- a full stop behind digits is no digit of more
digits_only : (ds own r x : List ℕ) → AllDigits ds → ds ≡ own ++ r → (k : ℕ) (digits : List ℕ) → own ≡ digits ++ 46 ∷ x → ⊥
digits_only ds own r x all e k digits o =
    no_digit (AllDigits-rest digits (46 ∷ (x ++ r)) (subst AllDigits (e ∙ ap (λ l. l ++ r) o ∙ append_assoc digits (46 ∷ x) r) all)).0

-- elements and digits aren't elements, a length and less than its value
elements_apart : (vs ws : List (List ℕ)) (done other ds digits u : List ℕ) (n : ℕ) → SpellsOthers done vs → SpellsOthers other ws → AllDigits ds → IsLength digits n
    → ((v y : List ℕ) → length v ≡ n → encode_utf8_all v ++ y ≡ u → ⊥) → done ++ 44 ∷ ds ≡ other ++ 44 ∷ (digits ++ 46 ∷ u) → ⊥
elements_apart [] [] done other ds digits u n s t all k less e =
    let f : ds ≡ digits ++ 46 ∷ u = tail_same _ _ _ _ (sym (ap (λ l. l ++ 44 ∷ ds) s) ∙ e ∙ ap (λ l. l ++ 44 ∷ (digits ++ 46 ∷ u)) t) in
    digits_only ds (digits ++ 46 ∷ u) [] u all (f ∙ sym (append-nil (digits ++ 46 ∷ u))) n digits refl
elements_apart [] (w ∷ ws) done other ds digits u n s t all k less e =
    let f : ds ≡ (t.0 ++ t.1) ++ 44 ∷ (digits ++ 46 ∷ u) = tail_same _ _ _ _ (sym (ap (λ l. l ++ 44 ∷ ds) s) ∙ e ∙ ap (λ l. l ++ 44 ∷ (digits ++ 46 ∷ u)) t.3) in
    digits_only ds t.0 (t.1 ++ 44 ∷ (digits ++ 46 ∷ u)) (encode_utf8_all w) all (f ∙ append_assoc t.0 t.1 (44 ∷ (digits ++ 46 ∷ u))) n t.2.0 t.2.3
elements_apart (v ∷ vs) [] done other ds digits u n s t all k less e =
    let f : (s.0 ++ s.1) ++ 44 ∷ ds ≡ digits ++ 46 ∷ u = tail_same _ _ _ _ (sym (ap (λ l. l ++ 44 ∷ ds) s.3) ∙ e ∙ ap (λ l. l ++ 44 ∷ (digits ++ 46 ∷ u)) t) in
    let y = s.1 ++ 44 ∷ ds in
    let d = digits_same s.2.0 digits (encode_utf8_all v ++ y) u s.2.1.all k.all
    (sym (append_assoc s.2.0 (46 ∷ encode_utf8_all v) y) ∙ sym (ap (λ l. l ++ y) s.2.3) ∙ sym (append_assoc s.0 s.1 (44 ∷ ds)) ∙ f) in
    less v y (sym s.2.1.value ∙ ap number_of d.0 ∙ k.value) d.1
elements_apart (v ∷ vs) (w ∷ ws) done other ds digits u n s t all k less e =
    let f = tail_same _ _ _ _ (sym (ap (λ l. l ++ 44 ∷ ds) s.3) ∙ e ∙ ap (λ l. l ++ 44 ∷ (digits ++ 46 ∷ u)) t.3) in
    let p = element_same s.0 t.0 (s.1 ++ 44 ∷ ds) (t.1 ++ 44 ∷ (digits ++ 46 ∷ u)) v w s.2 t.2 (sym (append_assoc s.0 s.1 (44 ∷ ds)) ∙ f ∙ append_assoc t.0 t.1 (44 ∷ (digits ++ 46 ∷ u))) in
    elements_apart vs ws s.1 t.1 ds digits u n s.4 t.4 all k less p.2

-- less than a character and what stands before it, beside as many characters
less_than_value : (chars begun : List ℕ) (left : ℕ) (v y : List ℕ) → BeginsCharacter begun → length v ≡ length chars + suc left → encode_utf8_all v ++ y ≡ encode_utf8_all chars ++ begun → ⊥
less_than_value chars begun left v y g n e =
    let r = chars_go_on chars v y begun (omega (arith, n)) e in
    by r.0 (omega (arith, n, ap length r.1, length-append chars r.0)) r.2
  where
    by : (last : List ℕ) → length last ≡ suc left → encode_utf8_all last ++ y ≡ begun → ⊥
    by [] l f = omega (arith, l)
    by (c ∷ last) l f = no_whole begun c (encode_utf8_all last ++ y) g (sym (append_assoc (encode_utf8 c) (encode_utf8_all last) y) ∙ f)

length_or_value : (f ds due begun chars : List ℕ) (vs ws : List (List ℕ)) (left : ℕ) → f ≡ due ++ begun → InValue due ws chars (suc left) → BeginsCharacter begun → InLength f vs ds → ⊥
length_or_value f ds due begun chars vs ws left split i g l =
    let w = encode_utf8_all chars in
    elements_apart vs ws l.done i.done ds i.digits (w ++ begun) (length chars + suc left) l.others i.others l.all i.counted (λ v y n e. less_than_value chars begun left v y g n e)
    (sym l.split ∙ ap (λ x. 44 ∷ x) split ∙ ap (λ x. x ++ begun) i.split ∙ append_assoc (i.done ++ 44 ∷ i.digits) (46 ∷ w) begun ∙ append_assoc i.done (44 ∷ i.digits) (46 ∷ (w ++ begun)))

-- ---- none but the last kind lets elements be spelled
abbrev IsRejected : List ℕ → ℕ → Type 0
IsRejected front b = (z : List ℕ) → NoElements (front ++ b ∷ z)

-- of two lists that begin one list, one begins the other
one_begins : (a b x y : List ℕ) → a ++ x ≡ b ++ y → ((r : List ℕ) × (a ≡ b ++ r) × (r ++ x ≡ y)) ⊎ ((r : List ℕ) × (a ++ r ≡ b))
one_begins [] b x y e = inr (b, refl)
one_begins (c ∷ a) [] x y e = inl (c ∷ a, refl, e)
one_begins (c ∷ a) (d ∷ b) x y e =
    let h : c ≡ d = head_same _ _ _ _ e in
    elim (one_begins a b x y (tail_same _ _ _ _ e)) [
      | inl p ↦ inl (p.0, (let t : a ≡ b ++ p.0 = p.1 in cc), p.2)
      | inr p ↦ inr (p.0, (let t : a ++ p.0 ≡ b = p.1 in cc))
    ]

-- a byte that no character has behind a front of one
never_forbidden : (begun : List ℕ) (b : ℕ) → BeginsCharacter begun → ((c : ℕ) (rest : List ℕ) → IsScalar c → encode_utf8 c ≢ begun ++ b ∷ rest) → (c : ℕ) (x y : List ℕ) → IsScalar c → encode_utf8 c ++ x ≡ begun ++ b ∷ y → ⊥
never_forbidden begun b g forbids c x y s e =
    elim (one_begins (encode_utf8 c) begun x (b ∷ y) e) [ inl p ↦ longer p.0 p.1 p.2 | inr p ↦ no_whole begun c p.0 g p.1 ]
  where
    longer : (r : List ℕ) → encode_utf8 c ≡ begun ++ r → r ++ x ≡ b ∷ y → ⊥
    longer [] p q = no_whole begun c [] g (append-nil (encode_utf8 c) ∙ p ∙ append-nil begun)
    longer (d ∷ r) p q = forbids c r s (p ∙ ap (λ h. begun ++ h ∷ r) (head_same _ _ _ _ q))

rejected_forbidden : (front : List ℕ) (b : ℕ) → IsForbidden front b → IsRejected front b
rejected_forbidden front b k z =
    subst NoElements (sym (ap (λ l. l ++ b ∷ z) k.split ∙ append_assoc k.due k.begun (b ∷ z)))
    (char_rejects k.due k.begun k.chars k.values k.left b z k.value (never_forbidden k.begun b k.begins k.forbids))

-- a text that spells elements isn't one that none begins
too_long_or : {A : Type 0} (front : List ℕ) (b : ℕ) → HasKind front b TooLong → IsRejected front b → A
too_long_or front b k none =
    let o = as_others (front ++ b ∷ k.0) k.1 k.2 in
    absurd (none k.0 o.0 [] k.1 o.1 k.3 (sym o.2))

rejected_digit : (front : List ℕ) (b : ℕ) → HasKind front b Digit → IsRejected front b
rejected_digit front b k z = length_rejects_digit front k.1 k.0 b z k.2 k.3 k.4

rejected_length : (front : List ℕ) (b : ℕ) → HasKind front b Length → IsRejected front b
rejected_length front b k z = length_rejects_sixth front k.1 k.0 b z k.2 k.3 k.4

rejected_separator : (front : List ℕ) (b : ℕ) → HasKind front b Separator → IsRejected front b
rejected_separator front b k z = behind_rejects_separator front k.0 b z k.1 k.2 k.3

rejected_many : (front : List ℕ) (b : ℕ) → HasKind front b TooMany → IsRejected front b
rejected_many front b k z = behind_rejects_many front k.0 b z k.1 k.3 k.2

-- ---- one kind
forbidden_or_length : {A : Type 0} (front ds : List ℕ) (b : ℕ) (vs : List (List ℕ)) → IsForbidden front b → InLength front vs ds → A
forbidden_or_length front ds b vs k i = absurd (length_or_value front ds k.due k.begun k.chars vs k.values k.left k.split k.value k.begins i)

forbidden_or_behind : {A : Type 0} (front : List ℕ) (b : ℕ) (vs : List (List ℕ)) → IsForbidden front b → BehindValue front vs → A
forbidden_or_behind front b vs k i = absurd (value_or_behind front k.due k.begun k.chars vs k.values k.left k.split k.value k.begins i)

length_or : {A : Type 0} (front ds : List ℕ) (vs ws : List (List ℕ)) → InLength front vs ds → BehindValue front ws → A
length_or front ds vs ws i b = absurd (length_or_behind front ds vs ws i b)

pub one_kind : (front : List ℕ) (b : ℕ) (k l : BadKind) → HasKind front b k → HasKind front b l → k ≡ l
one_kind front b Digit Digit p q = refl
one_kind front b Digit Length p q = absurd (p.3 q.4)
one_kind front b Digit Separator p q = length_or front p.1 p.0 q.0 p.2 q.1
one_kind front b Digit Utf8 p q = forbidden_or_length front p.1 b p.0 q p.2
one_kind front b Digit TooMany p q = length_or front p.1 p.0 q.0 p.2 q.1
one_kind front b Digit TooLong p q = too_long_or front b q (rejected_digit front b p)
one_kind front b Length Digit p q = absurd (q.3 p.4)
one_kind front b Length Length p q = refl
one_kind front b Length Separator p q = length_or front p.1 p.0 q.0 p.2 q.1
one_kind front b Length Utf8 p q = forbidden_or_length front p.1 b p.0 q p.2
one_kind front b Length TooMany p q = length_or front p.1 p.0 q.0 p.2 q.1
one_kind front b Length TooLong p q = too_long_or front b q (rejected_length front b p)
one_kind front b Separator Digit p q = length_or front q.1 q.0 p.0 q.2 p.1
one_kind front b Separator Length p q = length_or front q.1 q.0 p.0 q.2 p.1
one_kind front b Separator Separator p q = refl
one_kind front b Separator Utf8 p q = forbidden_or_behind front b p.0 q p.1
one_kind front b Separator TooMany p q = absurd (p.2 q.3)
one_kind front b Separator TooLong p q = too_long_or front b q (rejected_separator front b p)
one_kind front b Utf8 Digit p q = forbidden_or_length front q.1 b q.0 p q.2
one_kind front b Utf8 Length p q = forbidden_or_length front q.1 b q.0 p q.2
one_kind front b Utf8 Separator p q = forbidden_or_behind front b q.0 p q.1
one_kind front b Utf8 Utf8 p q = refl
one_kind front b Utf8 TooMany p q = forbidden_or_behind front b q.0 p q.1
one_kind front b Utf8 TooLong p q = too_long_or front b q (rejected_forbidden front b p)
one_kind front b TooMany Digit p q = length_or front q.1 q.0 p.0 q.2 p.1
one_kind front b TooMany Length p q = length_or front q.1 q.0 p.0 q.2 p.1
one_kind front b TooMany Separator p q = absurd (q.2 p.3)
one_kind front b TooMany Utf8 p q = forbidden_or_behind front b p.0 q p.1
one_kind front b TooMany TooMany p q = refl
one_kind front b TooMany TooLong p q = too_long_or front b q (rejected_many front b p)
one_kind front b TooLong Digit p q = too_long_or front b p (rejected_digit front b q)
one_kind front b TooLong Length p q = too_long_or front b p (rejected_length front b q)
one_kind front b TooLong Separator p q = too_long_or front b p (rejected_separator front b q)
one_kind front b TooLong Utf8 p q = too_long_or front b p (rejected_forbidden front b q)
one_kind front b TooLong TooMany p q = too_long_or front b p (rejected_many front b q)
one_kind front b TooLong TooLong p q = refl
