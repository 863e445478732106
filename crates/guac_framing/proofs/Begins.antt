-- Which bytes complete a character, after its first byte and after each further one.
use Rattle.std.proofs.Common.{◌≡◌, ℕ, zero, suc, ◌+◌, ◌-◌, ◌*◌, ◌/◌, ◌<◌, ◌≤◌, ◌⊎◌, inl, inr, true, false, cond, ◌&&◌, nat_lt, nat_le, List, [], ◌∷◌, ◌++◌, length, refl, ap, sym, ◌∙◌, arith, append_assoc}
use Rattle.std.proofs.lemmas.Bool.{cases_lt}
use Rattle.std.proofs.lemmas.Bool.Decides.{nat_tests}
use Rattle.std.specs.Char.{IsScalar, encode_utf8}
use lib.Utf8.{encode, next, low_scalar}
use Rattle.guac_framing.specs.Begun.{Follows, Begins}
use Rattle.guac_framing.proofs.Leads.{Shape, of1, of2, of3, of4, shape, one, two, three, four}
use Rattle.gate_model.proofs.Digits.{head_same, tail_same}

high_scalar : (c : ℕ) → 57344 ≤ c → c < 1114112 → IsScalar c
high_scalar c l u =
    let a : nat_lt c 55296 ≡ false = grind (arith, nat_tests) in
    let b : nat_le 57344 c ≡ true = grind (arith, nat_tests) in
    let d : nat_lt c 1114112 ≡ true = grind (arith, nat_tests) in
    ap (λ t. cond t true (nat_le 57344 c && nat_lt c 1114112)) a ∙ ap (λ t. t && nat_lt c 1114112) b ∙ d

-- the first byte and what stands behind it, of a character that stands before x
heads : (c a b : ℕ) (r x z : List ℕ) → encode c ≡ a ∷ r → encode c ++ x ≡ (b ∷ []) ++ z → a ≡ b
heads c a b r x z p e = head_same _ _ _ _ (sym (ap (λ l. l ++ x) p) ∙ e)

tails : (c a b : ℕ) (r x z : List ℕ) → encode c ≡ a ∷ r → encode c ++ x ≡ (b ∷ []) ++ z → r ++ x ≡ z
tails c a b r x z p e = tail_same _ _ _ _ (sym (ap (λ l. l ++ x) p) ∙ e)

pub lead_ascii : (b : ℕ) → b < 128 → Begins (b ∷ []) 0 128 191
lead_ascii b h = record {
  room = omega arith;
  whole = λ r f. (b, low_scalar b (omega arith), one b h ∙ ap (λ l. b ∷ l) (sym f));
  only = λ c x z s e. by c x z e (shape c s);
}
  where
    by : (c : ℕ) (x z : List ℕ) → encode_utf8 c ++ x ≡ (b ∷ []) ++ z → Shape c → (rest : List ℕ) × Follows 0 128 191 rest × (rest ++ x ≡ z)
    by c x z e (of1 l p) = ([], refl, tails c c b [] x z p e)
    by c x z e (of2 a b2 l u f q p) = absurd (omega (arith, heads c a b _ x z p e))
    by c x z e (of3 a b2 d l u f g m n q p) = absurd (omega (arith, heads c a b _ x z p e))
    by c x z e (of4 a b2 d y l u f g k m n q p) = absurd (omega (arith, heads c a b _ x z p e))

pub lead_two : (b : ℕ) → 194 ≤ b → b < 224 → Begins (b ∷ []) 1 128 191
lead_two b l0 u0 = record {
  room = omega arith;
  whole = λ r f. made r f.0 f.1 f.2 f.3 f.4 f.5;
  only = λ c x z s e. by c x z e (shape c s);
}
  where
    made : (r : List ℕ) (y : ℕ) (end : List ℕ) → r ≡ y ∷ end → 128 ≤ y → y ≤ 191 → end ≡ [] → (c : ℕ) × IsScalar c × (encode_utf8 c ≡ (b ∷ []) ++ r)
    made r y end er ly uy ee =
        let c : ℕ = (b - 192) * 64 + (y - 128) in
        let p : 192 + c / 64 ≡ b = omega arith in
        let q : next c ≡ y = omega arith in
        (c, low_scalar c (omega arith), two c (omega arith) (omega arith) ∙ ap (λ n. n ∷ next c ∷ []) p ∙ ap (λ n. b ∷ n ∷ []) q ∙ ap (λ t. b ∷ y ∷ t) (sym ee) ∙ ap (λ t. b ∷ t) (sym er))

    by : (c : ℕ) (x z : List ℕ) → encode_utf8 c ++ x ≡ (b ∷ []) ++ z → Shape c → (rest : List ℕ) × Follows 1 128 191 rest × (rest ++ x ≡ z)
    by c x z e (of1 l p) = absurd (omega (arith, heads c c b [] x z p e))
    by c x z e (of2 a b2 l u f q p) = (b2 ∷ [], (b2, [], refl, f.0, f.1, refl), tails c a b _ x z p e)
    by c x z e (of3 a b2 d l u f g m n q p) = absurd (omega (arith, heads c a b _ x z p e))
    by c x z e (of4 a b2 d y l u f g k m n q p) = absurd (omega (arith, heads c a b _ x z p e))

-- the range of the second byte of three, where the first is b
pub record SecondOfThree (b least most : ℕ) : Type 0 where
  pub from : 224 ≤ b
  pub to : b < 240
  pub room : least ≤ most
  pub low : 128 ≤ least
  pub high : most ≤ 191
  pub not_short : b ≡ 224 → 160 ≤ least
  pub no_surrogate : b ≡ 237 → most ≤ 159
  pub all : (y : ℕ) → 128 ≤ y → y ≤ 191 → (b ≡ 224 → 160 ≤ y) → (b ≡ 237 → y ≤ 159) → (least ≤ y) × (y ≤ most)

pub lead_three : (b least most : ℕ) → SecondOfThree b least most → Begins (b ∷ []) 2 least most
lead_three b least most k = record {
  room = k.room;
  whole = λ r f. made r f.0 f.1 f.2 f.3 f.4 f.5.0 f.5.1 f.5.2 f.5.3 f.5.4 f.5.5;
  only = λ c x z s e. by c x z e (shape c s);
}
  where
    scalar_three : (c y : ℕ) → 128 ≤ y → least ≤ y → y ≤ most → (d : ℕ) → d < 64 → c ≡ (b - 224) * 4096 + (y - 128) * 64 + d → (b < 237) ⊎ (237 ≤ b) → (b < 238) ⊎ (238 ≤ b) → IsScalar c
    scalar_three c y ly lo hi d small e (inl h) o = low_scalar c (omega (arith, k.high, k.from))
    scalar_three c y ly lo hi d small e (inr h) (inl g) = let s : b ≡ 237 = omega arith in low_scalar c (omega (arith, k.no_surrogate s))
    scalar_three c y ly lo hi d small e (inr h) (inr g) = high_scalar c (omega arith) (omega (arith, k.high, k.to))

    made : (r : List ℕ) (y : ℕ) (t : List ℕ) → r ≡ y ∷ t → least ≤ y → y ≤ most → (w : ℕ) (end : List ℕ) → t ≡ w ∷ end → 128 ≤ w → w ≤ 191 → end ≡ [] → (c : ℕ) × IsScalar c × (encode_utf8 c ≡ (b ∷ []) ++ r)
    made r y t er ly uy w end et lw uw ee =
        let c : ℕ = (b - 224) * 4096 + (y - 128) * 64 + (w - 128) in
        let bounds : (128 ≤ y) × (y ≤ 191) = (omega (arith, k.low), omega (arith, k.high)) in
        let least_c : 2048 ≤ c = elim (cases_lt b 225) [ inl h ↦ (let s : b ≡ 224 = omega (arith, k.from) in omega (arith, k.not_short s)) | inr h ↦ omega arith ] in
        let p : 224 + c / 4096 ≡ b = omega (arith, k.from) in
        let q : next (c / 64) ≡ y = omega (arith, k.from) in
        let v : next c ≡ w = omega arith in (
          c,
          scalar_three c y bounds.0 ly uy (w - 128) (omega arith) refl (cases_lt b 237) (cases_lt b 238),
          three c least_c (omega (arith, k.to)) ∙ ap (λ n. n ∷ next (c / 64) ∷ next c ∷ []) p ∙ ap (λ n. b ∷ n ∷ next c ∷ []) q ∙ ap (λ n. b ∷ y ∷ n ∷ []) v
              ∙ ap (λ l. b ∷ y ∷ w ∷ l) (sym ee) ∙ ap (λ l. b ∷ y ∷ l) (sym et) ∙ ap (λ l. b ∷ l) (sym er),
        )

    by : (c : ℕ) (x z : List ℕ) → encode_utf8 c ++ x ≡ (b ∷ []) ++ z → Shape c → (rest : List ℕ) × Follows 2 least most rest × (rest ++ x ≡ z)
    by c x z e (of1 l p) = absurd (omega (arith, heads c c b [] x z p e, k.from))
    by c x z e (of2 a b2 l u f q p) = absurd (omega (arith, heads c a b _ x z p e, k.from))
    by c x z e (of3 a b2 d l u f g m n q p) =
        let h = heads c a b _ x z p e in
        let r = k.all b2 f.0 f.1 (λ s. m (h ∙ s)) (λ s. n (h ∙ s)) in
        (b2 ∷ d ∷ [], (b2, d ∷ [], refl, r.0, r.1, (d, [], refl, g.0, g.1, refl)), tails c a b _ x z p e)
    by c x z e (of4 a b2 d y l u f g j m n q p) = absurd (omega (arith, heads c a b _ x z p e, k.to))

-- the range of the second byte of four, where the first is b
pub record SecondOfFour (b least most : ℕ) : Type 0 where
  pub from : 240 ≤ b
  pub to : b ≤ 244
  pub room : least ≤ most
  pub low : 128 ≤ least
  pub high : most ≤ 191
  pub not_short : b ≡ 240 → 144 ≤ least
  pub not_past : b ≡ 244 → most ≤ 143
  pub all : (y : ℕ) → 128 ≤ y → y ≤ 191 → (b ≡ 240 → 144 ≤ y) → (b ≡ 244 → y ≤ 143) → (least ≤ y) × (y ≤ most)

pub lead_four : (b least most : ℕ) → SecondOfFour b least most → Begins (b ∷ []) 3 least most
lead_four b least most k = record {
  room = k.room;
  whole = λ r f. made r f.0 f.1 f.2 f.3 f.4 f.5.0 f.5.1 f.5.2 f.5.3 f.5.4 f.5.5.0 f.5.5.1 f.5.5.2 f.5.5.3 f.5.5.4 f.5.5.5;
  only = λ c x z s e. by c x z e (shape c s);
}
  where
    made : (r : List ℕ) (y : ℕ) (t : List ℕ) → r ≡ y ∷ t → least ≤ y → y ≤ most → (w : ℕ) (t2 : List ℕ) → t ≡ w ∷ t2 → 128 ≤ w → w ≤ 191 → (v : ℕ) (end : List ℕ) → t2 ≡ v ∷ end → 128 ≤ v → v ≤ 191 → end ≡ []
        → (c : ℕ) × IsScalar c × (encode_utf8 c ≡ (b ∷ []) ++ r)
    made r y t er ly uy w t2 et lw uw v end e2 lv uv ee =
        let c : ℕ = (b - 240) * 262144 + (y - 128) * 4096 + (w - 128) * 64 + (v - 128) in
        let bounds : (128 ≤ y) × (y ≤ 191) = (omega (arith, k.low), omega (arith, k.high)) in
        let least_c : 65536 ≤ c = elim (cases_lt b 241) [ inl h ↦ (let s : b ≡ 240 = omega (arith, k.from) in omega (arith, k.not_short s)) | inr h ↦ omega arith ] in
        let most_c : c < 1114112 = elim (cases_lt b 244) [ inl h ↦ omega (arith, k.from) | inr h ↦ (let s : b ≡ 244 = omega (arith, k.to) in omega (arith, k.not_past s)) ] in
        let p : 240 + c / 262144 ≡ b = omega (arith, k.from) in
        let q : next (c / 4096) ≡ y = omega (arith, k.from) in
        let n1 : next (c / 64) ≡ w = omega (arith, k.from) in
        let n0 : next c ≡ v = omega arith in (
          c,
          high_scalar c (omega arith) most_c,
          four c least_c ∙ ap (λ n. n ∷ next (c / 4096) ∷ next (c / 64) ∷ next c ∷ []) p ∙ ap (λ n. b ∷ n ∷ next (c / 64) ∷ next c ∷ []) q ∙ ap (λ n. b ∷ y ∷ n ∷ next c ∷ []) n1 ∙ ap (λ n. b ∷ y ∷ w ∷ n ∷ []) n0
              ∙ ap (λ l. b ∷ y ∷ w ∷ v ∷ l) (sym ee) ∙ ap (λ l. b ∷ y ∷ w ∷ l) (sym e2) ∙ ap (λ l. b ∷ y ∷ l) (sym et) ∙ ap (λ l. b ∷ l) (sym er),
        )

    by : (c : ℕ) (x z : List ℕ) → encode_utf8 c ++ x ≡ (b ∷ []) ++ z → Shape c → (rest : List ℕ) × Follows 3 least most rest × (rest ++ x ≡ z)
    by c x z e (of1 l p) = absurd (omega (arith, heads c c b [] x z p e, k.from))
    by c x z e (of2 a b2 l u f q p) = absurd (omega (arith, heads c a b _ x z p e, k.from))
    by c x z e (of3 a b2 d l u f g m n q p) = absurd (omega (arith, heads c a b _ x z p e, k.from))
    by c x z e (of4 a b2 d y l u f g j m n q p) =
        let h = heads c a b _ x z p e in
        let r = k.all b2 f.0 f.1 (λ s. m (h ∙ s)) (λ s. n (h ∙ s)) in
        (b2 ∷ d ∷ y ∷ [], (b2, d ∷ y ∷ [], refl, r.0, r.1, (d, y ∷ [], refl, g.0, g.1, (y, [], refl, j.0, j.1, refl))), tails c a b _ x z p e)

-- one more byte of it
pub begins_more : (begun : List ℕ) (n least most b : ℕ) → Begins begun (suc n) least most → least ≤ b → b ≤ most → Begins (begun ++ b ∷ []) n 128 191
begins_more begun n least most b k lo hi = record {
  room = omega arith;
  whole = λ r f. let c = k.whole (b ∷ r) (b, r, refl, lo, hi, f) in (c.0, c.1, c.2 ∙ sym (append_assoc begun (b ∷ []) r));
  only = λ c x z s e.
      let r = k.only c x (b ∷ z) s (e ∙ append_assoc begun (b ∷ []) z) in
      (r.1.1, r.1.5, tail_same _ _ _ _ (sym (ap (λ l. l ++ x) r.1.2) ∙ r.2));
}

-- a byte out of its range continues no character
pub begins_no_more : (begun : List ℕ) (n least most b : ℕ) → Begins begun (suc n) least most → (b < least) ⊎ (most < b) → (c : ℕ) (x z : List ℕ) → IsScalar c → encode_utf8 c ++ x ≡ begun ++ b ∷ z → ⊥
begins_no_more begun n least most b k out c x z s e =
    let r = k.only c x (b ∷ z) s e in
    let h : r.1.0 ≡ b = head_same _ _ _ _ (sym (ap (λ l. l ++ x) r.1.2) ∙ r.2) in
    elim out [ inl o ↦ omega (arith, h, r.1.3) | inr o ↦ omega (arith, h, r.1.4) ]

-- bytes that complete a character
pub completing : (n least most : ℕ) → least ≤ most → (rest : List ℕ) × Follows n least most rest × (length rest ≡ n)
completing zero least most le = ([], refl, refl)
completing (suc n) least most le =
    let more = completing n 128 191 (omega arith) in
    (least ∷ more.0, (least, more.0, refl, omega arith, le, more.1), omega (arith, more.2))

pub length-Follows : (n least most : ℕ) (rest : List ℕ) → Follows n least most rest → length rest ≡ n
length-Follows zero least most rest f = ap length f
length-Follows (suc n) least most rest f = ap length f.2 ∙ (let l : length f.1 ≡ n = length-Follows n 128 191 f.1 f.5 in omega arith)
