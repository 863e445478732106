-- A list of places is walked along with the places.
use Rattle.std.proofs.Common.{◌≡◌, ℕ, zero, suc, ◌+◌, ◌-◌, ◌*◌, ◌/◌, ◌%◌, ◌<◌, List, [], ◌∷◌, length, map, drop, Bool, true, false, if◌then◌else◌, refl, sym, ap, subst, ◌∙◌, arith}
use Rattle.std.specs.Prelude.{Option, Some, slice_get, filter}
use Rattle.std.specs.List.{range_with_len}
use Rattle.std.proofs.lemmas.Bool.Decides.{nat_tests}
use Rattle.std.proofs.lemmas.Nat.{div-add-mod'}
use Rattle.frame_draw.specs.declared.wanted.Wanted.{Wanted}
use Rattle.frame_draw.specs.declared.wanted.Wanted.TheVariants.{All, Listed, Unlike}
use Rattle.dirty_region.specs.Places.{place_of}
use Rattle.frame_draw.specs.Along.{IsLeft, count_below, is_at, is_next}

entry_at : {X : Type 0} (xs : List X) (at : ℕ) → slice_get xs at ≡ slice_get (drop at xs) 0
entry_at [] zero = refl
entry_at [] (suc at) = refl
entry_at (x ∷ xs) zero = refl
entry_at (x ∷ xs) (suc at) = entry_at xs at

drop_next : {X : Type 0} (xs : List X) (at : ℕ) (y : X) (ys : List X) → drop at xs ≡ y ∷ ys → drop (at + 1) xs ≡ ys
drop_next xs at y ys e = subst (λ (n : ℕ). drop n xs ≡ ys) (next at) (go xs at y ys e)
  where
    next : (n : ℕ) → suc n ≡ n + 1
    next n = omega arith

    go : {X : Type 0} (xs : List X) (at : ℕ) (y : X) (ys : List X) → drop at xs ≡ y ∷ ys → drop (suc at) xs ≡ ys
    go [] zero y ys e = absurd (cc)
    go [] (suc at) y ys e = absurd (cc)
    go (x ∷ xs) zero y ys e = cc
    go (x ∷ xs) (suc at) y ys e = go xs at y ys e

-- the places of a range
abbrev pub places : ℕ → (ℕ → Bool) → ℕ → ℕ → List (ℕ × ℕ)
places cols copies start n = map (place_of cols) (filter copies (range_with_len start n))

pub itself : (p cols : ℕ) → is_at (Some (place_of cols p)) p cols ≡ true
itself p cols = let e : p / cols * cols + p % cols ≡ p = div-add-mod' p cols in grind (arith, nat_tests)

other : (q p cols : ℕ) → p < q → is_at (Some (place_of cols q)) p cols ≡ false
other q p cols lt = let e : q / cols * cols + q % cols ≡ q = div-add-mod' q cols in grind (arith, nat_tests)

later : (cols : ℕ) (copies : ℕ → Bool) (p start n : ℕ) → p < start → is_at (slice_get (places cols copies start n) 0) p cols ≡ false
later cols copies p start zero lt = refl
later cols copies p start (suc n) lt = cases (copies start) (later cols copies p (start + 1) n (omega (arith, lt)))
  where
    cases : (b : Bool) → is_at (slice_get (places cols copies (start + 1) n) 0) p cols ≡ false
        → is_at (slice_get (map (place_of cols) (if b then start ∷ filter copies (range_with_len (start + 1) n) else filter copies (range_with_len (start + 1) n))) 0) p cols ≡ false
    cases true more = other start p cols lt
    cases false more = more

first_of : (cols : ℕ) (copies : ℕ → Bool) (p n : ℕ) → is_at (slice_get (places cols copies p (suc n)) 0) p cols ≡ copies p
first_of cols copies p n = cases (copies p)
  where
    cases : (b : Bool) → is_at (slice_get (map (place_of cols) (if b then p ∷ filter copies (range_with_len (p + 1) n) else filter copies (range_with_len (p + 1) n))) 0) p cols ≡ b
    cases true = itself p cols
    cases false = later cols copies p (p + 1) n (omega arith)

some_left : (total p : ℕ) → p < total → total - p ≡ suc (total - (p + 1))
some_left total p lt = omega (arith, lt)

pub next_is : (cols total : ℕ) (copies : ℕ → Bool) (wanted : Wanted) (at p : ℕ) → p < total → IsLeft cols total copies wanted at p → is_next wanted at p cols ≡ copies p
next_is cols total copies All at p lt left = sym (left p)
next_is cols total copies (Unlike old new) at p lt left = sym (left p)
next_is cols total copies (Listed list) at p lt left =
    ap (λ (o : Option (ℕ × ℕ)). is_at o p cols) (entry_at list.now at ∙ ap (λ (xs : List (ℕ × ℕ)). slice_get xs 0) (left ∙ ap (places cols copies p) (some_left total p lt)))
    ∙ first_of cols copies p (total - (p + 1))

pub left_copied : (cols total : ℕ) (copies : ℕ → Bool) (wanted : Wanted) (at p : ℕ) → p < total → copies p ≡ true → IsLeft cols total copies wanted at p → IsLeft cols total copies wanted (at + 1) (p + 1)
left_copied cols total copies All at p lt e left = left
left_copied cols total copies (Unlike old new) at p lt e left = left
left_copied cols total copies (Listed list) at p lt e left =
    drop_next list.now at (place_of cols p) (places cols copies (p + 1) (total - (p + 1)))
    (left ∙ (ap (places cols copies p) (some_left total p lt)
    ∙ ap (λ (b : Bool). map (place_of cols) (if b then p ∷ filter copies (range_with_len (p + 1) (total - (p + 1))) else filter copies (range_with_len (p + 1) (total - (p + 1))))) e))

pub left_passed : (cols total : ℕ) (copies : ℕ → Bool) (wanted : Wanted) (at p : ℕ) → p < total → copies p ≡ false → IsLeft cols total copies wanted at p → IsLeft cols total copies wanted at (p + 1)
left_passed cols total copies All at p lt e left = left
left_passed cols total copies (Unlike old new) at p lt e left = left
left_passed cols total copies (Listed list) at p lt e left =
    left ∙ (ap (places cols copies p) (some_left total p lt)
    ∙ ap (λ (b : Bool). map (place_of cols) (if b then p ∷ filter copies (range_with_len (p + 1) (total - (p + 1))) else filter copies (range_with_len (p + 1) (total - (p + 1))))) e)

-- the places that are copied, counted
next : (n : ℕ) → suc n ≡ n + 1
next n = omega arith

pub count_more : (copies : ℕ → Bool) (n : ℕ) → count_below copies (n + 1) ≡ count_below copies n + (if copies n then 1 else 0)
count_more copies n = subst (λ (m : ℕ). count_below copies m ≡ count_below copies n + (if copies n then 1 else 0)) (next n) refl

count_from : (copies : ℕ → Bool) (a n : ℕ) → count_below copies a + length (filter copies (range_with_len a n)) ≡ count_below copies (a + n)
count_from copies a zero = let same : count_below copies (a + 0) ≡ count_below copies a = ap (λ (m : ℕ). count_below copies m) (let e : a + 0 ≡ a = omega arith in e) in omega (arith, same)
count_from copies a (suc n) = cases (copies a) refl (count_from copies (a + 1) n)
  where
    cases : (b : Bool) → copies a ≡ b → count_below copies (a + 1) + length (filter copies (range_with_len (a + 1) n)) ≡ count_below copies ((a + 1) + n)
        → count_below copies a + length (if b then a ∷ filter copies (range_with_len (a + 1) n) else filter copies (range_with_len (a + 1) n)) ≡ count_below copies (a + suc n)
    cases true e more =
        let one : count_below copies (a + 1) ≡ count_below copies a + 1 = count_more copies a ∙ ap (λ (b : Bool). count_below copies a + (if b then 1 else 0)) e in
        let same : count_below copies ((a + 1) + n) ≡ count_below copies (a + suc n) = ap (λ (m : ℕ). count_below copies m) (let e : (a + 1) + n ≡ a + suc n = omega arith in e) in
        omega (arith, one, more, same)
    cases false e more =
        let one : count_below copies (a + 1) ≡ count_below copies a + 0 = count_more copies a ∙ ap (λ (b : Bool). count_below copies a + (if b then 1 else 0)) e in
        let same : count_below copies ((a + 1) + n) ≡ count_below copies (a + suc n) = ap (λ (m : ℕ). count_below copies m) (let e : (a + 1) + n ≡ a + suc n = omega arith in e) in
        omega (arith, one, more, same)

pub count_all : (copies : ℕ → Bool) (n : ℕ) → count_below copies n ≡ length (filter copies (range_with_len 0 n))
count_all copies n = let from : count_below copies 0 + length (filter copies (range_with_len 0 n)) ≡ count_below copies (0 + n) = count_from copies 0 n in
    let same : count_below copies (0 + n) ≡ count_below copies n = ap (λ (m : ℕ). count_below copies m) (let e : 0 + n ≡ n = omega arith in e) in
    omega (arith, from, same)
