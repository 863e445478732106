-- Viewers in the order of their numbers, and the one that a number finds among them.
use Rattle.std.proofs.Common.{◌≡◌, ℕ, ◌+◌, ◌<◌, ◌≤◌, List, [], ◌∷◌, ◌++◌, length, map, Bool, true, false, Option, Some, None, refl, sym, ap, ◌∙◌, subst, arith, inl, inr}
use Rattle.std.specs.Prelude.{filter, ◌≢◌, ◌==◌, if◌then◌else◌, not, is_some, option_map}
use Rattle.std.specs.List.{find}
use Rattle.std.proofs.lemmas.Bool.{eq-eqb}
use Rattle.std.proofs.lemmas.Bool.Decides.{eqb_tells}
use Rattle.viewer_book.specs.declared.viewer.Viewer.{Viewer}
use Rattle.viewer_book.specs.Book.{AreRising, has_number}

-- the first of a list, if the test is true, else what the rest finds
abbrev first_or : Bool → Viewer → Option Viewer → Option Viewer
first_or b x rest = if b then Some x else rest

-- wider bounds hold too
pub rising-wider : (xs : List Viewer) (low most lower more : ℕ) → lower ≤ low → most ≤ more → AreRising low most xs → AreRising lower more xs
rising-wider [] low most lower more below above r = tt
rising-wider (x ∷ xs) low most lower more below above r =
    (omega (arith, below, r.0), omega (arith, above, r.1), rising-wider xs x.number most x.number more (omega arith) above r.2)

-- no number at or below the lower bound is found
pub find-low : (n : ℕ) (xs : List Viewer) (low most : ℕ) → AreRising low most xs → n ≤ low → find (has_number n) xs ≡ None
find-low n [] low most r le = refl
find-low n (x ∷ xs) low most r le = elim (eqb_tells x.number n) [
  | inl q ↦ absurd (omega (arith, q.1, r.0, le))
  | inr q ↦ rw q.0 (find-low n xs x.number most r.2 (omega (arith, r.0, le)))
]

-- no number above the upper bound is found
pub find-high : (n : ℕ) (xs : List Viewer) (low most : ℕ) → AreRising low most xs → most < n → find (has_number n) xs ≡ None
find-high n [] low most r lt = refl
find-high n (x ∷ xs) low most r lt = elim (eqb_tells x.number n) [
  | inl q ↦ absurd (omega (arith, q.1, r.1, lt))
  | inr q ↦ rw q.0 (find-high n xs x.number most r.2 lt)
]

-- what a number finds has that number, which lies within the bounds
pub find-own : (n : ℕ) (xs : List Viewer) (low most : ℕ) (v : Viewer) → AreRising low most xs → find (has_number n) xs ≡ Some v → (v.number ≡ n) × (low < n) × (n ≤ most)
find-own n [] low most v r found = absurd (cc)
find-own n (x ∷ xs) low most v r found = elim (eqb_tells x.number n) [
  | inl q ↦
      let here : Some x ≡ Some v = subst (λ (b : Bool). first_or b x (find (has_number n) xs) ≡ Some v) q.0 found in
      let same : x ≡ v = cc in
      (sym (ap (λ (w : Viewer). w.number) same) ∙ q.1, omega (arith, q.1, r.0), omega (arith, q.1, r.1))
  | inr q ↦
      let rest = find-own n xs x.number most v r.2 (subst (λ (b : Bool). first_or b x (find (has_number n) xs) ≡ Some v) q.0 found) in
      (rest.0, omega (arith, rest.1, r.0), rest.2)
]

-- where a number finds none, it doesn't find one after the first
find-rest : (n : ℕ) (x : Viewer) (xs : List Viewer) → find (has_number n) (x ∷ xs) ≡ None → ((x.number == n) ≡ false) × (find (has_number n) xs ≡ None)
find-rest n x xs none = elim (eqb_tells x.number n) [
  | inl q ↦ let found : Some x ≡ None = subst (λ (b : Bool). first_or b x (find (has_number n) xs) ≡ None) q.0 none in absurd (cc)
  | inr q ↦ (q.0, subst (λ (b : Bool). first_or b x (find (has_number n) xs) ≡ None) q.0 none)
]

-- ---- one more at the end

pub rising-append : (xs : List Viewer) (low most : ℕ) (w : Viewer) → AreRising low most xs → low ≤ most → most < w.number → AreRising low w.number (xs ++ w ∷ [])
rising-append [] low most w r le lt = (omega (arith, le, lt), omega arith, tt)
rising-append (x ∷ xs) low most w r le lt = (r.0, omega (arith, r.1, lt), rising-append xs x.number most w r.2 r.1 lt)

pub find-append_other : (n : ℕ) (xs : List Viewer) (w : Viewer) → w.number ≢ n → find (has_number n) (xs ++ w ∷ []) ≡ find (has_number n) xs
find-append_other n [] w differs = elim (eqb_tells w.number n) [
  | inl q ↦ absurd (differs q.1)
  | inr q ↦ rw q.0 refl
]
find-append_other n (x ∷ xs) w differs = ap (first_or (has_number n x) x) (find-append_other n xs w differs)

pub find-append_same : (n : ℕ) (xs : List Viewer) (w : Viewer) → find (has_number n) xs ≡ None → w.number ≡ n → find (has_number n) (xs ++ w ∷ []) ≡ Some w
find-append_same n [] w none same = rw (eq-eqb w.number n same) refl
find-append_same n (x ∷ xs) w none same =
    let rest = find-rest n x xs none in
    rw rest.0 (find-append_same n xs w rest.1 same)

-- ---- one changed

-- the change, at the viewer of this number alone
abbrev pub only : ℕ → (Viewer → Viewer) → Viewer → Viewer
only n change v = if has_number n v then change v else v

-- the change keeps the viewer's number
abbrev pub KeepsNumber : (Viewer → Viewer) → Type 0
KeepsNumber change = (v : Viewer) → (change v).number ≡ v.number

pub number-only : (n : ℕ) (change : Viewer → Viewer) (v : Viewer) → KeepsNumber change → (only n change v).number ≡ v.number
number-only n change v keeps = elim (eqb_tells v.number n) [
  | inl q ↦ rw q.0 (keeps v)
  | inr q ↦ rw q.0 refl
]

pub rising-map : (n : ℕ) (change : Viewer → Viewer) (xs : List Viewer) (low most : ℕ) → KeepsNumber change → AreRising low most xs → AreRising low most (map (only n change) xs)
rising-map n change [] low most keeps r = tt
rising-map n change (x ∷ xs) low most keeps r = subst (λ (k : ℕ). (low < k) × (k ≤ most) × AreRising k most (map (only n change) xs)) (sym (number-only n change x keeps)) (r.0, r.1, rising-map n change xs x.number most keeps r.2)

pub find-map_same : (n : ℕ) (change : Viewer → Viewer) (xs : List Viewer) → KeepsNumber change → find (has_number n) (map (only n change) xs) ≡ option_map change (find (has_number n) xs)
find-map_same n change [] keeps = refl
find-map_same n change (x ∷ xs) keeps = elim (eqb_tells x.number n) [
  | inl q ↦ rw (number-only n change x keeps, q.0) refl
  | inr q ↦ rw (number-only n change x keeps, q.0) (find-map_same n change xs keeps)
]

pub find-map_other : (n m : ℕ) (change : Viewer → Viewer) (xs : List Viewer) → KeepsNumber change → m ≢ n → find (has_number m) (map (only n change) xs) ≡ find (has_number m) xs
find-map_other n m change [] keeps differs = refl
find-map_other n m change (x ∷ xs) keeps differs = elim (eqb_tells x.number m) [
  | inl t ↦ elim (eqb_tells x.number n) [
    | inl q ↦ absurd (differs (sym t.1 ∙ q.1))
    | inr q ↦ rw (q.0, t.0) refl
  ]
  | inr t ↦ rw (number-only n change x keeps, t.0) (find-map_other n m change xs keeps differs)
]

-- where the number isn't found, nothing changes
pub map-absent : (n : ℕ) (change : Viewer → Viewer) (xs : List Viewer) → find (has_number n) xs ≡ None → map (only n change) xs ≡ xs
map-absent n change [] none = refl
map-absent n change (x ∷ xs) none =
    let rest = find-rest n x xs none in
    rw rest.0 (ap (λ (l : List Viewer). x ∷ l) (map-absent n change xs rest.1))

-- ---- one removed

-- the viewer has another number
abbrev pub is_other : ℕ → Viewer → Bool
is_other n v = not (has_number n v)

pub rising-filter : (n : ℕ) (xs : List Viewer) (low most : ℕ) → AreRising low most xs → AreRising low most (filter (is_other n) xs)
rising-filter n [] low most r = tt
rising-filter n (x ∷ xs) low most r = elim (eqb_tells x.number n) [
  | inl q ↦ rw q.0 (rising-wider (filter (is_other n) xs) x.number most low most (omega (arith, r.0)) (omega arith) (rising-filter n xs x.number most r.2))
  | inr q ↦ rw q.0 (r.0, r.1, rising-filter n xs x.number most r.2)
]

pub find-filter_same : (n : ℕ) (xs : List Viewer) → find (has_number n) (filter (is_other n) xs) ≡ None
find-filter_same n [] = refl
find-filter_same n (x ∷ xs) = elim (eqb_tells x.number n) [
  | inl q ↦ rw q.0 (find-filter_same n xs)
  | inr q ↦ rw q.0 (rw q.0 (find-filter_same n xs))
]

pub find-filter_other : (n m : ℕ) (xs : List Viewer) → m ≢ n → find (has_number m) (filter (is_other n) xs) ≡ find (has_number m) xs
find-filter_other n m [] differs = refl
find-filter_other n m (x ∷ xs) differs = elim (eqb_tells x.number n) [
  | inl q ↦ elim (eqb_tells x.number m) [
    | inl t ↦ absurd (differs (sym t.1 ∙ q.1))
    | inr t ↦ rw (q.0, t.0) (find-filter_other n m xs differs)
  ]
  | inr q ↦ rw q.0 (ap (first_or (has_number m x) x) (find-filter_other n m xs differs))
]

-- where the number isn't found, nothing is removed
pub filter-absent : (n : ℕ) (xs : List Viewer) → find (has_number n) xs ≡ None → filter (is_other n) xs ≡ xs
filter-absent n [] none = refl
filter-absent n (x ∷ xs) none =
    let rest = find-rest n x xs none in
    rw rest.0 (ap (λ (l : List Viewer). x ∷ l) (filter-absent n xs rest.1))

-- where the number is found, the list is shorter by one
pub length-filter_found : (n : ℕ) (xs : List Viewer) (low most : ℕ) → AreRising low most xs → is_some (find (has_number n) xs) ≡ true → length (filter (is_other n) xs) + 1 ≡ length xs
length-filter_found n [] low most r found = absurd (let w : false ≡ true = found in cc)
length-filter_found n (x ∷ xs) low most r found = elim (eqb_tells x.number n) [
  | inl q ↦
      let rest : filter (is_other n) xs ≡ xs = filter-absent n xs (find-low n xs x.number most r.2 (omega (arith, q.1))) in
      rw (q.0, rest) (omega arith)
  | inr q ↦
      let rest : length (filter (is_other n) xs) + 1 ≡ length xs = length-filter_found n xs x.number most r.2 (subst (λ (b : Bool). is_some (first_or b x (find (has_number n) xs)) ≡ true) q.0 found) in
      rw q.0 (omega (arith, rest))
]
