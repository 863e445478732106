-- The flags of places that a list names.
use Rattle.std.proofs.Common.{◌≡◌, ◌≢◌, ℕ, zero, suc, ◌+◌, ◌-◌, ◌*◌, ◌/◌, ◌%◌, ◌<◌, ◌≤◌, ◌⊎◌, ◌==◌, List, [], ◌∷◌, ◌++◌, length, map, Bool, true, false, ◌||◌, if◌then◌else◌, refl, sym, ap, subst, ◌∙◌, arith, inl, inr}
use Rattle.std.specs.Prelude.{Some, filter, replicate, slice_index_or, slice_set}
use Rattle.std.specs.List.{range_with_len}
use Rattle.std.proofs.lemmas.Bool.{cases_eq, cases_lt}
use Rattle.std.proofs.lemmas.Bool.Decides.{nat_tests}
use Rattle.std.proofs.lemmas.List.{get_or-replicate, length-replicate}
use Rattle.std.proofs.lemmas.Nat.{div-add-mod'}
use Rattle.frame_draw.specs.declared.wanted.Wanted.{Wanted}
use Rattle.dirty_region.specs.Places.{place_of}
use Rattle.frame_draw.specs.Along.{IsLeft, is_at, is_marked}
use Rattle.frame_draw.specs.Leads.{AreFlags}
use Rattle.frame_draw.proofs.Left.{itself, places}
use Rattle.frame_draw.proofs.Counts.{get_else, get_same, set_length}

or_false : (b : Bool) → (b || false) ≡ b
or_false true = refl
or_false false = refl

or_true : (b : Bool) → (b || true) ≡ true
or_true true = refl
or_true false = refl

or_both : (a b c : Bool) → ((a || b) || c) ≡ (a || (b || c))
or_both true b c = refl
or_both false b c = refl

-- ---- one entry more
marked_more : (cols : ℕ) (xs : List (ℕ × ℕ)) (x : ℕ × ℕ) (p : ℕ) → is_marked cols (xs ++ x ∷ []) p ≡ (is_marked cols xs p || is_at (Some x) p cols)
marked_more cols [] x p = or_false (is_at (Some x) p cols)
marked_more cols (y ∷ xs) x p = ap (λ (b : Bool). is_at (Some y) p cols || b) (marked_more cols xs x p) ∙ sym (or_both (is_at (Some y) p cols) (is_marked cols xs p) (is_at (Some x) p cols))

is_same : (place p : ℕ) → place ≡ p → (place == p) ≡ true
is_same place p e = grind (arith, nat_tests)

is_other : (place p : ℕ) → place ≢ p → (place == p) ≡ false
is_other place p ne = grind (arith, nat_tests)

-- the flags of the places that some entries name
abbrev pub AreMarked : ℕ → ℕ → List (ℕ × ℕ) → List Bool → Type 0
AreMarked cols total xs flags = AreFlags flags total (is_marked cols xs)

pub marked_none : (cols total : ℕ) (flags : List Bool) → flags ≡ replicate total false → AreMarked cols total [] flags
marked_none cols total flags e = record {
  all = ap length e ∙ length-replicate total false;
  told = λ p lt. ap (λ (xs : List Bool). slice_index_or xs p true) e ∙ get_or-replicate total p false true lt;
}

pub marked_set : (cols total : ℕ) (xs next : List (ℕ × ℕ)) (x : ℕ × ℕ) (place : ℕ) (flags later : List Bool) → next ≡ xs ++ x ∷ [] → place ≡ x.1 * cols + x.0 → place < length flags → later ≡ slice_set flags place true
    → AreMarked cols total xs flags → AreMarked cols total next later
marked_set cols total xs next x place flags later longer here lt e m = record {
  all = ap length e ∙ (set_length flags place true ∙ m.all);
  told = λ p low. ap (λ (fs : List Bool). slice_index_or fs p true) e ∙ (cases p low
      ∙ (ap (λ (i : ℕ). is_marked cols xs p || (i == p)) here
      ∙ (sym (marked_more cols xs x p) ∙ ap (λ (ys : List (ℕ × ℕ)). is_marked cols ys p) (sym longer))));
}
  where
    cases : (p : ℕ) → p < total → slice_index_or (slice_set flags place true) p true ≡ (is_marked cols xs p || (place == p))
    cases p low = elim (cases_eq place p) as (λ _. slice_index_or (slice_set flags place true) p true ≡ (is_marked cols xs p || (place == p))) [
      | inl same ↦ subst (λ (i : ℕ). slice_index_or (slice_set flags place true) i true ≡ (is_marked cols xs p || (place == p))) same
          (get_same flags place true lt ∙ sym (ap (λ (b : Bool). is_marked cols xs p || b) (is_same place p same) ∙ or_true (is_marked cols xs p)))
      | inr ne ↦ get_else flags place p true (apart ne)
          ∙ (m.told p low ∙ sym (ap (λ (b : Bool). is_marked cols xs p || b) (is_other place p ne) ∙ or_false (is_marked cols xs p)))
    ]
      where
        apart : place ≢ p → (p < place) ⊎ (place < p)
        apart ne = elim (cases_lt p place) as (λ _. (p < place) ⊎ (place < p)) [
          | inl low ↦ inl low
          | inr le ↦ inr (grind (arith, ne, le))
        ]

pub marked_past : (cols total : ℕ) (xs next : List (ℕ × ℕ)) (x : ℕ × ℕ) (place : ℕ) (flags : List Bool) → next ≡ xs ++ x ∷ [] → place ≡ x.1 * cols + x.0 → length flags ≤ place
    → AreMarked cols total xs flags → AreMarked cols total next flags
marked_past cols total xs next x place flags longer here le m = record {
  all = m.all;
  told = λ p low. m.told p low
      ∙ (sym (or_false (is_marked cols xs p))
      ∙ (ap (λ (b : Bool). is_marked cols xs p || b) (sym (is_other (x.1 * cols + x.0) p (λ e. omega (arith, e, here, le, low, m.all))))
      ∙ (sym (marked_more cols xs x p) ∙ ap (λ (ys : List (ℕ × ℕ)). is_marked cols ys p) (sym longer))));
}

-- ---- a list of the places that are copied
no_place : (q p cols : ℕ) → q ≢ p → is_at (Some (place_of cols q)) p cols ≡ false
no_place q p cols ne = let e : q / cols * cols + q % cols ≡ q = div-add-mod' q cols in is_other (q / cols * cols + q % cols) p (λ f. ne (sym e ∙ f))

-- those from one on don't have the places before it
marked_later : (cols : ℕ) (copies : ℕ → Bool) (p start n : ℕ) → p < start → is_marked cols (places cols copies start n) p ≡ false
marked_later cols copies p start zero lt = refl
marked_later cols copies p start (suc n) lt = cases (copies start) (marked_later cols copies p (start + 1) n (omega (arith, lt)))
  where
    cases : (b : Bool) → is_marked cols (places cols copies (start + 1) n) p ≡ false
        → is_marked cols (map (place_of cols) (if b then start ∷ filter copies (range_with_len (start + 1) n) else filter copies (range_with_len (start + 1) n))) p ≡ false
    cases true more = ap (λ (b : Bool). b || is_marked cols (places cols copies (start + 1) n) p) (no_place start p cols (λ e. omega (arith, e, lt))) ∙ more
    cases false more = more

marked_from : (cols : ℕ) (copies : ℕ → Bool) (p start n : ℕ) → start ≤ p → p < start + n → is_marked cols (places cols copies start n) p ≡ copies p
marked_from cols copies p start zero le lt = absurd (omega (arith, le, lt))
marked_from cols copies p start (suc n) le lt = elim (cases_eq start p) as (λ _. is_marked cols (places cols copies start (suc n)) p ≡ copies p) [
  | inl same ↦ subst (λ (i : ℕ). is_marked cols (places cols copies start (suc n)) i ≡ copies i) same (here (copies start))
  | inr ne ↦ there (copies start) ne (marked_from cols copies p (start + 1) n (above ne) (omega (arith, lt)))
]
  where
    above : start ≢ p → start + 1 ≤ p
    above ne = grind (arith, ne, le)

    here : (b : Bool) → is_marked cols (map (place_of cols) (if b then start ∷ filter copies (range_with_len (start + 1) n) else filter copies (range_with_len (start + 1) n))) start ≡ b
    here true = ap (λ (b : Bool). b || is_marked cols (places cols copies (start + 1) n) start) (itself start cols)
    here false = marked_later cols copies start (start + 1) n (omega arith)

    there : (b : Bool) → start ≢ p → is_marked cols (places cols copies (start + 1) n) p ≡ copies p
        → is_marked cols (map (place_of cols) (if b then start ∷ filter copies (range_with_len (start + 1) n) else filter copies (range_with_len (start + 1) n))) p ≡ copies p
    there true ne more = ap (λ (b : Bool). b || is_marked cols (places cols copies (start + 1) n) p) (no_place start p cols ne) ∙ more
    there false ne more = more

pub marked_flags : (cols total : ℕ) (copies : ℕ → Bool) (list : List (ℕ × ℕ)) (flags : List Bool) → AreMarked cols total list flags
    → list ≡ map (place_of cols) (filter copies (range_with_len 0 (total - 0))) → AreFlags flags total copies
marked_flags cols total copies list flags m left = record {
  all = m.all;
  told = λ p lt. m.told p lt ∙ (ap (λ (xs : List (ℕ × ℕ)). is_marked cols xs p) left ∙ marked_from cols copies p 0 (total - 0) (omega arith) (omega (arith, lt)));
}

-- as the list was read
pub marked_left : (cols total : ℕ) (wanted listed : Wanted) (list : List (ℕ × ℕ)) (flags : List Bool) → wanted ≡ listed
    → ((copies : ℕ → Bool) → IsLeft cols total copies listed 0 0 → list ≡ map (place_of cols) (filter copies (range_with_len 0 (total - 0))))
    → AreMarked cols total list flags → (copies : ℕ → Bool) → IsLeft cols total copies wanted 0 0 → AreFlags flags total copies
marked_left cols total wanted listed list flags is named m copies left =
    marked_flags cols total copies list flags m (named copies (subst (λ (w : Wanted). IsLeft cols total copies w 0 0) is left))
