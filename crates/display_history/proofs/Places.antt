-- Where the frames above a stamp begin, and the frames behind a place.
use Rattle.std.proofs.Common.{◌≡◌, ℕ, zero, suc, ◌+◌, ◌-◌, ◌<◌, ◌≤◌, List, [], ◌∷◌, ◌++◌, length, take, drop, None, true, false, refl, ap, sym, ◌∙◌, subst, arith, length-append}
use Rattle.std.specs.Prelude.{nat_lt, nat_le, slice_get, slice_index_or, slice_set}
use Rattle.std.specs.List.{AllAdjacentBelow, last_or}
use Rattle.std.specs.List.Sorted.{IsPartitionedBy, IsPartitionPoint}
use Rattle.std.proofs.lemmas.List.Sorted.{IsNonDecreasingBy-from_all_adjacent, IsPartitionedBy-leb}
use Rattle.std.proofs.lemmas.Bool.Decides.{nat_tests}
use Rattle.std.proofs.Math.Seq.{drop-nil, drop-cons, take-length}
use Rattle.std.proofs.lemmas.List.{length-drop, drop-set-lt, drop-append-le}
use Rattle.display_history.specs.Keeping.{text_bytes, after_stamp, AreRising}
use Rattle.display_history.proofs.Ends.{text_bytes-append}

adjacent : (s : ℕ) (fs : List (ℕ × List ℕ)) → AreRising s fs → AllAdjacentBelow (λ (x y : ℕ × List ℕ). x.0 ≤ y.0) fs (length fs)
adjacent s [] r k d lt = omega arith
adjacent s (f ∷ []) r k d lt = omega arith
adjacent s (f ∷ g ∷ fs) r zero d lt = omega (arith, r.1.0)
adjacent s (f ∷ g ∷ fs) r (suc k) d lt = let next : (suc k + 1) ≡ suc (k + 1) = omega arith in rw next (adjacent f.0 (g ∷ fs) r.1 k d (omega (arith, lt)))

pub partitioned : (t : ℕ) (fs : List (ℕ × List ℕ)) → AreRising 0 fs → IsPartitionedBy (λ (f : ℕ × List ℕ). nat_le f.0 t) fs
partitioned t fs r = IsPartitionedBy-leb (λ (f : ℕ × List ℕ). f.0) fs t (IsNonDecreasingBy-from_all_adjacent (λ (f : ℕ × List ℕ). f.0) fs (adjacent 0 fs r))

above : (t u : ℕ) → nat_le u t ≡ false → nat_lt t u ≡ true
above t u e = grind (arith, nat_tests)

below : (t u : ℕ) → nat_le u t ≡ true → nat_lt t u ≡ false
below t u e = grind (arith, nat_tests)

-- the frames from the place on are those above the stamp
pub from_place : (t : ℕ) (fs : List (ℕ × List ℕ)) (i : ℕ) → IsPartitionPoint (λ (f : ℕ × List ℕ). nat_le f.0 t ≡ true) (λ (f : ℕ × List ℕ). nat_le f.0 t ≡ false) fs i → drop i fs ≡ after_stamp t fs
from_place t [] i p = drop-nil i
from_place t (f ∷ fs) zero p =
    rw (above t f.0 (p.1 0 f (omega arith) (omega arith)))
    (ap (λ (xs : List (ℕ × List ℕ)). f ∷ xs) (from_place t fs 0 (λ k d low lt. absurd (omega (arith, lt)), λ k d low lt. p.1 (suc k) d (omega arith) (omega (arith, lt)))))
from_place t (f ∷ fs) (suc i) p =
    rw (below t f.0 (p.0 0 f (omega arith) (omega arith)))
    (from_place t fs i (λ k d low lt. p.0 (suc k) d (omega arith) (omega (arith, lt)), λ k d low lt. p.1 (suc k) d (omega (arith, low)) (omega (arith, lt))))

-- ---- the frames behind a place

pub rest_whole : (i : ℕ) (fs : List (ℕ × List ℕ)) → take (length fs - i) (drop i fs) ≡ drop i fs
rest_whole i fs = subst (λ (n : ℕ). take n (drop i fs) ≡ drop i fs) (length-drop i fs) (take-length (drop i fs))

-- the frame at the last place
pub last_at : (fs : List (ℕ × List ℕ)) → slice_get fs (length fs - 1) ≡ last_or None fs
last_at [] = refl
last_at (f ∷ []) = refl
last_at (f ∷ g ∷ fs) =
    let place : length (f ∷ g ∷ fs) - 1 ≡ suc (length (g ∷ fs) - 1) = omega arith in
    ap (slice_get (f ∷ g ∷ fs)) place ∙ last_at (g ∷ fs)

-- the frame at the place is taken away, and something else is put there
pub taken_away : (fs now : List (ℕ × List ℕ)) (i : ℕ) (f other : ℕ × List ℕ) → drop i fs ≡ now → 0 < length now → f ≡ slice_index_or fs i f → now ≡ f ∷ drop (i + 1) (slice_set fs i other)
taken_away fs now i f other view some is =
    let there : i < length fs = omega (arith, some, ap length view, length-drop i fs) in
    let after : (i + 1) ≡ suc i = omega arith in
    sym view ∙ (drop-cons fs i f there
    ∙ (ap (λ (x : ℕ × List ℕ). x ∷ drop (suc i) fs) (sym is)
    ∙ (ap (λ (xs : List (ℕ × List ℕ)). f ∷ xs) (sym (drop-set-lt (suc i) fs i other (omega arith)))
    ∙ ap (λ (n : ℕ). f ∷ drop n (slice_set fs i other)) (sym after))))

-- a frame more, behind the others
pub counted_more : (fs more : List (ℕ × List ℕ)) (i bytes count : ℕ) (f : ℕ × List ℕ) → more ≡ fs ++ f ∷ [] → count ≡ length f.1 → i ≤ length fs → bytes ≡ text_bytes (drop i fs) → (i ≤ length more) × (bytes + count ≡ text_bytes (drop i more))
counted_more fs more i bytes count f is size low sum =
    let long : length more ≡ length fs + 1 = ap length is ∙ length-append fs (f ∷ []) in
    let rest : drop i more ≡ drop i fs ++ f ∷ [] = ap (drop i) is ∙ drop-append-le i fs (f ∷ []) low in
    let bytes_are : text_bytes (drop i more) ≡ text_bytes (drop i fs) + text_bytes (f ∷ []) = ap text_bytes rest ∙ text_bytes-append (drop i fs) (f ∷ []) in
    (omega (arith, long, low), omega (arith, bytes_are, size, sum))
