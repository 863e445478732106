-- The place of a viewer in the list, what stands there, and the list after a change there.
use Rattle.std.proofs.Common.{◌≡◌, ℕ, ◌+◌, ◌<◌, List, [], ◌∷◌, ◌++◌, length, map, Bool, true, false, Option, Some, None, refl, sym, ap, ◌∙◌, subst, arith, inl, inr, get_or, set, suc}
use Rattle.std.specs.Prelude.{nat_lt, is_some, position, if◌then◌else◌}
use Rattle.std.specs.List.{find, position_or_len, slice_get}
use Rattle.std.proofs.lemmas.Bool.{lt-ltb, le-ltb, ltb-true}
use Rattle.std.proofs.lemmas.Bool.Decides.{eqb_tells}
use Rattle.std.proofs.lemmas.List.Folds.{find_at}
use Rattle.std.proofs.lemmas.Option.{slice_get_cases, slice_get_read}
use Rattle.gate_model.specs.declared.sharing.Role.{Role}
use Rattle.viewer_book.specs.declared.viewer.Viewer.{Viewer}
use Rattle.gate_model.specs.Limits.{most_live, most_joined}
use Rattle.viewer_book.specs.Book.{BookState, IsBook, AreRising, has_number, viewer_at, is_live, live_count, newcomer, added, changed}
use Rattle.viewer_book.proofs.Lists.{KeepsNumber, only, map-absent, find-low}
use Rattle.viewer_book.proofs.Books.{adds-one, changes-one}

-- there is a place exactly where the lookup finds a viewer
pub is-there : (p : Viewer → Bool) (xs : List Viewer) → is_some (position p xs) ≡ is_some (find p xs)
is-there p xs = elim (slice_get_cases xs (position_or_len p xs)).1 [
  | inl q ↦ rw (find_at p xs, q.2, lt-ltb (position_or_len p xs) (length xs) q.1) refl
  | inr q ↦ rw (find_at p xs, q.1, le-ltb (position_or_len p xs) (length xs) q.0) refl
]

-- a place is the first at which the test passes
pub record IsFirst (p : Viewer → Bool) (xs : List Viewer) (place : ℕ) : Type 0 where
  pub first : place ≡ position_or_len p xs
  pub within : place < length xs

first-at : (at size place : ℕ) (b : Bool) → nat_lt at size ≡ b → (if b then Some at else None) ≡ Some place → (place ≡ at) × (place < size)
first-at at size place true lt is =
    let same : at ≡ place = cc in
    (sym same, omega (arith, ltb-true at size lt, same))
first-at at size place false lt is = absurd (cc)

pub is-first : (p : Viewer → Bool) (xs : List Viewer) (place : ℕ) → position p xs ≡ Some place → IsFirst p xs place
is-first p xs place is =
    let at = first-at (position_or_len p xs) (length xs) place (nat_lt (position_or_len p xs) (length xs)) refl is in
    record { first = at.0; within = at.1 }

-- the lookup finds what stands at the place
pub find-there : (p : Viewer → Bool) (xs : List Viewer) (place : ℕ) (v : Viewer) → position p xs ≡ Some place → v ≡ get_or xs place v → find p xs ≡ Some v
find-there p xs place v is reads =
    let f = is-first p xs place is in
    find_at p xs ∙ (ap (slice_get xs) (sym f.first) ∙ slice_get_read xs (length xs) place v refl f.within reads)

set-first : (n : ℕ) (change : Viewer → Viewer) (xs : List Viewer) (low most place : ℕ) (v : Viewer) → AreRising low most xs → place ≡ position_or_len (has_number n) xs → place < length xs → v ≡ get_or xs place v
    → set xs place (change v) ≡ map (only n change) xs
set-first n change [] low most place v r is lt reads = refl
set-first n change (x ∷ xs) low most place v r is lt reads = elim (eqb_tells x.number n) [
  | inl q ↦
      let here : place ≡ 0 = is ∙ (rw q.0 refl) in
      let same : v ≡ x = subst (λ (k : ℕ). v ≡ get_or (x ∷ xs) k v) here reads in
      let rest : map (only n change) xs ≡ xs = map-absent n change xs (find-low n xs x.number most r.2 (omega (arith, q.1))) in
      rw (here, same, q.0, rest) refl
  | inr q ↦
      let further : place ≡ 1 + position_or_len (has_number n) xs = is ∙ (rw q.0 refl) in
      let next : place ≡ suc (position_or_len (has_number n) xs) = omega (arith, further) in
      let there : v ≡ get_or xs (position_or_len (has_number n) xs) v = subst (λ (k : ℕ). v ≡ get_or (x ∷ xs) k v) next reads in
      let rest = set-first n change xs x.number most (position_or_len (has_number n) xs) v r.2 refl (omega (arith, lt, next)) there in
      rw (next, q.0, rest) refl
]

-- a change of what stands at the place of a viewer changes that viewer alone
pub set-there : (n : ℕ) (change : Viewer → Viewer) (xs : List Viewer) (low most place : ℕ) (v : Viewer) → AreRising low most xs → position (has_number n) xs ≡ Some place → v ≡ get_or xs place v
    → set xs place (change v) ≡ map (only n change) xs
set-there n change xs low most place v r is reads =
    let f = is-first (has_number n) xs place is in
    set-first n change xs low most place v r f.first f.within reads

-- ---- the book by its parts

-- a live viewer has a place
pub live-there : (s : BookState) (xs : List Viewer) (n : ℕ) (place : Option ℕ) → xs ≡ s.viewers → place ≡ position (has_number n) xs → is_some place ≡ is_live s n
live-there s xs n place same is = ap is_some is ∙ (is-there (has_number n) xs ∙ ap (λ (l : List Viewer). is_some (find (has_number n) l)) same)

-- the lookup finds what stands at the place
pub found-there : (joined : ℕ) (xs : List Viewer) (s : BookState) (n place : ℕ) (v : Viewer) → record { joined = joined; viewers = xs } ≡ s → position (has_number n) s.viewers ≡ Some place → v ≡ get_or xs place v → viewer_at s n ≡ Some v
found-there joined xs s n place v same there reads =
    find-there (has_number n) s.viewers place v there (reads ∙ ap (λ (b : BookState). get_or b.viewers place v) same)

-- the book after a change of what stands at the place of a viewer
pub changed-there : (joined : ℕ) (xs : List Viewer) (s : BookState) (n place : ℕ) (change : Viewer → Viewer) (v : Viewer) → record { joined = joined; viewers = xs } ≡ s → IsBook record { joined = joined; viewers = xs }
    → position (has_number n) s.viewers ≡ Some place → v ≡ get_or xs place v → record { joined = joined; viewers = set xs place (change v) } ≡ changed s n change
changed-there joined xs s n place change v same is there reads =
    let here : position (has_number n) xs ≡ Some place = ap (λ (b : BookState). position (has_number n) b.viewers) same ∙ there in
    let moved : set xs place (change v) ≡ map (only n change) xs = set-there n change xs 0 joined place v is.rising here reads in
    ap (λ (l : List Viewer). record { joined = joined; viewers = l }) moved ∙ ap (λ (b : BookState). changed b n change) same

-- it is a book
pub book-there : (joined : ℕ) (xs : List Viewer) (s : BookState) (n place : ℕ) (change : Viewer → Viewer) (v : Viewer) → KeepsNumber change → record { joined = joined; viewers = xs } ≡ s → IsBook record { joined = joined; viewers = xs }
    → position (has_number n) s.viewers ≡ Some place → v ≡ get_or xs place v → IsBook record { joined = joined; viewers = set xs place (change v) }
book-there joined xs s n place change v keeps same is there reads =
    let moved = changed-there joined xs s n place change v same is there reads in
    subst IsBook (sym moved) (changes-one s n change (subst IsBook same is) keeps).book

-- with one viewer more it is a book
pub book-more : (joined : ℕ) (xs ys : List Viewer) (s : BookState) (role : Role) (stamp : ℕ) (v : Viewer) → record { joined = joined; viewers = xs } ≡ s → IsBook record { joined = joined; viewers = xs }
    → live_count s < most_live → s.joined < most_joined → v ≡ newcomer (joined + 1) role stamp → ys ≡ xs ++ v ∷ [] → IsBook record { joined = joined + 1; viewers = ys }
book-more joined xs ys s role stamp v same is few_live few_joined new more =
    let b : BookState = record { joined = joined; viewers = xs } in
    let all : ys ≡ (added b role stamp).viewers = more ∙ ap (λ (w : Viewer). xs ++ w ∷ []) new in
    subst (λ (l : List Viewer). IsBook record { joined = joined + 1; viewers = l }) (sym all) ((adds-one b role stamp is).book (subst (λ (t : BookState). live_count t < most_live) (sym same) few_live) (subst (λ (t : BookState). t.joined < most_joined) (sym same) few_joined))
