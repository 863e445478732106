-- Pieces are read the same however the input is cut.
use Rattle.std.proofs.Common.{◌≡◌, ℕ, zero, suc, ◌+◌, ◌-◌, ◌<◌, ◌≤◌, min, List, [], ◌∷◌, ◌++◌, length, take, drop, Bool, true, false, not, ◌⊎◌, inl, inr, refl, ap, sym, ◌∙◌, arith, length-append, length-drop}
use Rattle.std.specs.Prelude.{Option, Some, None, nat_le, ◌==◌, if◌then◌else◌, cond, position, nat_lt}
use Rattle.std.specs.List.{position_or_len}
use Rattle.std.proofs.lemmas.List.{take-append-le, drop-append-le, drop_all, take_all, length-take}
use Rattle.std.proofs.lemmas.List.Folds.{prefix_len-append}
use Rattle.std.proofs.lemmas.List.Sums.{prefix_len-le-length}
use Rattle.std.proofs.lemmas.Bool.{leb-true, leb-false, le-leb, lt-leb, ltb-false, eq-eqb}
use Rattle.std.proofs.lemmas.Bool.Decides.{nat_tests, eqb_tells}
use Rattle.gate_model.specs.text.Reading.{IsHead}
use Rattle.script_grammar.specs.Pieces.{is_line_feed, piece_size, first_piece}

-- the bytes before the first line feed
before : List ℕ → ℕ
before xs = position_or_len is_line_feed xs

before-le : (xs : List ℕ) → before xs ≤ length xs
unfolding before
before-le xs = prefix_len-le-length (λ x. not (is_line_feed x)) xs

differ : (a b : ℕ) → a < b → (a == b) ≡ false
differ a b lt = grind (arith, nat_tests)

-- no line feed in the first list: the second one decides
before-append : (xs ys : List ℕ) → before xs ≡ length xs → before (xs ++ ys) ≡ length xs + before ys
unfolding before
before-append xs ys none = prefix_len-append (λ x. not (is_line_feed x)) xs ys ∙ (rw (eq-eqb (before xs) (length xs) none) refl)

before-found : (xs ys : List ℕ) → before xs < length xs → before (xs ++ ys) ≡ before xs
unfolding before
before-found xs ys found = prefix_len-append (λ x. not (is_line_feed x)) xs ys ∙ (rw (differ (before xs) (length xs) found) refl)

before-take : (n : ℕ) (xs : List ℕ) → before (take n xs) ≡ min n (before xs)
unfolding before
before-take zero xs = omega arith
before-take (suc n) [] = omega arith
before-take (suc n) (x ∷ xs) = cases (not (is_line_feed x)) (before-take n xs)
  where
    cases : (b : Bool) → before (take n xs) ≡ min n (before xs) → cond b (1 + before (take n xs)) 0 ≡ min (suc n) (cond b (1 + before xs) 0)
    cases true e = omega (arith, e)
    cases false e = omega arith

-- the place that `position` finds
pub position-is : (xs : List ℕ) (k : ℕ) → Some k ≡ position is_line_feed xs → k ≡ position_or_len is_line_feed xs
position-is xs k e = found (nat_lt (position_or_len is_line_feed xs) (length xs)) e
  where
    found : (b : Bool) → Some k ≡ cond b (Some (position_or_len is_line_feed xs)) None → k ≡ position_or_len is_line_feed xs
    found true q = cc
    found false q = cc

pub position-none : (xs : List ℕ) → None ≡ position is_line_feed xs → length xs ≡ position_or_len is_line_feed xs
position-none xs e = found (nat_lt (position_or_len is_line_feed xs) (length xs)) refl e
  where
    found : (b : Bool) → nat_lt (position_or_len is_line_feed xs) (length xs) ≡ b → None ≡ cond b (Some (position_or_len is_line_feed xs)) None → length xs ≡ position_or_len is_line_feed xs
    found true t q = absurd (let w : None ≡ Some (position_or_len is_line_feed xs) = q in cc)
    found false t q = omega (arith, ltb-false (position_or_len is_line_feed xs) (length xs) t, prefix_len-le-length (λ x. not (is_line_feed x)) xs)

module _ (most : ℕ) where
  -- a piece is whole where all of it is there
  pub whole-is : (xs : List ℕ) → piece_size most xs ≤ length xs → first_piece most xs ≡ Some (take (piece_size most xs) xs ∷ [], drop (piece_size most xs) xs)
  whole-is xs le = rw (le-leb (piece_size most xs) (length xs) le) refl

  pub unfinished-is : (xs : List ℕ) → length xs < piece_size most xs → first_piece most xs ≡ None
  unfinished-is xs lt = rw (lt-leb (piece_size most xs) (length xs) lt) refl

  pub whole-exactly : (xs : List ℕ) → piece_size most xs ≡ length xs → first_piece most xs ≡ Some (xs ∷ [], [])
  whole-exactly xs e =
      let t : take (piece_size most xs) xs ≡ xs = take_all (piece_size most xs) xs (omega arith) in
      let d : drop (piece_size most xs) xs ≡ [] = drop_all (piece_size most xs) xs (omega arith) in
      whole-is xs (omega arith) ∙ ap (λ (p : List (List ℕ) × List ℕ). Some p) (ap (λ (l : List ℕ). (l ∷ [], drop (piece_size most xs) xs)) t ∙ ap (λ (l : List ℕ). (xs ∷ [], l)) d)

  -- the piece and the rest, where the test says that the piece is there
  abbrev cut : Bool → List ℕ → Option (List (List ℕ) × List ℕ)
  cut b xs = if b then Some (take (piece_size most xs) xs ∷ [], drop (piece_size most xs) xs) else None

  -- what an unfinished piece is
  pub record IsBegun (piece : List ℕ) : Type 0 where
    pub short : length piece < most
    pub no_feed : position_or_len is_line_feed piece ≡ length piece

  pub begun : (piece : List ℕ) → first_piece most piece ≡ None → IsBegun piece
  begun piece e = cases (nat_le (piece_size most piece) (length piece)) refl e
    where
      cases : (b : Bool) → nat_le (piece_size most piece) (length piece) ≡ b → cut b piece ≡ None → IsBegun piece
      cases true t q = absurd (let w : Some (take (piece_size most piece) piece ∷ [], drop (piece_size most piece) piece) ≡ None = q in cc)
      cases false t q = let large : length piece < piece_size most piece = leb-false (piece_size most piece) (length piece) t in record {
        short = omega (arith, large);
        no_feed = omega (arith, large, prefix_len-le-length (λ x. not (is_line_feed x)) piece);
      }

  -- the part of more bytes that goes on with a piece
  size-part : (piece bytes : List ℕ) (count : ℕ) → IsBegun piece → piece_size most (piece ++ take count bytes) ≡ min (length piece + min count (position_or_len is_line_feed bytes) + 1) most
  unfolding before
  size-part piece bytes count b = ap (λ (n : ℕ). min (n + 1) most) (before-append piece (take count bytes) b.no_feed ∙ ap (λ (n : ℕ). length piece + n) (before-take count bytes))

  length-part : (piece bytes : List ℕ) (count : ℕ) → count ≤ length bytes → length (piece ++ take count bytes) ≡ length piece + count
  length-part piece bytes count le = length-append piece (take count bytes) ∙ ap (λ (n : ℕ). length piece + n) (length-take count bytes ∙ (omega arith))

  pub part-whole : (piece bytes : List ℕ) → first_piece most piece ≡ None → min (most - length piece) (position_or_len is_line_feed bytes + 1) ≤ length bytes
      → let count = min (most - length piece) (position_or_len is_line_feed bytes + 1) in first_piece most (piece ++ take count bytes) ≡ Some ((piece ++ take count bytes) ∷ [], [])
  part-whole piece bytes e le =
      let b = begun piece e in
      let count : ℕ = min (most - length piece) (position_or_len is_line_feed bytes + 1) in
      whole-exactly (piece ++ take count bytes) (size-part piece bytes count b ∙ ((omega (arith, b.short)) ∙ sym (length-part piece bytes count le)))

  pub part-unfinished : (piece bytes : List ℕ) → first_piece most piece ≡ None → length bytes < min (most - length piece) (position_or_len is_line_feed bytes + 1)
      → first_piece most (piece ++ take (length bytes) bytes) ≡ None
  part-unfinished piece bytes e lt =
      let b = begun piece e in
      unfinished-is (piece ++ take (length bytes) bytes) (omega (arith, b.short, size-part piece bytes (length bytes) b, length-part piece bytes (length bytes) (omega arith)))

  -- pieces are read the same however the input is cut
  size-more : (xs more : List ℕ) → piece_size most xs ≤ length xs → piece_size most (xs ++ more) ≡ piece_size most xs
  unfolding before
  size-more xs more le = cases (eqb_tells (before xs) (length xs))
    where
      cases : (((before xs == length xs) ≡ true) × (before xs ≡ length xs)) ⊎ (((before xs == length xs) ≡ false) × (before xs ≡ length xs → ⊥)) → piece_size most (xs ++ more) ≡ piece_size most xs
      cases (inl p) = omega (arith, before-append xs more p.1, p.1)
      cases (inr p) = omega (arith, before-found xs more (omega (arith, p.1, before-le xs)))

  pub pieces_are_read : 0 < most → IsHead (first_piece most)
  pieces_are_read some = record {
    shrinks = λ xs rest given e. shrink some xs rest given (nat_le (piece_size most xs) (length xs)) refl e;
    stable = λ xs more rest given e. keep xs more rest given (nat_le (piece_size most xs) (length xs)) refl e;
  }
    where
      shrink : 0 < most → (xs rest : List ℕ) (given : List (List ℕ)) (b : Bool) → nat_le (piece_size most xs) (length xs) ≡ b
          → cut b xs ≡ Some (given, rest) → length rest < length xs
      shrink some xs rest given true t q =
          let both : (take (piece_size most xs) xs ∷ [], drop (piece_size most xs) xs) ≡ (given, rest) = cc in
          let is : drop (piece_size most xs) xs ≡ rest = ap (λ (p : List (List ℕ) × List ℕ). p.1) both in
          omega (arith, leb-true (piece_size most xs) (length xs) t, length-drop (piece_size most xs) xs, ap length is)
      shrink some xs rest given false t q = absurd (let w : None ≡ Some (given, rest) = q in cc)

      keep : (xs more rest : List ℕ) (given : List (List ℕ)) (b : Bool) → nat_le (piece_size most xs) (length xs) ≡ b
          → cut b xs ≡ Some (given, rest) → first_piece most (xs ++ more) ≡ Some (given, rest ++ more)
      keep xs more rest given true t q =
          let le : piece_size most xs ≤ length xs = leb-true (piece_size most xs) (length xs) t in
          let same = size-more xs more le in
          let both : (take (piece_size most xs) xs ∷ [], drop (piece_size most xs) xs) ≡ (given, rest) = cc in
          let pair : take (piece_size most xs) xs ∷ [] ≡ given = ap (λ (p : List (List ℕ) × List ℕ). p.0) both in
          let is : drop (piece_size most xs) xs ≡ rest = ap (λ (p : List (List ℕ) × List ℕ). p.1) both in
          let takes : take (piece_size most (xs ++ more)) (xs ++ more) ≡ take (piece_size most xs) xs = ap (λ (n : ℕ). take n (xs ++ more)) same ∙ take-append-le (piece_size most xs) xs more le in
          let drops : drop (piece_size most (xs ++ more)) (xs ++ more) ≡ drop (piece_size most xs) xs ++ more = ap (λ (n : ℕ). drop n (xs ++ more)) same ∙ drop-append-le (piece_size most xs) xs more le in
          whole-is (xs ++ more) (omega (arith, same, length-append xs more))
          ∙ ap (λ (p : List (List ℕ) × List ℕ). Some p) (ap (λ (l : List ℕ). (l ∷ [], drop (piece_size most (xs ++ more)) (xs ++ more))) takes ∙ (ap (λ (l : List ℕ). (take (piece_size most xs) xs ∷ [], l)) drops ∙ (ap (λ (l : List (List ℕ)). (l, drop (piece_size most xs) xs ++ more)) pair ∙ ap (λ (l : List ℕ). (given, l ++ more)) is)))
      keep xs more rest given false t q = absurd (let w : None ≡ Some (given, rest) = q in cc)
