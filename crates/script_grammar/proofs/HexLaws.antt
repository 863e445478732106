-- Bytes from pairs of hexadecimal digits, pair by pair.
use Rattle.std.proofs.Common.{◌≡◌, ℕ, zero, suc, ◌+◌, ◌*◌, ◌<◌, ◌%◌, List, [], ◌∷◌, ◌++◌, length, drop, refl, ap, sym, ◌∙◌, arith, append_assoc, append-nil, slice_index_or, length-drop}
use native.Mathlib.Numerals.{unary_clauses}
use Rattle.std.specs.Prelude.{Option, Some, None}
use Rattle.std.specs.Option.{option_map}
use Rattle.script_grammar.specs.Hexadecimal.{byte_of, before_bytes, bytes_of, digit_of}

-- an odd number of digits writes no bytes
pub odd_is_none : (digits : List ℕ) → length digits % 2 ≡ 1 → None ≡ bytes_of digits
odd_is_none [] e = absurd (omega (arith, e))
odd_is_none (d ∷ []) e = refl
odd_is_none (high ∷ low ∷ digits) e = before-none (byte_of (digit_of high) (digit_of low)) (bytes_of digits) (odd_is_none digits (omega (arith, e)))
  where
    before-none : (b : Option ℕ) (bs : Option (List ℕ)) → None ≡ bs → None ≡ before_bytes b bs
    before-none None bs none = refl
    before-none (Some b) None none = refl
    before-none (Some b) (Some bs) none = cc

-- the bytes so far, before those of the rest
abbrev pub join_bytes : List ℕ → Option (List ℕ) → Option (List ℕ)
join_bytes bytes rest = option_map (λ r. bytes ++ r) rest

join-more : (bytes : List ℕ) (b : ℕ) (rest : Option (List ℕ)) → join_bytes bytes (before_bytes (Some b) rest) ≡ join_bytes (bytes ++ b ∷ []) rest
join-more bytes b None = refl
join-more bytes b (Some r) = ap (λ (l : List ℕ). Some l) (sym (append_assoc bytes (b ∷ []) r))

drop-pair : (digits : List ℕ) (i d : ℕ) → i + 1 < length digits → drop i digits ≡ slice_index_or digits i d ∷ slice_index_or digits (i + 1) d ∷ drop (i + 2) digits
drop-pair [] i d lt = absurd (omega (arith, lt))
drop-pair (x ∷ []) i d lt = absurd (omega (arith, lt))
drop-pair (x ∷ y ∷ ds) zero d lt = refl
drop-pair (x ∷ y ∷ ds) (suc i) d lt = let h = drop-pair (y ∷ ds) i d (omega (arith, lt)) in simp unary_clauses (simp unary_clauses at h)

-- one pair more
pub pair_more : (digits bytes : List ℕ) (k b : ℕ) → 2 * k + 1 < length digits → bytes_of digits ≡ join_bytes bytes (bytes_of (drop (2 * k) digits)) → Some b ≡ byte_of (digit_of (slice_index_or digits (2 * k) 0)) (digit_of (slice_index_or digits (2 * k + 1) 0))
    → bytes_of digits ≡ join_bytes (bytes ++ b ∷ []) (bytes_of (drop (2 * (k + 1)) digits))
pair_more digits bytes k b lt so_far is =
    let next : 2 * k + 2 ≡ 2 * (k + 1) = omega arith in
    so_far ∙ (ap (λ (l : List ℕ). join_bytes bytes (bytes_of l)) (drop-pair digits (2 * k) 0 lt) ∙ (ap (λ (o : Option ℕ). join_bytes bytes (before_bytes o (bytes_of (drop (2 * k + 2) digits)))) (sym is)
    ∙ (join-more bytes b (bytes_of (drop (2 * k + 2) digits)) ∙ ap (λ (n : ℕ). join_bytes (bytes ++ b ∷ []) (bytes_of (drop n digits))) next)))

-- a pair that is no byte
pub pair_none : (digits bytes : List ℕ) (k : ℕ) → 2 * k + 1 < length digits → bytes_of digits ≡ join_bytes bytes (bytes_of (drop (2 * k) digits)) → None ≡ byte_of (digit_of (slice_index_or digits (2 * k) 0)) (digit_of (slice_index_or digits (2 * k + 1) 0))
    → None ≡ bytes_of digits
pair_none digits bytes k lt so_far is = sym (so_far ∙ (ap (λ (l : List ℕ). join_bytes bytes (bytes_of l)) (drop-pair digits (2 * k) 0 lt) ∙ ap (λ (o : Option ℕ). join_bytes bytes (before_bytes o (bytes_of (drop (2 * k + 2) digits)))) (sym is)))

-- after the last pair
pub pairs_done : (digits bytes : List ℕ) (k : ℕ) → length digits ≡ 2 * k → bytes_of digits ≡ join_bytes bytes (bytes_of (drop (2 * k) digits)) → Some bytes ≡ bytes_of digits
pairs_done digits bytes k all so_far = sym (so_far ∙ (ap (λ (l : List ℕ). join_bytes bytes (bytes_of l)) (empty (drop (2 * k) digits) (omega (arith, length-drop (2 * k) digits, all))) ∙ ap (λ (l : List ℕ). Some l) (append-nil bytes)))
  where
    empty : (l : List ℕ) → length l ≡ 0 → l ≡ []
    empty [] e = refl
    empty (x ∷ xs) e = absurd (omega (arith, e))

pub none_yet : (digits : List ℕ) (bytes : List ℕ) → bytes ≡ [] → bytes_of digits ≡ join_bytes bytes (bytes_of (drop (2 * 0) digits))
none_yet digits bytes e = rw e (same (bytes_of digits))
  where
    same : (o : Option (List ℕ)) → o ≡ join_bytes [] o
    same None = refl
    same (Some r) = refl
