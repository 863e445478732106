-- Bytes in a room.
use Rattle.std.proofs.Common.{◌≡◌, ℕ, ◌+◌, ◌-◌, ◌≤◌, List, ◌++◌, length, length-drop, take, drop, ap, sym, ◌∙◌, arith}
use Rattle.std.proofs.lemmas.List.{take_all, take-append-le, drop-drop, drop-take, length-take-le}
use Rattle.std.proofs.Math.Seq.{take-append-add}

-- the bytes of a slice from a place on
pub rest_slice : (at : ℕ) (xs : List ℕ) → take (length xs - at) (drop at xs) ≡ drop at xs
rest_slice at xs = take_all (length xs - at) (drop at xs) (omega (arith, length-drop at xs))

-- the bytes from a place to another
abbrev pub part : ℕ → ℕ → List ℕ → List ℕ
part start end bytes = take (end - start) (drop start bytes)

pub length-part : (start end : ℕ) (bytes : List ℕ) → start ≤ end → end ≤ length bytes → length (part start end bytes) ≡ end - start
length-part start end bytes a b = length-take-le (end - start) (drop start bytes) (omega (arith, length-drop start bytes))

pub part-pass : (start end count : ℕ) (bytes : List ℕ) → start ≤ end → count ≤ end - start → part (start + count) end bytes ≡ drop count (part start end bytes)
part-pass start end count bytes a b =
    let left : end - (start + count) ≡ end - start - count = omega arith in
    let whole : end - start ≡ count + (end - start - count) = omega arith in
    ap (λ m. take m (drop (start + count) bytes)) left
    ∙ ap (take (end - start - count)) (sym (drop-drop count start bytes))
    ∙ sym (drop-take count (end - start - count) (drop start bytes))
    ∙ ap (λ m. drop count (take m (drop start bytes))) (sym whole)

-- behind the bytes at the room's front more are put
pub part-more : (start end count : ℕ) (bytes turned into rest : List ℕ) → start ≤ end → end ≤ length bytes → turned ≡ drop start bytes ++ take start bytes → count ≤ length into
    → take (end - start + count) (take (end - start) turned ++ (into ++ rest)) ≡ part start end bytes ++ take count into
part-more start end count bytes turned into rest a b e few =
    let k = end - start in
    let front : take k turned ≡ part start end bytes = ap (take k) e ∙ take-append-le k (drop start bytes) (take start bytes) (omega (arith, length-drop start bytes)) in
    let long : length (take k turned) ≡ k = ap length front ∙ length-part start end bytes a b in
    ap (λ m. take (m + count) (take k turned ++ (into ++ rest))) (sym long)
    ∙ take-append-add (take k turned) (into ++ rest) count
    ∙ ap (λ x. take k turned ++ x) (take-append-le count into rest few)
    ∙ ap (λ x. x ++ take count into) front
