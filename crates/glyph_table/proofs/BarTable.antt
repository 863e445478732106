-- The bars of a face, from their table.
use Rattle.std.proofs.Common.{◌≡◌, ℕ, suc, ◌+◌, ◌-◌, ◌<◌, ◌≤◌, List, [], ◌∷◌, ◌++◌, length, map, take, drop, Bool, true, false, ◌&&◌, ◌||◌, ◌==◌, nat_le, get_or, slice_index, refl, ap, sym, ◌∙◌, subst, append_assoc, length-drop, arith}
use Rattle.std.specs.Prelude.{slice_range}
use Rattle.std.specs.List.{list_any}
use Rattle.std.proofs.lemmas.Grind.{common_steps}
use Rattle.std.proofs.lemmas.Bool.Decides.{nat_tests}
use Rattle.std.proofs.lemmas.List.{drop_more, get_or-drop, length-map, map-append, take_more}
use Rattle.gate_model.specs.picture.Lines.{Bar, bars, has_bars, is_on}
use Rattle.glyph_table.specs.declared.patch.Patch.{Patch}
use Rattle.glyph_table.specs.GlyphRects.{bar_codes, bar_of, bar_patch, bar_starts}
use Rattle.glyph_table.proofs.GlyphTests.{are_same_bars, entry_passes, is_same_bar, table_length, table_passes, all_below}
use Rattle.glyph_table.proofs.GlyphRects.{at_below, both, from_eq, from_le}

same_bar : (a b : Bar) → is_same_bar a b ≡ true → a ≡ b
unfolding is_same_bar
same_bar a b e =
    let p = both (a.x == b.x) _ e in
    let q = both (a.y == b.y) _ p.1 in
    let r = both (a.width == b.width) _ q.1 in
    let x = from_eq a.x b.x p.0 in
    let y = from_eq a.y b.y q.0 in
    let w = from_eq a.width b.width r.0 in
    let h = from_eq a.height b.height r.1 in
    ap (λ (n : ℕ). record { x = n; y = a.y; width = a.width; height = a.height }) x
    ∙ (ap (λ (n : ℕ). record { x = b.x; y = n; width = a.width; height = a.height }) y
    ∙ (ap (λ (n : ℕ). record { x = b.x; y = b.y; width = n; height = a.height }) w
    ∙ ap (λ (n : ℕ). record { x = b.x; y = b.y; width = b.width; height = n }) h))

same_bars : (others bs : List Bar) → are_same_bars others bs ≡ true → others ≡ bs
unfolding are_same_bars
same_bars [] [] e = refl
same_bars (a ∷ others) (b ∷ bs) e = let p = both (is_same_bar a b) (are_same_bars others bs) e in ap (λ (c : Bar). c ∷ others) (same_bar a b p.0) ∙ ap (λ (cs : List Bar). b ∷ cs) (same_bars others bs p.1)
same_bars [] (b ∷ bs) e = absurd (cc)
same_bars (a ∷ others) [] e = absurd (cc)

-- the part of the table that a face has
pub record Entry (face : ℕ) : Type 0 where
  pub ordered : slice_index bar_starts (face - 0x2500) ≤ slice_index bar_starts (face - 0x2500 + 1)
  pub ends : slice_index bar_starts (face - 0x2500 + 1) ≤ 685
  pub are : map bar_of (slice_range bar_codes (slice_index bar_starts (face - 0x2500)) (slice_index bar_starts (face - 0x2500 + 1))) ≡ bars face

pub entry : (face : ℕ) → has_bars face ≡ true → Entry face
unfolding entry_passes
entry face has =
    let p = both (nat_le 0x2500 face) (nat_le face 0x259F) has in
    let low = from_le 0x2500 face p.0 in
    let high = from_le face 0x259F p.1 in
    let n = face - 0x2500 in
    let first = slice_index bar_starts n in
    let end = slice_index bar_starts (n + 1) in
    let same : 0x2500 + n ≡ face = omega (arith, low) in
    let q = both (nat_le first end) _ (at_below (entry_passes bar_codes bar_starts) 160 n table_passes (omega (arith, low, high))) in
    let r = both (nat_le end 685) _ q.1 in
    record { ordered = from_le first end q.0; ends = from_le end 685 r.0; are = same_bars _ _ r.1 ∙ ap bars same }

-- one bar more
range_more : (xs : List ℕ) (from i : ℕ) → from ≤ i → i < length xs → slice_range xs from (i + 1) ≡ slice_range xs from i ++ get_or xs i 0 ∷ []
range_more xs from i le lt =
    let more : i + 1 - from ≡ (i - from) + 1 = omega (arith, le) in
    let back : from + (i - from) ≡ i = omega (arith, le) in
    ap (λ (n : ℕ). take n (drop from xs)) more
    ∙ (take_more (drop from xs) (i - from) 0 (omega (arith, le, lt, length-drop from xs))
    ∙ ap (λ (n : ℕ). take (i - from) (drop from xs) ++ n ∷ []) (get_or-drop from xs (i - from) 0 ∙ ap (λ (k : ℕ). get_or xs k 0) back))

range_none : (xs : List ℕ) (from : ℕ) → slice_range xs from from ≡ []
range_none xs from = grind (arith, common_steps)

range_next : (xs : List ℕ) (i to : ℕ) → i < to → to ≤ length xs → slice_range xs i to ≡ get_or xs i 0 ∷ slice_range xs (i + 1) to
range_next xs i to lt le =
    let more : to - i ≡ suc (to - (i + 1)) = omega (arith, lt) in
    ap (λ (n : ℕ). take n (drop i xs)) more ∙ ap (λ (rest : List ℕ). take (suc (to - (i + 1))) rest) (drop_more xs i 0 (omega (arith, lt, le)))

pub patches_none : (under : Bool) (from : ℕ) → map (bar_patch under) (map bar_of (slice_range bar_codes from from)) ≡ []
patches_none under from = ap (λ (codes : List ℕ). map (bar_patch under) (map bar_of codes)) (range_none bar_codes from)

pub patches_more : (now new : List Patch) (under : Bool) (from i code : ℕ) (patch : Patch) → from ≤ i → i < 685 → code ≡ slice_index bar_codes i → patch ≡ bar_patch under (bar_of code)
    → now ≡ map (bar_patch under) (map bar_of (slice_range bar_codes from i)) → new ≡ now ++ patch ∷ []
    → new ≡ map (bar_patch under) (map bar_of (slice_range bar_codes from (i + 1)))
patches_more now new under from i code patch le lt is_code is_patch is added =
    added ∙ (ap (λ (ps : List Patch). ps ++ patch ∷ []) is
    ∙ (ap (λ (p : Patch). map (bar_patch under) (map bar_of (slice_range bar_codes from i)) ++ p ∷ []) (is_patch ∙ ap (λ (c : ℕ). bar_patch under (bar_of c)) is_code)
    ∙ sym (ap (λ (codes : List ℕ). map (bar_patch under) (map bar_of codes)) (range_more bar_codes from i le (omega (arith, lt, table_length)))
    ∙ (ap (map (bar_patch under)) (map-append bar_of (slice_range bar_codes from i) (slice_index bar_codes i ∷ []))
    ∙ map-append (bar_patch under) (map bar_of (slice_range bar_codes from i)) (bar_of (slice_index bar_codes i) ∷ [])))))

pub any_next : (x y i to code : ℕ) → i < to → to ≤ 685 → code ≡ slice_index bar_codes i
    → list_any (is_on x y) (map bar_of (slice_range bar_codes i to)) ≡ (is_on x y (bar_of code) || list_any (is_on x y) (map bar_of (slice_range bar_codes (i + 1) to)))
any_next x y i to code lt le is =
    ap (λ (codes : List ℕ). list_any (is_on x y) (map bar_of codes)) (range_next bar_codes i to lt (omega (arith, le, table_length)))
    ∙ ap (λ (c : ℕ). is_on x y (bar_of c) || list_any (is_on x y) (map bar_of (slice_range bar_codes (i + 1) to))) (sym is)

pub any_none : (x y to : ℕ) → list_any (is_on x y) (map bar_of (slice_range bar_codes to to)) ≡ false
any_none x y to = ap (λ (codes : List ℕ). list_any (is_on x y) (map bar_of codes)) (range_none bar_codes to)

pub any_to : (x y i to : ℕ) → i ≡ to → list_any (is_on x y) (map bar_of (slice_range bar_codes i to)) ≡ false
any_to x y i to e = ap (λ (k : ℕ). list_any (is_on x y) (map bar_of (slice_range bar_codes k to))) e ∙ any_none x y to

pub or_true : (a b : Bool) → a ≡ true → (a || b) ≡ true
or_true a b e = rw e refl

pub or_false : (a b : Bool) → a ≡ false → (a || b) ≡ b
or_false a b e = rw e refl

-- a part of a face's bars isn't longer than all of them
length-range : (xs : List ℕ) (from to : ℕ) → to ≤ length xs → length (slice_range xs from to) ≡ to - from
length-range xs from to le = grind (arith, common_steps)

pub patches_few : (face : ℕ) (under : Bool) (i : ℕ) → i ≤ slice_index bar_starts (face - 0x2500 + 1) → Entry face
    → length (map (bar_patch under) (map bar_of (slice_range bar_codes (slice_index bar_starts (face - 0x2500)) i))) ≤ length (bars face)
patches_few face under i le e =
    let first = slice_index bar_starts (face - 0x2500) in
    let end = slice_index bar_starts (face - 0x2500 + 1) in
    omega (
      arith,
      le,
      e.ends,
      table_length,
      length-map (map bar_of (slice_range bar_codes first i)) (bar_patch under),
      length-map (slice_range bar_codes first i) bar_of,
      length-range bar_codes first i (omega (arith, le, e.ends, table_length)),
      ap length e.are,
      length-map (slice_range bar_codes first end) bar_of,
      length-range bar_codes first end (omega (arith, e.ends, table_length)),
    )
