-- The rectangles of a glyph cover exactly its lit pixels, stand apart, are few and lie in the cell: from the computed tests to the rule for every face.
use Rattle.std.proofs.Common.{◌≡◌, ℕ, zero, suc, ◌+◌, ◌-◌, ◌*◌, ◌%◌, ◌^◌, ◌<◌, ◌≤◌, List, [], ◌∷◌, ◌++◌, length, map, Bool, true, false, ◌&&◌, ◌||◌, ◌==◌, if◌then◌else◌, nat_le, nat_lt, get_or, slice_index, refl, ap, sym, subst, ◌∙◌, append_assoc, append-nil, length-append, inl, inr, Option, Some, None, arith}
use Rattle.std.specs.List.{list_any, list_all, All, AllPairs}
use Rattle.std.proofs.lemmas.Bool.{cases_lt}
use Rattle.std.proofs.lemmas.Bool.Decides.{nat_tests}
use Rattle.std.proofs.lemmas.List.{get_or_default, get_or_past, length-map}
use Rattle.std.proofs.lemmas.List.Elements.{All-cons}
use Rattle.std.proofs.lemmas.List.Kept.{AllPairs-cons}
use Rattle.std.proofs.lemmas.Nat.{one_shl}
use Rattle.glyph_table.specs.declared.patch.Patch.{Patch}
use Rattle.gate_model.specs.picture.Font.{font, box, left_box, right_box}
use Rattle.gate_model.specs.picture.Glyphs.{columns_by, columns_of, in_columns, in_face, is_ascii, left_face, moved_down, right_face, lit}
use Rattle.gate_model.specs.picture.Letters.{letter_columns, letters, more_columns, number_of, signs}
use Rattle.gate_model.specs.picture.Lines.{bars, has_bars, is_on}
use Rattle.glyph_table.specs.GlyphRects.{IsApart, IsInside, covers, first_bit, end_bit, goes_on, has_run, run_rects, run_end, underline, bar_patch, rects, with_underline, columns_rects, column_rects, runs_within, without_run}
use Rattle.glyph_table.proofs.GlyphTests.{all_below, both_or_neither, covers_pixel, covers_all, is_beside, all_beside, is_inside, rects_pass, columns_under, glyph_passes, bars_under, bars_pass, font_passes, box_passes, left_passes, right_passes, letters_pass, signs_pass, lines_pass, bars_are_few, left_after, column_passes, columns_pass}

pub both : (a b : Bool) → (a && b) ≡ true → (a ≡ true) × (b ≡ true)
both true b e = (refl, e)
both false b e = absurd (cc)

same : (a b : Bool) → both_or_neither a b ≡ true → a ≡ b
unfolding both_or_neither
same true true e = refl
same true false e = absurd (cc)
same false true e = absurd (cc)
same false false e = refl

is_zero : (b : ℕ) → 0 < b → (b == 0) ≡ false
is_zero b h = grind (arith, nat_tests)

from_lt : (a b : ℕ) → nat_lt a b ≡ true → a < b
from_lt a b e = grind (arith, nat_tests)

pub from_le : (a b : ℕ) → nat_le a b ≡ true → a ≤ b
from_le a b e = grind (arith, nat_tests)

pub from_eq : (a b : ℕ) → (a == b) ≡ true → a ≡ b
from_eq a b e = grind (arith, nat_tests)

pub at_below : (p : ℕ → Bool) (n k : ℕ) → all_below p n ≡ true → k < n → p k ≡ true
unfolding all_below
at_below p zero k e lt = absurd (omega arith)
at_below p (suc n) k e lt =
    let parts = both (p n) (all_below p n) e in
    elim (cases_lt k n) [ inl h ↦ at_below p n k parts.1 h | inr h ↦ (let e : n ≡ k = omega arith in subst (λ (j : ℕ). p j ≡ true) e parts.0) ]

at_place : {X : Type 0} (p : X → Bool) (xs : List X) (i : ℕ) (d : X) → list_all p xs ≡ true → p d ≡ true → p (get_or xs i d) ≡ true
at_place p [] i d e h = h
at_place p (x ∷ xs) zero d e h = (both (p x) (list_all p xs) e).0
at_place p (x ∷ xs) (suc i) d e h = at_place p xs i d (both (p x) (list_all p xs) e).1 h

chosen : {X : Type 0} (p : X → Bool) (b : Bool) (x y : X) → p x ≡ true → p y ≡ true → p (if b then x else y) ≡ true
chosen p true x y h k = h
chosen p false x y h k = k

at_map : {X Y : Type 0} (f : X → Y) (xs : List X) (i : ℕ) (d : X) → get_or (map f xs) i (f d) ≡ f (get_or xs i d)
at_map f [] i d = refl
at_map f (x ∷ xs) zero d = refl
at_map f (x ∷ xs) (suc i) d = at_map f xs i d

both_lists : {X : Type 0} (p : X → Bool) (xs ys : List X) → list_all p xs ≡ true → list_all p ys ≡ true → list_all p (xs ++ ys) ≡ true
both_lists p [] ys h k = k
both_lists p (x ∷ xs) ys h k = let q = both (p x) (list_all p xs) h in rw q.0 (both_lists p xs ys q.1 k)

-- every face that is made of columns
ascii_passes : (i : ℕ) → glyph_passes (moved_down (get_or font i box)) ≡ true
ascii_passes i = subst (λ (columns : List ℕ). glyph_passes columns ≡ true) (at_map moved_down font i box) (at_place glyph_passes (map moved_down font) i (moved_down box) font_passes box_passes)

more_passes : (number : Option ℕ) → glyph_passes (columns_by number) ≡ true
more_passes None = box_passes
more_passes (Some n) = at_place glyph_passes more_columns n (moved_down box) (both_lists glyph_passes (map letter_columns letters) signs letters_pass signs_pass) box_passes

face_passes : (face : ℕ) → glyph_passes (columns_of face) ≡ true
face_passes face = chosen glyph_passes (is_ascii face) _ _ (ascii_passes (face - 32))
    (chosen glyph_passes (face == left_face) (moved_down left_box) _ left_passes (chosen glyph_passes (face == right_face) (moved_down right_box) _ right_passes (more_passes (number_of face))))

columns_pass_of : (face : ℕ) (under : Bool) → columns_under under (columns_of face) ≡ true
unfolding glyph_passes
columns_pass_of face true = (both _ _ (face_passes face)).0
columns_pass_of face false = (both _ _ (face_passes face)).1

-- .. and every other one
lines_pass_of : (face : ℕ) (under : Bool) → has_bars face ≡ true → bars_under under (bars face) ≡ true
unfolding bars_pass
lines_pass_of face under has =
    let p = both (nat_le 0x2500 face) (nat_le face 0x259F) has in
    let low = from_le 0x2500 face p.0 in
    let high = from_le face 0x259F p.1 in
    let same : 0x2500 + (face - 0x2500) ≡ face = omega (arith, low) in
    let passes : bars_pass (bars face) ≡ true = subst (λ (f : ℕ). bars_pass (bars f) ≡ true) same (at_below (λ n. bars_pass (bars (0x2500 + n))) 160 (face - 0x2500) lines_pass (omega (arith, low, high))) in
    by under (both _ _ passes)
  where
    by : (u : Bool) → (bars_under true (bars face) ≡ true) × (bars_under false (bars face) ≡ true) → bars_under u (bars face) ≡ true
    by true q = q.0
    by false q = q.1

-- the rectangles of a face, tested against its pixels
abbrev Tested : ℕ → Bool → Bool → Type 0
Tested face under has =
    rects_pass under (with_underline under (if has then map (bar_patch under) (bars face) else columns_rects 5 under (columns_of face)))
    (λ x y. if has then list_any (is_on x y) (bars face) else in_columns (columns_of face) x y) ≡ true

rects_of_face : (face : ℕ) (under : Bool) → rects_pass under (rects face under) (in_face face) ≡ true
unfolding rects columns_under bars_under
rects_of_face face under = pick (has_bars face) refl
  where
    pick : (b : Bool) → has_bars face ≡ b → Tested face under b
    pick true e = lines_pass_of face under e
    pick false e = columns_pass_of face under

pub columns_row : (other : List ℕ) (face : ℕ) → 32 ≤ face → face ≤ 126
    → get_or (map moved_down font) (face - 32) [] ≡ (if is_ascii face then moved_down (get_or font (face - 32) box) else other)
columns_row other face low high =
    let within : face - 32 < length (map moved_down font) = omega arith in
    get_or_default (map moved_down font) (face - 32) [] (moved_down box) within ∙ (at_map moved_down font (face - 32) box ∙ grind (arith, nat_tests))

-- ---- one run of a column after the other
pub record IsStep (b : ℕ) : Type 0 where
  pub shift : 1 * 2 ^ first_bit b % 65536 ≡ 2 ^ first_bit b
  pub some : first_bit b < end_bit b
  pub eight : end_bit b ≤ 8
  pub less : without_run b < b
  pub fits : b + 2 ^ first_bit b ≤ 256
  pub none_left : left_after 4 b ≡ 0

five : (a b c d e : Bool) → (a && (b && (c && (d && e)))) ≡ true → (a ≡ true) × (b ≡ true) × (c ≡ true) × (d ≡ true) × (e ≡ true)
five a b c d e h =
    let p = both a (b && (c && (d && e))) h in
    let q = both b (c && (d && e)) p.1 in
    let r = both c (d && e) q.1 in
    let s = both d e r.1 in
    (p.0, q.0, r.0, s.0, s.1)

unless : (a b : Bool) → a ≡ false → (a || b) ≡ true → b ≡ true
unless true b e h = absurd (cc)
unless false b e h = h

pub step : (b : ℕ) → 0 < b → b < 256 → IsStep b
unfolding column_passes
step b some below =
    let p = five (nat_lt (first_bit b) (end_bit b)) (nat_le (end_bit b) 8) (nat_lt (without_run b) b) (nat_le (b + 2 ^ first_bit b) 256) (left_after 4 b == 0)
    (unless (b == 0) _ (is_zero b some) (at_below column_passes 256 b columns_pass below)) in
    let lt = from_lt (first_bit b) (end_bit b) p.0 in
    let le = from_le (end_bit b) 8 p.1 in
    let small : first_bit b < 16 = omega arith in
    record {
      shift = one_shl (first_bit b) 16 small;
      some = lt;
      eight = le;
      less = from_lt (without_run b) b p.2;
      fits = from_le (b + 2 ^ first_bit b) 256 p.3;
      none_left = from_eq (left_after 4 b) 0 p.4;
    }

-- more turns than there are runs change nothing
enough : (n i : ℕ) (under : Bool) (columns : List ℕ) (b : ℕ) → left_after n b ≡ 0 → runs_within (suc n) i under columns b ≡ runs_within n i under columns b
unfolding runs_within left_after
enough zero i under columns b e = rw e refl
enough (suc n) i under columns b e =
    ap (λ (rest : List Patch). if b == 0 then [] else (run_rects i under columns (first_bit b) (end_bit b) ++ rest)) (enough n i under columns (without_run b) e)

chosen_else : {X : Type 0} (b : Bool) (x y : X) → b ≡ false → (if b then x else y) ≡ y
chosen_else true x y e = absurd (cc)
chosen_else false x y e = refl

column_step : (i : ℕ) (under : Bool) (columns : List ℕ) (b : ℕ) → 0 < b → b < 256
    → column_rects i under columns b ≡ run_rects i under columns (first_bit b) (end_bit b) ++ column_rects i under columns (without_run b)
unfolding column_rects runs_within left_after
column_step i under columns b some below =
    chosen_else (b == 0) _ _ (grind (arith, nat_tests))
    ∙ ap (λ (rest : List Patch). run_rects i under columns (first_bit b) (end_bit b) ++ rest) (sym (enough 3 i under columns (without_run b) (step b some below).none_left))

column_end : (i : ℕ) (under : Bool) (columns : List ℕ) → column_rects i under columns 0 ≡ []
unfolding column_rects runs_within
column_end i under columns = refl

few_chosen : (b : Bool) (p : Patch) → length (if b then [] else (p ∷ [])) ≤ 1
few_chosen true p = omega arith
few_chosen false p = omega arith

run_few : (i : ℕ) (under : Bool) (columns : List ℕ) (first end : ℕ) → length (run_rects i under columns first end) ≤ 1
unfolding run_rects
run_few i under columns first end = few_chosen (goes_on first end columns i) _

few_either : (zero : Bool) (firsts rest : List Patch) (n : ℕ) → length firsts ≤ 1 → length rest ≤ n → length (if zero then [] else (firsts ++ rest)) ≤ suc n
few_either true firsts rest n one le = omega arith
few_either false firsts rest n one le = omega (arith, one, le, length-append firsts rest)

few_within : (n i : ℕ) (under : Bool) (columns : List ℕ) (b : ℕ) → length (runs_within n i under columns b) ≤ n
unfolding runs_within
few_within zero i under columns b = omega arith
few_within (suc n) i under columns b = few_either (b == 0) _ _ n (run_few i under columns (first_bit b) (end_bit b)) (few_within n i under columns (without_run b))

column_few : (i : ℕ) (under : Bool) (columns : List ℕ) (b : ℕ) → length (column_rects i under columns b) ≤ 4
unfolding column_rects
column_few i under columns b = few_within 4 i under columns b

-- there is room for what the next run adds
pub room : (now old : List Patch) (i : ℕ) (under : Bool) (columns : List ℕ) (b column : ℕ) → 0 < b → b < 256 → length old + 4 ≤ 21
    → now ++ column_rects i under columns b ≡ old ++ column_rects i under columns column → length now + length (run_rects i under columns (first_bit b) (end_bit b)) ≤ 21
room now old i under columns b column some below le e =
    let runs = run_rects i under columns (first_bit b) (end_bit b) in
    let rest = column_rects i under columns (without_run b) in
    omega (
      arith,
      le,
      ap length e,
      column_few i under columns column,
      length-append now (column_rects i under columns b),
      length-append old (column_rects i under columns column),
      ap length (column_step i under columns b some below),
      length-append runs rest,
    )

-- a run moves from what is left to what is there
pub run_added : (now new : List Patch) (i : ℕ) (under : Bool) (columns : List ℕ) (b : ℕ) (all : List Patch) → 0 < b → b < 256
    → new ≡ now ++ run_rects i under columns (first_bit b) (end_bit b)
    → now ++ column_rects i under columns b ≡ all → new ++ column_rects i under columns (without_run b) ≡ all
run_added now new i under columns b all some below added e =
    ap (λ (has : List Patch). has ++ column_rects i under columns (without_run b)) added
    ∙ (append_assoc now (run_rects i under columns (first_bit b) (end_bit b)) (column_rects i under columns (without_run b))
    ∙ (ap (λ (rest : List Patch). now ++ rest) (sym (column_step i under columns b some below)) ∙ e))

pub ends : (now : List Patch) (i : ℕ) (under : Bool) (columns : List ℕ) (b : ℕ) (all : List Patch) → b ≡ 0 → now ++ column_rects i under columns b ≡ all → now ≡ all
ends now i under columns b all none e =
    sym (append-nil now) ∙ (ap (λ (rest : List Patch). now ++ rest) (sym (ap (column_rects i under columns) none ∙ column_end i under columns)) ∙ e)

-- ---- over how many columns a run goes
chosen_then : {X : Type 0} (b : Bool) (x y : X) → b ≡ true → (if b then x else y) ≡ x
chosen_then true x y e = refl
chosen_then false x y e = absurd (cc)

run_end_next : (n first end : ℕ) (columns : List ℕ) (j : ℕ) → run_end (suc n) first end columns j ≡ (if has_run first end (slice_index columns j) then run_end n first end columns (j + 1) else j)
unfolding run_end
run_end_next n first end columns j = refl

left_more : (first end : ℕ) (columns : List ℕ) (j : ℕ) → j < 5
    → run_end (5 - j) first end columns j ≡ (if has_run first end (slice_index columns j) then run_end (5 - (j + 1)) first end columns (j + 1) else j)
left_more first end columns j lt =
    let next : 5 - j ≡ suc (5 - (j + 1)) = omega arith in
    ap (λ (n : ℕ). run_end n first end columns j) next ∙ run_end_next (5 - (j + 1)) first end columns j

pub run_goes_on : (first end : ℕ) (columns : List ℕ) (j : ℕ) → j < 5 → has_run first end (slice_index columns j) ≡ true
    → run_end (5 - j) first end columns j ≡ run_end (5 - (j + 1)) first end columns (j + 1)
run_goes_on first end columns j lt has = left_more first end columns j lt ∙ chosen_then _ _ _ has

pub run_stops : (first end : ℕ) (columns : List ℕ) (j : ℕ) → j < 5 → has_run first end (slice_index columns j) ≡ false → run_end (5 - j) first end columns j ≡ j
run_stops first end columns j lt none = left_more first end columns j lt ∙ chosen_else _ _ _ none

pub run_out : (first end : ℕ) (columns : List ℕ) (j : ℕ) → j ≡ 5 → run_end (5 - j) first end columns j ≡ 5
unfolding run_end
run_out first end columns j e =
    let none : 5 - j ≡ 0 = omega arith in
    ap (λ (n : ℕ). run_end n first end columns j) none ∙ e

-- ---- the columns, one after the other
pub columns_none : (under : Bool) (columns : List ℕ) → columns_rects 0 under columns ≡ []
unfolding columns_rects
columns_none under columns = refl

columns_more : (n : ℕ) (under : Bool) (columns : List ℕ) → columns_rects (n + 1) under columns ≡ columns_rects n under columns ++ column_rects n under columns (slice_index columns n)
unfolding columns_rects
columns_more n under columns =
    let next : suc n ≡ n + 1 = omega arith in
    subst (λ (m : ℕ). columns_rects m under columns ≡ columns_rects n under columns ++ column_rects n under columns (slice_index columns n)) next refl

pub columns_few : (n : ℕ) (under : Bool) (columns : List ℕ) → length (columns_rects n under columns) ≤ 4 * n
unfolding columns_rects
columns_few zero under columns = omega arith
columns_few (suc n) under columns = omega (arith, columns_few n under columns, column_few n under columns (slice_index columns n), length-append (columns_rects n under columns) (column_rects n under columns (slice_index columns n)))

-- ---- the rule
four : (a b c d : Bool) → (a && (b && (c && d))) ≡ true → (a ≡ true) × (b ≡ true) × (c ≡ true) × (d ≡ true)
four a b c d h =
    let p = both a (b && (c && d)) h in
    let q = both b (c && d) p.1 in
    let r = both c d q.1 in
    (p.0, q.0, r.0, r.1)

record Passes (face : ℕ) (under : Bool) : Type 0 where
  covers_lit : covers_all under (rects face under) (in_face face) ≡ true
  beside : all_beside (rects face under) ≡ true
  few : nat_le (length (rects face under)) 21 ≡ true
  inside : list_all is_inside (rects face under) ≡ true

passes : (face : ℕ) (under : Bool) → Passes face under
unfolding rects_pass
passes face under =
    let p = four (covers_all under (rects face under) (in_face face)) (all_beside (rects face under)) (nat_le (length (rects face under)) 21) (list_all is_inside (rects face under)) (rects_of_face face under) in
    record { covers_lit = p.0; beside = p.1; few = p.2; inside = p.3 }

pub rects_cover : (face : ℕ) (under : Bool) (x y : ℕ) → x < 8 → y < 16 → list_any (λ p. covers p x y) (rects face under) ≡ lit face under x y
unfolding lit covers_all covers_pixel
rects_cover face under x y in_x in_y =
    same (list_any (λ p. covers p x y) (rects face under)) (lit face under x y)
    (at_below (λ j. covers_pixel under (rects face under) (in_face face) x j) 16 y
    (at_below (λ i. all_below (λ j. covers_pixel under (rects face under) (in_face face) i j) 16) 8 x (passes face under).covers_lit in_x)
    in_y)

pub rects_few : (face : ℕ) (under : Bool) → length (rects face under) ≤ 21
rects_few face under = from_le _ 21 (passes face under).few

inside_from : (p : Patch) → is_inside p ≡ true → IsInside p
unfolding is_inside
inside_from p e =
    let q = four (nat_le 1 p.width) (nat_le 1 p.height) (nat_le (p.x + p.width) 8) (nat_le (p.y + p.height) 16) e in
    record { wide = from_le 1 p.width q.0; high = from_le 1 p.height q.1; in_columns = from_le (p.x + p.width) 8 q.2; in_rows = from_le (p.y + p.height) 16 q.3 }

all_inside : (ps : List Patch) → list_all is_inside ps ≡ true → All IsInside ps
all_inside [] e = λ k d lt. absurd (omega arith)
all_inside (p ∷ ps) e =
    let q = both (is_inside p) (list_all is_inside ps) e in
    All-cons IsInside p ps (inside_from p q.0) (all_inside ps q.1)

pub rects_inside : (face : ℕ) (under : Bool) → All IsInside (rects face under)
rects_inside face under = all_inside (rects face under) (passes face under).inside

beside_apart : (p q : Patch) → is_beside p q ≡ true → IsApart p q
unfolding is_beside
beside_apart p q e x y in_p in_q = grind (arith, nat_tests)

each_apart : (p : Patch) (ps : List Patch) → list_all (is_beside p) ps ≡ true → All (IsApart p) ps
each_apart p [] e = λ k d lt. absurd (omega arith)
each_apart p (q ∷ qs) e =
    let r = both (is_beside p q) (list_all (is_beside p) qs) e in
    All-cons (IsApart p) q qs (beside_apart p q r.0) (each_apart p qs r.1)

all_apart : (ps : List Patch) → all_beside ps ≡ true → AllPairs IsApart ps
unfolding all_beside
all_apart [] e = λ i j d lt in_j. absurd (omega arith)
all_apart (p ∷ ps) e =
    let q = both (list_all (is_beside p) ps) (all_beside ps) e in
    AllPairs-cons IsApart p ps (each_apart p ps q.0) (all_apart ps q.1)

pub rects_apart : (face : ℕ) (under : Bool) → AllPairs IsApart (rects face under)
rects_apart face under = all_apart (rects face under) (passes face under).beside

-- one more column
pub columns_added : (now new : List Patch) (n : ℕ) (under : Bool) (columns : List ℕ) → now ≡ columns_rects n under columns
    → new ≡ now ++ column_rects n under columns (slice_index columns n) → new ≡ columns_rects (n + 1) under columns
columns_added now new n under columns before added =
    added ∙ (ap (λ (ps : List Patch). ps ++ column_rects n under columns (slice_index columns n)) before ∙ sym (columns_more n under columns))

-- the rectangles of a face, by what was put first
pub of_columns : (face : ℕ) (under : Bool) (now : List Patch) → has_bars face ≡ false → now ≡ columns_rects 5 under (columns_of face)
    → with_underline under now ≡ rects face under
unfolding rects
of_columns face under now none is = ap (with_underline under) (is ∙ rw none refl)

pub of_bars : (face : ℕ) (under : Bool) (now : List Patch) → has_bars face ≡ true → now ≡ map (bar_patch under) (bars face) → with_underline under now ≡ rects face under
unfolding rects
of_bars face under now some is = ap (with_underline under) (is ∙ rw some refl)

-- .. and what an underline adds
pub ends_underlined : (face : ℕ) (under : Bool) (now new : List Patch) → under ≡ true → with_underline under now ≡ rects face under → new ≡ now ++ underline ∷ [] → new ≡ rects face under
ends_underlined face under now new is_under e added = added ∙ (sym (ap (λ (u : Bool). with_underline u now) is_under) ∙ e)

pub ends_plain : (face : ℕ) (under : Bool) (now : List Patch) → under ≡ false → with_underline under now ≡ rects face under → now ≡ rects face under
ends_plain face under now is_plain e = sym (append-nil now) ∙ (sym (ap (λ (u : Bool). with_underline u now) is_plain) ∙ e)

-- ---- bars
pub bars_few : (face : ℕ) → has_bars face ≡ true → length (bars face) ≤ 16
bars_few face has =
    let p = both (nat_le 0x2500 face) (nat_le face 0x259F) has in
    let low = from_le 0x2500 face p.0 in
    let high = from_le face 0x259F p.1 in
    let same : 0x2500 + (face - 0x2500) ≡ face = omega (arith, low) in
    from_le _ 16 (subst (λ (f : ℕ). nat_le (length (bars f)) 16 ≡ true) same (at_below (λ n. nat_le (length (bars (0x2500 + n))) 16) 160 (face - 0x2500) bars_are_few (omega (arith, low, high))))

pub length-bars : (face : ℕ) (under : Bool) → length (map (bar_patch under) (bars face)) ≡ length (bars face)
length-bars face under = length-map (bars face) (bar_patch under)

-- ---- letters and signs by their number

-- how many there are
count : length more_columns ≡ 284
count = refl

pub found_columns : (n : ℕ) → n < 284 → get_or more_columns n [] ≡ columns_by (Some n)
found_columns n lt = get_or_default more_columns n [] (moved_down box) (omega (arith, lt, count))

pub no_columns : (n : ℕ) → 284 ≤ n → moved_down box ≡ columns_by (Some n)
no_columns n le = sym (get_or_past more_columns n (moved_down box) (omega (arith, le, count)))
