-- Tests over all faces and over every column byte, computed: the rectangles of a glyph cover its lit pixels, stand apart, are few and lie in the cell.
use Rattle.std.proofs.Common.{◌≡◌, ℕ, zero, suc, ◌+◌, ◌-◌, ◌/◌, ◌^◌, List, [], ◌∷◌, length, map, Bool, true, false, not, ◌&&◌, ◌||◌, ◌==◌, nat_le, nat_lt, slice_index, refl}
use lib.Count.{count_trailing_zeros}
use Rattle.std.specs.List.{list_any, list_all}
use Rattle.std.specs.Prelude.{slice_range}
use Rattle.glyph_table.specs.declared.patch.Patch.{Patch}
use Rattle.gate_model.specs.picture.Font.{font, box, left_box, right_box}
use Rattle.gate_model.specs.picture.Glyphs.{in_columns, moved_down}
use Rattle.gate_model.specs.picture.Letters.{letter_columns, letters, signs}
use Rattle.gate_model.specs.picture.Lines.{Bar, bars, is_on}
use Rattle.glyph_table.specs.GlyphRects.{covers, first_bit, end_bit, without_run, bar_codes, bar_of, bar_patch, bar_starts, with_underline, columns_rects, column_rects, runs_within, run_rects, run_end}

unfoldable pub all_below : (ℕ → Bool) → ℕ → Bool
all_below p zero = true
all_below p (suc n) = p n && all_below p n

unfoldable pub both_or_neither : Bool → Bool → Bool
both_or_neither true b = b
both_or_neither false b = not b

-- a face without an underline has these pixels; its rectangles cover them, and the underline
unfoldable pub covers_pixel : Bool → List Patch → (ℕ → ℕ → Bool) → ℕ → ℕ → Bool
covers_pixel under ps has x y = both_or_neither (list_any (λ p. covers p x y) ps) (has x y || (under && y == 15))

unfoldable pub covers_all : Bool → List Patch → (ℕ → ℕ → Bool) → Bool
covers_all under ps has = all_below (λ x. all_below (λ y. covers_pixel under ps has x y) 16) 8

-- the first stands left of the second, right of it, above it, or below it
unfoldable pub is_beside : Patch → Patch → Bool
is_beside p q = nat_le (p.x + p.width) q.x || (nat_le (q.x + q.width) p.x || (nat_le (p.y + p.height) q.y || nat_le (q.y + q.height) p.y))

unfoldable pub all_beside : List Patch → Bool
all_beside [] = true
all_beside (p ∷ ps) = list_all (is_beside p) ps && all_beside ps

unfoldable pub is_inside : Patch → Bool
is_inside p = nat_le 1 p.width && (nat_le 1 p.height && (nat_le (p.x + p.width) 8 && nat_le (p.y + p.height) 16))

unfoldable pub rects_pass : Bool → List Patch → (ℕ → ℕ → Bool) → Bool
rects_pass under ps has = covers_all under ps has && (all_beside ps && (nat_le (length ps) 21 && list_all is_inside ps))

unfoldable pub columns_under : Bool → List ℕ → Bool
columns_under under columns = rects_pass under (with_underline under (columns_rects 5 under columns)) (in_columns columns)

unfoldable pub glyph_passes : List ℕ → Bool
glyph_passes columns = columns_under true columns && columns_under false columns

unfoldable pub bars_under : Bool → List Bar → Bool
bars_under under bs = rects_pass under (with_underline under (map (bar_patch under) bs)) (λ x y. list_any (is_on x y) bs)

unfoldable pub bars_pass : List Bar → Bool
bars_pass bs = bars_under true bs && bars_under false bs

-- the whole font
pub font_passes : list_all glyph_passes (map moved_down font) ≡ true
unfolding glyph_passes columns_under rects_pass is_inside all_beside is_beside covers_all covers_pixel both_or_neither all_below columns_rects column_rects runs_within run_rects run_end count_trailing_zeros
font_passes = refl

-- the boxes
pub box_passes : glyph_passes (moved_down box) ≡ true
unfolding glyph_passes columns_under rects_pass is_inside all_beside is_beside covers_all covers_pixel both_or_neither all_below columns_rects column_rects runs_within run_rects run_end count_trailing_zeros
box_passes = refl

pub left_passes : glyph_passes (moved_down left_box) ≡ true
unfolding glyph_passes columns_under rects_pass is_inside all_beside is_beside covers_all covers_pixel both_or_neither all_below columns_rects column_rects runs_within run_rects run_end count_trailing_zeros
left_passes = refl

pub right_passes : glyph_passes (moved_down right_box) ≡ true
unfolding glyph_passes columns_under rects_pass is_inside all_beside is_beside covers_all covers_pixel both_or_neither all_below columns_rects column_rects runs_within run_rects run_end count_trailing_zeros
right_passes = refl

-- letters and signs
pub letters_pass : list_all glyph_passes (map letter_columns letters) ≡ true
unfolding glyph_passes columns_under rects_pass is_inside all_beside is_beside covers_all covers_pixel both_or_neither all_below columns_rects column_rects runs_within run_rects run_end count_trailing_zeros
letters_pass = refl

pub signs_pass : list_all glyph_passes signs ≡ true
unfolding glyph_passes columns_under rects_pass is_inside all_beside is_beside covers_all covers_pixel both_or_neither all_below columns_rects column_rects runs_within run_rects run_end count_trailing_zeros
signs_pass = refl

-- line drawing and block elements
pub lines_pass : all_below (λ n. bars_pass (bars (0x2500 + n))) 160 ≡ true
unfolding bars_pass bars_under bars rects_pass is_inside all_beside is_beside covers_all covers_pixel both_or_neither all_below
lines_pass = refl

pub bars_are_few : all_below (λ n. nat_le (length (bars (0x2500 + n))) 16) 160 ≡ true
unfolding bars all_below
bars_are_few = refl

-- the table of bars has those of each face
unfoldable pub is_same_bar : Bar → Bar → Bool
is_same_bar a b = a.x == b.x && (a.y == b.y && (a.width == b.width && a.height == b.height))

unfoldable pub are_same_bars : List Bar → List Bar → Bool
are_same_bars [] [] = true
are_same_bars (a ∷ others) (b ∷ bs) = is_same_bar a b && are_same_bars others bs
are_same_bars [] (b ∷ bs) = false
are_same_bars (a ∷ others) [] = false

unfoldable pub entry_passes : List ℕ → List ℕ → ℕ → Bool
entry_passes codes starts n =
    let first = slice_index starts n in let end = slice_index starts (n + 1) in
    nat_le first end && (nat_le end 685 && are_same_bars (map bar_of (slice_range codes first end)) (bars (0x2500 + n)))

pub table_passes : all_below (entry_passes bar_codes bar_starts) 160 ≡ true
unfolding bars all_below entry_passes are_same_bars is_same_bar bar_codes bar_starts
table_passes = refl

pub table_length : length bar_codes ≡ 685
unfolding bars bar_codes
table_length = refl

-- what is left of a column without its n lowest runs
unfoldable pub left_after : ℕ → ℕ → ℕ
left_after zero column = column
left_after (suc n) column = left_after n (without_run column)

unfoldable pub column_passes : ℕ → Bool
column_passes b = b == 0 || (nat_lt (first_bit b) (end_bit b) && (nat_le (end_bit b) 8 && (nat_lt (without_run b) b && (nat_le (b + 2 ^ first_bit b) 256 && left_after 4 b == 0))))

-- every column byte
pub columns_pass : all_below column_passes 256 ≡ true
unfolding column_passes all_below left_after count_trailing_zeros
columns_pass = refl
