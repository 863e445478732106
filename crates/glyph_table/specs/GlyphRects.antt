-- The rectangles of a glyph: its bars, or the vertical runs of its columns, each over all columns beside each other that
-- have it; and its underline (this project's own).
use Rattle.std.specs.Prelude.{ℕ, zero, suc, ◌+◌, ◌-◌, ◌*◌, ◌/◌, ◌%◌, ◌^◌, ◌≤◌, List, [], ◌∷◌, ◌++◌, length, map, flat_map, Bool, ◌&&◌, ◌==◌, nat_le, nat_lt, IsTrue, slice_index, if◌then◌else◌, bit_and}
use Rattle.std.specs.List.{range_with_len}
use Rattle.std.specs.Int.{w16, w32, to_be_bytes, trailing_zeros}
use Rattle.glyph_table.specs.declared.patch.Patch.{Patch}
use Rattle.gate_model.specs.picture.Glyphs.{columns_of}
use Rattle.gate_model.specs.picture.Lines.{Bar, bars, has_bars}

-- whether the rectangle has the pixel x, y of its cell
abbrev pub covers : Patch → ℕ → ℕ → Bool
covers p x y = nat_le p.x x && nat_lt x (p.x + p.width) && nat_le p.y y && nat_lt y (p.y + p.height)

-- no pixel is in both rectangles
abbrev pub IsApart : Patch → Patch → Type 0
IsApart p q = (x y : ℕ) → IsTrue (covers p x y) → IsTrue (covers q x y) → ⊥

-- the rectangle has a pixel, and lies in its cell
pub record IsInside (p : Patch) : Type 0 where
  pub wide : 1 ≤ p.width
  pub high : 1 ≤ p.height
  pub in_columns : p.x + p.width ≤ 8
  pub in_rows : p.y + p.height ≤ 16

-- the lowest run of set bits of a column that isn't 0: its first bit, and the bit after its last
abbrev pub first_bit : ℕ → ℕ
first_bit column = trailing_zeros w16 column

abbrev pub end_bit : ℕ → ℕ
end_bit column = trailing_zeros w16 (column + 2 ^ first_bit column)

-- the column without its lowest run: to add the first bit carries through the run
abbrev pub without_run : ℕ → ℕ
without_run column = bit_and column (column + 2 ^ first_bit column)

-- whether a column has just this run: its bits are set, and neither the one before nor the one behind
abbrev pub has_run : ℕ → ℕ → ℕ → Bool
has_run first end column = 2 * column / 2 ^ first % 2 ^ (end - first + 2) == 2 ^ (end - first + 1) - 2

-- the first of the columns from number i on, of which n are left, that hasn't the run
unfoldable pub run_end : ℕ → ℕ → ℕ → List ℕ → ℕ → ℕ
run_end zero first end columns i = i
run_end (suc n) first end columns i = if has_run first end (slice_index columns i) then run_end n first end columns (i + 1) else i

-- whether the column before has the run too
abbrev pub goes_on : ℕ → ℕ → List ℕ → ℕ → Bool
goes_on first end columns i = nat_le 1 i && has_run first end (slice_index columns (i - 1))

-- the rectangle of a run. A run that reaches bit 7 leaves pixel line 15 to the underline
abbrev pub run_rect : ℕ → ℕ → Bool → ℕ → ℕ → Patch
run_rect i width under first end = record {
  x = i + 1;
  y = 2 * first;
  width = width;
  height = 2 * (end - first) - (if under && end == 8 then 1 else 0);
}

-- what a run of column i adds: its rectangle, where it begins there
unfoldable pub run_rects : ℕ → Bool → List ℕ → ℕ → ℕ → List Patch
run_rects i under columns first end = if goes_on first end columns i then [] else run_rect i (run_end (5 - i) first end columns i - i) under first end ∷ []

-- the rectangles of at most n runs of column i, from top to bottom
unfoldable pub runs_within : ℕ → ℕ → Bool → List ℕ → ℕ → List Patch
runs_within zero i under columns column = []
runs_within (suc n) i under columns column = if column == 0 then [] else run_rects i under columns (first_bit column) (end_bit column) ++ runs_within n i under columns (without_run column)

-- the rectangles of a column: a byte has at most four runs
unfoldable pub column_rects : ℕ → Bool → List ℕ → ℕ → List Patch
column_rects i under columns column = runs_within 4 i under columns column

-- the rectangles that begin in the first n columns
unfoldable pub columns_rects : ℕ → Bool → List ℕ → List Patch
columns_rects zero under columns = []
columns_rects (suc n) under columns = columns_rects n under columns ++ column_rects n under columns (slice_index columns n)

-- pixel line 15 over the whole width
abbrev pub underline : Patch
underline = record { x = 0; y = 15; width = 8; height = 1 }

-- the rectangle of a bar. One that reaches pixel line 15 leaves that to the underline
abbrev pub bar_patch : Bool → Bar → Patch
bar_patch under b = record { x = b.x; y = b.y; width = b.width; height = b.height - (if under && b.y + b.height == 16 then 1 else 0) }

-- a bar by its four bytes
abbrev pub bar_of : ℕ → Bar
bar_of code = let bytes = to_be_bytes w32 code in record { x = slice_index bytes 0; y = slice_index bytes 1; width = slice_index bytes 2; height = slice_index bytes 3 }

-- .. and those bytes as a number, of all faces one after the other
abbrev pub code_of : Bar → ℕ
code_of b = ((b.x * 256 + b.y) * 256 + b.width) * 256 + b.height

abbrev pub codes_of : ℕ → List ℕ
codes_of n = map code_of (bars (0x2500 + n))

unfoldable pub bar_codes : List ℕ
bar_codes = flat_map codes_of (range_with_len 0 160)

-- the number of the first bar of each face, and of all bars
abbrev pub starts_from : ℕ → List ℕ → List ℕ
starts_from start [] = start ∷ []
starts_from start (n ∷ ns) = start ∷ starts_from (start + length (codes_of n)) ns

unfoldable pub bar_starts : List ℕ
bar_starts = starts_from 0 (range_with_len 0 160)

-- rectangles, with the underline where there is one
abbrev pub with_underline : Bool → List Patch → List Patch
with_underline under ps = ps ++ (if under then underline ∷ [] else [])

-- the rectangles of a face
unfoldable pub rects : ℕ → Bool → List Patch
rects face under = with_underline under (if has_bars face then map (bar_patch under) (bars face) else columns_rects 5 under (columns_of face))
