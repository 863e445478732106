-- Line drawing and block elements, U+2500 to U+259F: the faces beyond ASCII that are made of bars, which reach the edges of
-- the cell, so that cells beside each other join (this project's own; the lines are those of the Unicode Standard's names).
use Rattle.std.specs.Prelude.{ℕ, ◌+◌, ◌-◌, ◌*◌, ◌/◌, ◌%◌, List, [], ◌∷◌, ◌++◌, map, flat_map, max, Bool, false, not, ◌&&◌, ◌||◌, ◌==◌, nat_le, nat_lt, slice_index_or, if◌then◌else◌}
use Rattle.std.specs.List.{range_with_len}

-- a rectangle of pixels within a cell: its left and upper pixel, and its size
pub record Bar : Type 0 where
  pub x : ℕ
  pub y : ℕ
  pub width : ℕ
  pub height : ℕ

abbrev pub bar : ℕ → ℕ → ℕ → ℕ → Bar
bar x y width height = record { x = x; y = y; width = width; height = height }

-- the bar has the pixel x, y
abbrev pub is_on : ℕ → ℕ → Bar → Bool
is_on x y b = nat_le b.x x && nat_lt x (b.x + b.width) && nat_le b.y y && nat_lt y (b.y + b.height)

-- ---- lines

-- the weights of a line: none, light, heavy and double
abbrev pub none : ℕ
none = 0

abbrev pub light : ℕ
light = 1

abbrev pub heavy : ℕ
heavy = 2

abbrev pub double : ℕ
double = 3

-- a line across the cell's middle, of so many pixels from x on: a light one has two pixel lines, a heavy one four, and a
-- double one the outer two of those
abbrev pub across : ℕ → ℕ → ℕ → List Bar
across weight x width =
    if weight == light then bar x 7 width 2 ∷ [] else (
    if weight == heavy then bar x 6 width 4 ∷ [] else (
    if weight == double then bar x 6 width 1 ∷ bar x 9 width 1 ∷ [] else []))

-- the same down the cell's middle
abbrev pub down : ℕ → ℕ → ℕ → List Bar
down weight y height =
    if weight == light then bar 3 y 2 height ∷ [] else (
    if weight == heavy then bar 2 y 4 height ∷ [] else (
    if weight == double then bar 2 y 1 height ∷ bar 5 y 1 height ∷ [] else []))

-- the middle, where they meet, is as wide as the lines up and down and as high as those across
abbrev pub middle_x : ℕ → ℕ
middle_x weight = if nat_le heavy weight then 2 else 3

abbrev pub middle_y : ℕ → ℕ
middle_y weight = if nat_le heavy weight then 6 else 7

abbrev pub if_so : Bool → Bar → List Bar
if_so so b = if so then b ∷ [] else []

-- the arms of a line: their weights to the left, up, to the right and down
pub record Arms : Type 0 where
  pub left : ℕ
  pub up : ℕ
  pub right : ℕ
  pub down : ℕ

-- what is across, and what is up and down, in their greatest weight
abbrev pub widest : Arms → ℕ
widest a = max a.up a.down

abbrev pub highest : Arms → ℕ
highest a = max a.left a.right

-- the four arms from the edges to the middle
abbrev pub arm_bars : Arms → List Bar
arm_bars a = let x = middle_x (widest a) in let y = middle_y (highest a) in
    across a.left 0 x ++ down a.up 0 y ++ across a.right (8 - x) x ++ down a.down (16 - y) y

-- the lines across, and those down, go through the middle
abbrev pub goes_across : Arms → Bool
goes_across a = nat_lt 0 a.left && nat_lt 0 a.right

abbrev pub goes_down : Arms → Bool
goes_down a = nat_lt 0 a.up && nat_lt 0 a.down

-- the middle is full; but double lines that cross it or end at a single one leave their inside free, and those that meet
-- double ones have their walls on the sides where no arm is
abbrev pub middle_bars : Arms → List Bar
middle_bars a = let x = middle_x (widest a) in let y = middle_y (highest a) in
    if widest a == double && highest a == double then
    bar 2 6 1 1 ∷ bar 5 6 1 1 ∷ bar 2 9 1 1 ∷ bar 5 9 1 1 ∷ if_so (a.up == none) (bar 3 6 2 1) ++ if_so (a.down == none) (bar 3 9 2 1) ++ if_so (a.left == none) (bar 2 7 1 2) ++ if_so (a.right == none) (bar 5 7 1 2) else (
    if highest a == double then bar x 6 2 1 ∷ bar x 9 2 1 ∷ if_so (goes_down a || not (goes_across a)) (bar x 7 2 2) else (
    if widest a == double then bar 2 y 1 2 ∷ bar 5 y 1 2 ∷ if_so (goes_across a || not (goes_down a)) (bar 3 y 2 2) else
    bar x y (8 - 2 * x) (16 - 2 * y) ∷ []))

-- ---- the other lines

-- dash number k of n, of those that share so many pixels; one pixel between dashes is free
abbrev pub dash_start : ℕ → ℕ → ℕ → ℕ
dash_start extent n k = extent * k / n

abbrev pub dash_length : ℕ → ℕ → ℕ → ℕ
dash_length extent n k = dash_start extent n (k + 1) - 1 - dash_start extent n k

abbrev pub dashes_across : ℕ → ℕ → List Bar
dashes_across n weight = flat_map (λ k. across weight (dash_start 8 n k) (dash_length 8 n k)) (range_with_len 0 n)

abbrev pub dashes_down : ℕ → ℕ → List Bar
dashes_down n weight = flat_map (λ k. down weight (dash_start 16 n k) (dash_length 16 n k)) (range_with_len 0 n)

-- a light corner without the outermost of the four pixels of its middle
abbrev pub rounded : Bool → Bool → ℕ → Bar
rounded is_cut to_right y = bar (if is_cut && to_right then 4 else 3) y (if is_cut then 1 else 2) 1

abbrev pub curve_bars : Arms → List Bar
curve_bars a = let to_right = nat_lt 0 a.right in arm_bars a ++ rounded (nat_lt 0 a.down) to_right 7 ∷ rounded (nat_lt 0 a.up) to_right 8 ∷ []

-- diagonals, in eight steps
abbrev pub rising_bars : List Bar
rising_bars = map (λ k. bar (7 - k) (2 * k) 1 2) (range_with_len 0 8)

abbrev pub falling_bars : List Bar
falling_bars = map (λ k. bar k (2 * k) 1 2) (range_with_len 0 8)

-- what a character from U+2500 to U+257F draws: lines by their arms, dashes across and down, curves, and diagonals
pub data Drawing : Type 0 where
  Lines : ℕ → ℕ → ℕ → ℕ → Drawing
  Across : ℕ → ℕ → Drawing
  Down : ℕ → ℕ → Drawing
  Curve : ℕ → ℕ → ℕ → ℕ → Drawing
  Rising : Drawing
  Falling : Drawing
  Crossing : Drawing

abbrev pub drawing_bars : Drawing → List Bar
drawing_bars (Lines l u r d) = let a : Arms = record { left = l; up = u; right = r; down = d } in arm_bars a ++ middle_bars a
drawing_bars (Across n weight) = dashes_across n weight
drawing_bars (Down n weight) = dashes_down n weight
drawing_bars (Curve l u r d) = curve_bars record { left = l; up = u; right = r; down = d }
drawing_bars Rising = rising_bars
drawing_bars Falling = falling_bars
drawing_bars Crossing = rising_bars ++ falling_bars

abbrev pub drawings : List Drawing
drawings =
    Lines light none light none
    ∷ Lines heavy none heavy none
    ∷ Lines none light none light
    ∷ Lines none heavy none heavy
    ∷ Across 3 light
    ∷ Across 3 heavy
    ∷ Down 3 light
    ∷ Down 3 heavy
    ∷ Across 4 light
    ∷ Across 4 heavy
    ∷ Down 4 light
    ∷ Down 4 heavy
    ∷ Lines none none light light
    ∷ Lines none none heavy light
    ∷ Lines none none light heavy
    ∷ Lines none none heavy heavy
    ∷ Lines light none none light
    ∷ Lines heavy none none light
    ∷ Lines light none none heavy
    ∷ Lines heavy none none heavy
    ∷ Lines none light light none
    ∷ Lines none light heavy none
    ∷ Lines none heavy light none
    ∷ Lines none heavy heavy none
    ∷ Lines light light none none
    ∷ Lines heavy light none none
    ∷ Lines light heavy none none
    ∷ Lines heavy heavy none none
    ∷ Lines none light light light
    ∷ Lines none light heavy light
    ∷ Lines none heavy light light
    ∷ Lines none light light heavy
    ∷ Lines none heavy light heavy
    ∷ Lines none heavy heavy light
    ∷ Lines none light heavy heavy
    ∷ Lines none heavy heavy heavy
    ∷ Lines light light none light
    ∷ Lines heavy light none light
    ∷ Lines light heavy none light
    ∷ Lines light light none heavy
    ∷ Lines light heavy none heavy
    ∷ Lines heavy heavy none light
    ∷ Lines heavy light none heavy
    ∷ Lines heavy heavy none heavy
    ∷ Lines light none light light
    ∷ Lines heavy none light light
    ∷ Lines light none heavy light
    ∷ Lines heavy none heavy light
    ∷ Lines light none light heavy
    ∷ Lines heavy none light heavy
    ∷ Lines light none heavy heavy
    ∷ Lines heavy none heavy heavy
    ∷ Lines light light light none
    ∷ Lines heavy light light none
    ∷ Lines light light heavy none
    ∷ Lines heavy light heavy none
    ∷ Lines light heavy light none
    ∷ Lines heavy heavy light none
    ∷ Lines light heavy heavy none
    ∷ Lines heavy heavy heavy none
    ∷ Lines light light light light
    ∷ Lines heavy light light light
    ∷ Lines light light heavy light
    ∷ Lines heavy light heavy light
    ∷ Lines light heavy light light
    ∷ Lines light light light heavy
    ∷ Lines light heavy light heavy
    ∷ Lines heavy heavy light light
    ∷ Lines light heavy heavy light
    ∷ Lines heavy light light heavy
    ∷ Lines light light heavy heavy
    ∷ Lines heavy heavy heavy light
    ∷ Lines heavy light heavy heavy
    ∷ Lines heavy heavy light heavy
    ∷ Lines light heavy heavy heavy
    ∷ Lines heavy heavy heavy heavy
    ∷ Across 2 light
    ∷ Across 2 heavy
    ∷ Down 2 light
    ∷ Down 2 heavy
    ∷ Lines double none double none
    ∷ Lines none double none double
    ∷ Lines none none double light
    ∷ Lines none none light double
    ∷ Lines none none double double
    ∷ Lines double none none light
    ∷ Lines light none none double
    ∷ Lines double none none double
    ∷ Lines none light double none
    ∷ Lines none double light none
    ∷ Lines none double double none
    ∷ Lines double light none none
    ∷ Lines light double none none
    ∷ Lines double double none none
    ∷ Lines none light double light
    ∷ Lines none double light double
    ∷ Lines none double double double
    ∷ Lines double light none light
    ∷ Lines light double none double
    ∷ Lines double double none double
    ∷ Lines double none double light
    ∷ Lines light none light double
    ∷ Lines double none double double
    ∷ Lines double light double none
    ∷ Lines light double light none
    ∷ Lines double double double none
    ∷ Lines double light double light
    ∷ Lines light double light double
    ∷ Lines double double double double
    ∷ Curve none none light light
    ∷ Curve light none none light
    ∷ Curve light light none none
    ∷ Curve none light light none
    ∷ Rising
    ∷ Falling
    ∷ Crossing
    ∷ Lines light none none none
    ∷ Lines none light none none
    ∷ Lines none none light none
    ∷ Lines none none none light
    ∷ Lines heavy none none none
    ∷ Lines none heavy none none
    ∷ Lines none none heavy none
    ∷ Lines none none none heavy
    ∷ Lines light none heavy none
    ∷ Lines none light none heavy
    ∷ Lines heavy none light none
    ∷ Lines none heavy none light
    ∷ []

-- ---- block elements

-- shades: squares of two by two pixels, a quarter of them, half of them and three quarters
abbrev pub light_shade : List Bar
light_shade = flat_map (λ j. bar 0 (4 * j) 2 2 ∷ bar 4 (4 * j) 2 2 ∷ []) (range_with_len 0 4)

abbrev pub medium_shade : List Bar
medium_shade = flat_map (λ j. bar (2 * (j % 2)) (2 * j) 2 2 ∷ bar (4 + 2 * (j % 2)) (2 * j) 2 2 ∷ []) (range_with_len 0 8)

abbrev pub dark_shade : List Bar
dark_shade = flat_map (λ j. bar 2 (4 * j) 2 2 ∷ bar 6 (4 * j) 2 2 ∷ bar 0 (4 * j + 2) 8 2 ∷ []) (range_with_len 0 4)

-- quadrants: the upper left one, the upper right, the lower left and the lower right
abbrev pub quadrants : Bool → Bool → Bool → Bool → List Bar
quadrants a b c d = if_so a (bar 0 0 4 8) ++ if_so b (bar 4 0 4 8) ++ if_so c (bar 0 8 4 8) ++ if_so d (bar 4 8 4 8)

abbrev pub is_among : List ℕ → ℕ → Bool
is_among [] n = false
is_among (m ∷ ms) n = m == n || is_among ms n

-- U+2580 and n more: the upper half, the lower eighths, the left eighths, the right half, the shades, the upper and the
-- right eighth, and the quadrants
abbrev pub block_bars : ℕ → List Bar
block_bars n =
    if n == 0 then bar 0 0 8 8 ∷ [] else (
    if nat_le n 8 then bar 0 (16 - 2 * n) 8 (2 * n) ∷ [] else (
    if nat_le n 15 then bar 0 0 (16 - n) 16 ∷ [] else (
    if n == 16 then bar 4 0 4 16 ∷ [] else (
    if n == 17 then light_shade else (
    if n == 18 then medium_shade else (
    if n == 19 then dark_shade else (
    if n == 20 then bar 0 0 8 2 ∷ [] else (
    if n == 21 then bar 7 0 1 16 ∷ [] else
    quadrants (is_among (24 ∷ 25 ∷ 26 ∷ 27 ∷ 28 ∷ []) n) (is_among (27 ∷ 28 ∷ 29 ∷ 30 ∷ 31 ∷ []) n) (is_among (22 ∷ 25 ∷ 27 ∷ 30 ∷ 31 ∷ []) n) (is_among (23 ∷ 25 ∷ 26 ∷ 28 ∷ 31 ∷ []) n)))))))))

-- ---- all of them

-- the face is made of bars
abbrev pub has_bars : ℕ → Bool
has_bars face = nat_le 0x2500 face && nat_le face 0x259F

unfoldable pub bars : ℕ → List Bar
bars face = if nat_lt face 0x2580 then drawing_bars (slice_index_or drawings (face - 0x2500) Rising) else block_bars (face - 0x2580)
