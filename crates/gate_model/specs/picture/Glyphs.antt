-- The picture of a key (this project's own font). A cell is 8 pixels wide and 16 high.
use Rattle.std.specs.Prelude.{ℕ, ◌-◌, ◌*◌, ◌/◌, ◌%◌, ◌^◌, List, map, Option, Some, None, is_some, Bool, ◌&&◌, ◌||◌, ◌==◌, nat_le, slice_index_or, slice_index, if◌then◌else◌}
use Rattle.std.specs.List.{list_any}
use Rattle.gate_model.specs.declared.colour.Colour.{Colour}
use Rattle.gate_model.specs.declared.key.Key.{Key}
use Rattle.gate_model.specs.picture.Font.{font, box, left_box, right_box}
use Rattle.gate_model.specs.picture.Letters.{more_columns, number_of}
use Rattle.gate_model.specs.picture.Lines.{bars, has_bars, is_on}
use Rattle.gate_model.specs.picture.Palette.{colour_of}

-- the faces of the halves of a character that takes two places
abbrev pub left_face : ℕ
left_face = 0xE000

abbrev pub right_face : ℕ
right_face = 0xE001

-- the face is a character of ASCII
abbrev pub is_ascii : ℕ → Bool
is_ascii face = nat_le 32 face && nat_le face 126

-- the faces beyond ASCII: line drawing, letters with marks, and signs
abbrev pub is_more : ℕ → Bool
is_more face = has_bars face || is_some (number_of face)

-- five columns of the font, moved down by one bit
abbrev pub moved_down : List ℕ → List ℕ
moved_down columns = map (λ column. 2 * column) columns

-- the columns of a letter or a sign; of any other face they are the box
abbrev pub columns_by : Option ℕ → List ℕ
columns_by (Some n) = slice_index_or more_columns n (moved_down box)
columns_by None = moved_down box

-- the five columns of a face, from left to right; every face that isn't made of columns is a box
abbrev pub columns_of : ℕ → List ℕ
columns_of face =
    if is_ascii face then moved_down (slice_index_or font (face - 32) box) else (
    if face == left_face then moved_down left_box else (
    if face == right_face then moved_down right_box else columns_by (number_of face)))

-- bit r of a column, the least first
abbrev pub bit_of : ℕ → ℕ → Bool
bit_of column r = (column / 2 ^ r) % 2 == 1

-- the pixel x, y of five columns: column c covers x = 1 + c, and bit r covers y = 2r and 2r + 1
abbrev pub in_columns : List ℕ → ℕ → ℕ → Bool
in_columns columns x y = nat_le 1 x && nat_le x 5 && bit_of (slice_index columns (x - 1)) (y / 2)

-- the pixel x, y of the face
abbrev pub in_face : ℕ → ℕ → ℕ → Bool
in_face face x y = if has_bars face then list_any (is_on x y) (bars face) else in_columns (columns_of face) x y

-- the pixels that have the ink: the face's, and pixel line 15 where the key is underlined
unfoldable pub lit : ℕ → Bool → ℕ → ℕ → Bool
lit face under x y = in_face face x y || (under && y == 15)

-- the colour of the pixel x, y of a key's cell
abbrev pub glyph : Key → ℕ → ℕ → Colour
glyph key x y = colour_of (if lit key.face key.under x y then key.ink else key.paper)
