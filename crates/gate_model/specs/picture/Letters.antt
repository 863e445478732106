-- Letters with marks and signs: the faces beyond ASCII that are made of five columns, from left to right, as those of the
-- font are (this project's own). Bit r of a column, the least first, covers the pixel lines 2r and 2r + 1.
use Rattle.std.specs.Prelude.{ℕ, ◌+◌, ◌-◌, ◌*◌, ◌/◌, ◌%◌, List, [], ◌∷◌, ◌++◌, map, Bool, not, ◌&&◌, ◌||◌, ◌==◌, nat_le, slice_index, slice_index_or, Option, Some, None, if◌then◌else◌}
use Rattle.std.specs.List.{list_any}
use Rattle.gate_model.specs.picture.Font.{font, box}

-- ---- marks, by the two upper bits of five columns: bit 0 is the upper one

abbrev pub no_mark : List ℕ
no_mark = 0 ∷ 0 ∷ 0 ∷ 0 ∷ 0 ∷ []

abbrev pub grave : List ℕ
grave = 0 ∷ 1 ∷ 2 ∷ 0 ∷ 0 ∷ []

abbrev pub acute : List ℕ
acute = 0 ∷ 0 ∷ 2 ∷ 1 ∷ 0 ∷ []

abbrev pub circumflex : List ℕ
circumflex = 0 ∷ 2 ∷ 1 ∷ 2 ∷ 0 ∷ []

abbrev pub tilde : List ℕ
tilde = 2 ∷ 1 ∷ 2 ∷ 2 ∷ 1 ∷ []

abbrev pub diaeresis : List ℕ
diaeresis = 0 ∷ 1 ∷ 0 ∷ 1 ∷ 0 ∷ []

abbrev pub ring : List ℕ
ring = 0 ∷ 3 ∷ 1 ∷ 3 ∷ 0 ∷ []

abbrev pub macron : List ℕ
macron = 0 ∷ 1 ∷ 1 ∷ 1 ∷ 0 ∷ []

abbrev pub breve : List ℕ
breve = 1 ∷ 2 ∷ 2 ∷ 2 ∷ 1 ∷ []

abbrev pub dot : List ℕ
dot = 0 ∷ 0 ∷ 1 ∷ 0 ∷ 0 ∷ []

abbrev pub caron : List ℕ
caron = 0 ∷ 1 ∷ 2 ∷ 1 ∷ 0 ∷ []

abbrev pub double_acute : List ℕ
double_acute = 0 ∷ 2 ∷ 1 ∷ 2 ∷ 1 ∷ []

abbrev pub comma : List ℕ
comma = 0 ∷ 0 ∷ 3 ∷ 1 ∷ 0 ∷ []

-- .. above small letters, into which the marks of capitals would run
abbrev pub small_tilde : List ℕ
small_tilde = 1 ∷ 1 ∷ 0 ∷ 2 ∷ 2 ∷ []

abbrev pub small_breve : List ℕ
small_breve = 1 ∷ 1 ∷ 2 ∷ 1 ∷ 1 ∷ []

abbrev pub small_double_acute : List ℕ
small_double_acute = 2 ∷ 1 ∷ 0 ∷ 2 ∷ 1 ∷ []

-- .. and by the lowest bit, below a letter

abbrev pub cedilla : List ℕ
cedilla = 0 ∷ 1 ∷ 1 ∷ 0 ∷ 0 ∷ []

abbrev pub ogonek : List ℕ
ogonek = 0 ∷ 0 ∷ 0 ∷ 1 ∷ 1 ∷ []

-- ---- a letter and its mark

-- a letter of ASCII with a mark above it, or below it; or one that neither makes, by its columns. So are d, l, L and t with a
-- caron, which stands beside them, and u, w and y with a mark that would meet their arms: those are shorter by one bit
pub data Letter : Type 0 where
  Above : List ℕ → ℕ → Letter
  Below : List ℕ → ℕ → Letter
  Drawn : List ℕ → Letter

-- the columns of a letter of ASCII
abbrev pub font_columns : ℕ → List ℕ
font_columns c = slice_index_or font (c - 32) box

-- .. below a mark, which stands in place of the dot of i and j
abbrev pub without_dot : ℕ → ℕ
without_dot column = column - column % 2

abbrev pub base_columns : ℕ → List ℕ
base_columns c = if c == 105 || c == 106 then map without_dot (font_columns c) else font_columns c

-- the letter reaches one of the two upper lines of bits of the font
abbrev pub is_high : ℕ → Bool
is_high column = not (column % 4 == 0)

-- a column of the font, moved down by one bit as all of ASCII is; one of a letter that reaches the upper lines moves down by
-- two, and leaves out the second line of bits, so that the mark has its place
abbrev pub moved : ℕ → ℕ
moved column = 2 * column

abbrev pub lowered : ℕ → ℕ
lowered column = 4 * (column % 2) + 8 * (column / 4)

-- two lists, number by number
abbrev pub joined : (ℕ → ℕ → ℕ) → List ℕ → List ℕ → List ℕ
joined f (m ∷ ms) (n ∷ ns) = f m n ∷ joined f ms ns
joined f ms ns = []

-- a small letter leaves the two upper lines of bits of the font free: its mark takes those, and moves down with it
abbrev pub with_high : List ℕ → List ℕ → List ℕ
with_high mark columns =
    if list_any is_high columns then joined (λ m n. m + n) mark (map lowered columns) else map moved (joined (λ m n. m + n) mark columns)

-- a mark below has the lowest bit
abbrev pub with_low : ℕ → ℕ → ℕ
with_low mark column = 128 * mark + column

-- the columns of a letter
abbrev pub letter_columns : Letter → List ℕ
letter_columns (Above mark base) = with_high mark (base_columns base)
letter_columns (Below mark base) = joined with_low mark (font_columns base)
letter_columns (Drawn columns) = columns

-- U+00A1 to U+017F, in their order
abbrev pub letters : List Letter
letters =
    Drawn (0x00 ∷ 0x00 ∷ 0xfa ∷ 0x00 ∷ 0x00 ∷ [])
    ∷ Drawn (0x30 ∷ 0x48 ∷ 0xfe ∷ 0x48 ∷ 0x48 ∷ [])
    ∷ Drawn (0x90 ∷ 0x7c ∷ 0x92 ∷ 0x82 ∷ 0x44 ∷ [])
    ∷ Drawn (0x44 ∷ 0x38 ∷ 0x28 ∷ 0x38 ∷ 0x44 ∷ [])
    ∷ Drawn (0x56 ∷ 0x58 ∷ 0xf0 ∷ 0x58 ∷ 0x56 ∷ [])
    ∷ Drawn (0x00 ∷ 0x00 ∷ 0xee ∷ 0x00 ∷ 0x00 ∷ [])
    ∷ Drawn (0x94 ∷ 0xaa ∷ 0xaa ∷ 0xaa ∷ 0x52 ∷ [])
    ∷ Drawn (0x00 ∷ 0x02 ∷ 0x00 ∷ 0x02 ∷ 0x00 ∷ [])
    ∷ Drawn (0x7c ∷ 0x82 ∷ 0xba ∷ 0xaa ∷ 0x6c ∷ [])
    ∷ Drawn (0x90 ∷ 0xaa ∷ 0xaa ∷ 0x9a ∷ 0xbc ∷ [])
    ∷ Drawn (0x20 ∷ 0x50 ∷ 0xa8 ∷ 0x50 ∷ 0x88 ∷ [])
    ∷ Drawn (0x10 ∷ 0x10 ∷ 0x10 ∷ 0x10 ∷ 0x70 ∷ [])
    ∷ Drawn (0x00 ∷ 0x10 ∷ 0x10 ∷ 0x00 ∷ 0x00 ∷ [])
    ∷ Drawn (0x7c ∷ 0xba ∷ 0xea ∷ 0x92 ∷ 0x7c ∷ [])
    ∷ Drawn (0x02 ∷ 0x02 ∷ 0x02 ∷ 0x02 ∷ 0x02 ∷ [])
    ∷ Drawn (0x04 ∷ 0x0a ∷ 0x0a ∷ 0x04 ∷ 0x00 ∷ [])
    ∷ Drawn (0x90 ∷ 0x90 ∷ 0xfc ∷ 0x90 ∷ 0x90 ∷ [])
    ∷ Drawn (0x24 ∷ 0x32 ∷ 0x2a ∷ 0x24 ∷ 0x00 ∷ [])
    ∷ Drawn (0x22 ∷ 0x2a ∷ 0x2a ∷ 0x14 ∷ 0x00 ∷ [])
    ∷ Drawn (0x00 ∷ 0x00 ∷ 0x04 ∷ 0x02 ∷ 0x00 ∷ [])
    ∷ Drawn (0xfc ∷ 0x20 ∷ 0x40 ∷ 0x20 ∷ 0x7c ∷ [])
    ∷ Drawn (0x0c ∷ 0x1e ∷ 0xfe ∷ 0x02 ∷ 0xfe ∷ [])
    ∷ Drawn (0x00 ∷ 0x00 ∷ 0x10 ∷ 0x00 ∷ 0x00 ∷ [])
    ∷ Drawn (0x00 ∷ 0x80 ∷ 0xc0 ∷ 0x00 ∷ 0x00 ∷ [])
    ∷ Drawn (0x24 ∷ 0x3e ∷ 0x20 ∷ 0x00 ∷ 0x00 ∷ [])
    ∷ Drawn (0x9c ∷ 0xa2 ∷ 0xa2 ∷ 0xa2 ∷ 0x9c ∷ [])
    ∷ Drawn (0x88 ∷ 0x50 ∷ 0xa8 ∷ 0x50 ∷ 0x20 ∷ [])
    ∷ Drawn (0x2f ∷ 0x10 ∷ 0x68 ∷ 0x44 ∷ 0xf0 ∷ [])
    ∷ Drawn (0x2f ∷ 0x10 ∷ 0x08 ∷ 0xd4 ∷ 0xb0 ∷ [])
    ∷ Drawn (0x55 ∷ 0x3f ∷ 0x48 ∷ 0x64 ∷ 0xf0 ∷ [])
    ∷ Drawn (0x60 ∷ 0x90 ∷ 0x8a ∷ 0x80 ∷ 0x40 ∷ [])
    ∷ Above grave 65
    ∷ Above acute 65
    ∷ Above circumflex 65
    ∷ Above tilde 65
    ∷ Above diaeresis 65
    ∷ Above ring 65
    ∷ Drawn (0xfc ∷ 0x12 ∷ 0xfe ∷ 0x92 ∷ 0x92 ∷ [])
    ∷ Below cedilla 67
    ∷ Above grave 69
    ∷ Above acute 69
    ∷ Above circumflex 69
    ∷ Above diaeresis 69
    ∷ Above grave 73
    ∷ Above acute 73
    ∷ Above circumflex 73
    ∷ Above diaeresis 73
    ∷ Drawn (0x92 ∷ 0xfe ∷ 0x92 ∷ 0x82 ∷ 0x7c ∷ [])
    ∷ Above tilde 78
    ∷ Above grave 79
    ∷ Above acute 79
    ∷ Above circumflex 79
    ∷ Above tilde 79
    ∷ Above diaeresis 79
    ∷ Drawn (0x00 ∷ 0x50 ∷ 0x20 ∷ 0x50 ∷ 0x00 ∷ [])
    ∷ Drawn (0xfc ∷ 0xe2 ∷ 0x92 ∷ 0x8e ∷ 0x7e ∷ [])
    ∷ Above grave 85
    ∷ Above acute 85
    ∷ Above circumflex 85
    ∷ Above diaeresis 85
    ∷ Above acute 89
    ∷ Drawn (0xfe ∷ 0x24 ∷ 0x24 ∷ 0x24 ∷ 0x18 ∷ [])
    ∷ Drawn (0xfc ∷ 0x02 ∷ 0x92 ∷ 0x9c ∷ 0x60 ∷ [])
    ∷ Above grave 97
    ∷ Above acute 97
    ∷ Above circumflex 97
    ∷ Above small_tilde 97
    ∷ Above diaeresis 97
    ∷ Above ring 97
    ∷ Drawn (0x48 ∷ 0xa8 ∷ 0xf0 ∷ 0xa8 ∷ 0xb0 ∷ [])
    ∷ Below cedilla 99
    ∷ Above grave 101
    ∷ Above acute 101
    ∷ Above circumflex 101
    ∷ Above diaeresis 101
    ∷ Above grave 105
    ∷ Above acute 105
    ∷ Above circumflex 105
    ∷ Above diaeresis 105
    ∷ Drawn (0x60 ∷ 0x90 ∷ 0x9a ∷ 0x94 ∷ 0x7a ∷ [])
    ∷ Above small_tilde 110
    ∷ Above grave 111
    ∷ Above acute 111
    ∷ Above circumflex 111
    ∷ Above small_tilde 111
    ∷ Above diaeresis 111
    ∷ Drawn (0x10 ∷ 0x10 ∷ 0x54 ∷ 0x10 ∷ 0x10 ∷ [])
    ∷ Drawn (0xf0 ∷ 0xc8 ∷ 0xa8 ∷ 0x98 ∷ 0x78 ∷ [])
    ∷ Above grave 117
    ∷ Above acute 117
    ∷ Drawn (0x70 ∷ 0x84 ∷ 0x82 ∷ 0x44 ∷ 0xf0 ∷ [])
    ∷ Above diaeresis 117
    ∷ Above acute 121
    ∷ Drawn (0xfe ∷ 0x50 ∷ 0x48 ∷ 0x48 ∷ 0x30 ∷ [])
    ∷ Above diaeresis 121
    ∷ Above macron 65
    ∷ Above macron 97
    ∷ Above breve 65
    ∷ Above small_breve 97
    ∷ Below ogonek 65
    ∷ Below ogonek 97
    ∷ Above acute 67
    ∷ Above acute 99
    ∷ Above circumflex 67
    ∷ Above circumflex 99
    ∷ Above dot 67
    ∷ Above dot 99
    ∷ Above caron 67
    ∷ Above caron 99
    ∷ Above caron 68
    ∷ Drawn (0x70 ∷ 0x88 ∷ 0xfe ∷ 0x00 ∷ 0x06 ∷ [])
    ∷ Drawn (0x10 ∷ 0xfe ∷ 0x92 ∷ 0x82 ∷ 0x7c ∷ [])
    ∷ Drawn (0x70 ∷ 0x88 ∷ 0x94 ∷ 0xfe ∷ 0x04 ∷ [])
    ∷ Above macron 69
    ∷ Above macron 101
    ∷ Above breve 69
    ∷ Above small_breve 101
    ∷ Above dot 69
    ∷ Above dot 101
    ∷ Below ogonek 69
    ∷ Below ogonek 101
    ∷ Above caron 69
    ∷ Above caron 101
    ∷ Above circumflex 71
    ∷ Above circumflex 103
    ∷ Above breve 71
    ∷ Above small_breve 103
    ∷ Above dot 71
    ∷ Above dot 103
    ∷ Below cedilla 71
    ∷ Above comma 103
    ∷ Above circumflex 72
    ∷ Above circumflex 104
    ∷ Drawn (0xfe ∷ 0x14 ∷ 0x14 ∷ 0x14 ∷ 0xfe ∷ [])
    ∷ Drawn (0x04 ∷ 0xfe ∷ 0x14 ∷ 0x08 ∷ 0xf0 ∷ [])
    ∷ Above tilde 73
    ∷ Above small_tilde 105
    ∷ Above macron 73
    ∷ Above macron 105
    ∷ Above breve 73
    ∷ Above small_breve 105
    ∷ Below ogonek 73
    ∷ Below ogonek 105
    ∷ Above dot 73
    ∷ Above no_mark 105
    ∷ Drawn (0xfe ∷ 0x40 ∷ 0x80 ∷ 0x82 ∷ 0x7e ∷ [])
    ∷ Drawn (0x08 ∷ 0xfa ∷ 0x00 ∷ 0x88 ∷ 0x7a ∷ [])
    ∷ Above circumflex 74
    ∷ Above circumflex 106
    ∷ Below cedilla 75
    ∷ Below cedilla 107
    ∷ Drawn (0xf8 ∷ 0x20 ∷ 0x50 ∷ 0x88 ∷ 0x00 ∷ [])
    ∷ Above acute 76
    ∷ Above acute 108
    ∷ Below cedilla 76
    ∷ Below cedilla 108
    ∷ Drawn (0xfe ∷ 0x80 ∷ 0x80 ∷ 0x86 ∷ 0x80 ∷ [])
    ∷ Drawn (0x00 ∷ 0x82 ∷ 0xfe ∷ 0x80 ∷ 0x06 ∷ [])
    ∷ Drawn (0xfe ∷ 0x80 ∷ 0x80 ∷ 0x90 ∷ 0x80 ∷ [])
    ∷ Drawn (0x82 ∷ 0xfe ∷ 0x80 ∷ 0x00 ∷ 0x10 ∷ [])
    ∷ Drawn (0x20 ∷ 0xfe ∷ 0x88 ∷ 0x84 ∷ 0x80 ∷ [])
    ∷ Drawn (0x00 ∷ 0xa2 ∷ 0xfe ∷ 0x88 ∷ 0x00 ∷ [])
    ∷ Above acute 78
    ∷ Above acute 110
    ∷ Below cedilla 78
    ∷ Below cedilla 110
    ∷ Above caron 78
    ∷ Above caron 110
    ∷ Drawn (0x06 ∷ 0xf8 ∷ 0x10 ∷ 0x08 ∷ 0xf0 ∷ [])
    ∷ Drawn (0x3f ∷ 0x02 ∷ 0x8c ∷ 0x90 ∷ 0x7f ∷ [])
    ∷ Drawn (0x3c ∷ 0x08 ∷ 0x84 ∷ 0x84 ∷ 0x78 ∷ [])
    ∷ Above macron 79
    ∷ Above macron 111
    ∷ Above breve 79
    ∷ Above small_breve 111
    ∷ Above double_acute 79
    ∷ Above small_double_acute 111
    ∷ Drawn (0x7c ∷ 0x82 ∷ 0xfe ∷ 0x92 ∷ 0x82 ∷ [])
    ∷ Drawn (0x70 ∷ 0x88 ∷ 0xf0 ∷ 0xa8 ∷ 0xb0 ∷ [])
    ∷ Above acute 82
    ∷ Above acute 114
    ∷ Below cedilla 82
    ∷ Below cedilla 114
    ∷ Above caron 82
    ∷ Above caron 114
    ∷ Above acute 83
    ∷ Above acute 115
    ∷ Above circumflex 83
    ∷ Above circumflex 115
    ∷ Below cedilla 83
    ∷ Below cedilla 115
    ∷ Above caron 83
    ∷ Above caron 115
    ∷ Below cedilla 84
    ∷ Below cedilla 116
    ∷ Above caron 84
    ∷ Drawn (0x08 ∷ 0x7e ∷ 0x88 ∷ 0x80 ∷ 0x46 ∷ [])
    ∷ Drawn (0x02 ∷ 0x12 ∷ 0xfe ∷ 0x12 ∷ 0x02 ∷ [])
    ∷ Drawn (0x14 ∷ 0x7e ∷ 0x94 ∷ 0x84 ∷ 0x40 ∷ [])
    ∷ Above tilde 85
    ∷ Drawn (0x72 ∷ 0x82 ∷ 0x80 ∷ 0x44 ∷ 0xf4 ∷ [])
    ∷ Above macron 85
    ∷ Above macron 117
    ∷ Above breve 85
    ∷ Above small_breve 117
    ∷ Above ring 85
    ∷ Drawn (0x70 ∷ 0x86 ∷ 0x8a ∷ 0x46 ∷ 0xf0 ∷ [])
    ∷ Above double_acute 85
    ∷ Drawn (0x74 ∷ 0x82 ∷ 0x80 ∷ 0x44 ∷ 0xf2 ∷ [])
    ∷ Below ogonek 85
    ∷ Below ogonek 117
    ∷ Above circumflex 87
    ∷ Drawn (0x70 ∷ 0x84 ∷ 0x62 ∷ 0x84 ∷ 0x70 ∷ [])
    ∷ Above circumflex 89
    ∷ Drawn (0x10 ∷ 0xa4 ∷ 0xa2 ∷ 0xa4 ∷ 0x70 ∷ [])
    ∷ Above diaeresis 89
    ∷ Above acute 90
    ∷ Above acute 122
    ∷ Above dot 90
    ∷ Above dot 122
    ∷ Above caron 90
    ∷ Above caron 122
    ∷ Drawn (0x80 ∷ 0xfc ∷ 0x82 ∷ 0x02 ∷ 0x00 ∷ [])
    ∷ []

-- ---- signs

-- in the order of their characters
abbrev pub signs : List (List ℕ)
signs =
    (0x10 ∷ 0x10 ∷ 0x10 ∷ 0x00 ∷ 0x00 ∷ [])
    ∷ (0x00 ∷ 0x00 ∷ 0x10 ∷ 0x10 ∷ 0x00 ∷ [])
    ∷ (0x00 ∷ 0x00 ∷ 0x10 ∷ 0x10 ∷ 0x10 ∷ [])
    ∷ (0x00 ∷ 0x10 ∷ 0x10 ∷ 0x10 ∷ 0x00 ∷ [])
    ∷ (0x10 ∷ 0x10 ∷ 0x10 ∷ 0x10 ∷ 0x00 ∷ [])
    ∷ (0x10 ∷ 0x10 ∷ 0x00 ∷ 0x10 ∷ 0x10 ∷ [])
    ∷ (0x00 ∷ 0x1c ∷ 0x1a ∷ 0x00 ∷ 0x00 ∷ [])
    ∷ (0x00 ∷ 0x16 ∷ 0x0e ∷ 0x00 ∷ 0x00 ∷ [])
    ∷ (0x00 ∷ 0xb0 ∷ 0x70 ∷ 0x00 ∷ 0x00 ∷ [])
    ∷ (0x0c ∷ 0x0a ∷ 0x00 ∷ 0x0c ∷ 0x0a ∷ [])
    ∷ (0x0a ∷ 0x06 ∷ 0x00 ∷ 0x0a ∷ 0x06 ∷ [])
    ∷ (0xa0 ∷ 0x60 ∷ 0x00 ∷ 0xa0 ∷ 0x60 ∷ [])
    ∷ (0x08 ∷ 0x08 ∷ 0xfe ∷ 0x08 ∷ 0x08 ∷ [])
    ∷ (0x24 ∷ 0x24 ∷ 0xfe ∷ 0x24 ∷ 0x24 ∷ [])
    ∷ (0x00 ∷ 0x38 ∷ 0x38 ∷ 0x38 ∷ 0x00 ∷ [])
    ∷ (0x80 ∷ 0x00 ∷ 0x80 ∷ 0x00 ∷ 0x80 ∷ [])
    ∷ (0xc6 ∷ 0xd6 ∷ 0x08 ∷ 0xc4 ∷ 0xc2 ∷ [])
    ∷ (0x00 ∷ 0x00 ∷ 0x0c ∷ 0x02 ∷ 0x00 ∷ [])
    ∷ (0x08 ∷ 0x06 ∷ 0x08 ∷ 0x06 ∷ 0x00 ∷ [])
    ∷ (0x00 ∷ 0x20 ∷ 0x50 ∷ 0x88 ∷ 0x00 ∷ [])
    ∷ (0x00 ∷ 0x88 ∷ 0x50 ∷ 0x20 ∷ 0x00 ∷ [])
    ∷ (0x00 ∷ 0xbe ∷ 0x00 ∷ 0xbe ∷ 0x00 ∷ [])
    ∷ (0x28 ∷ 0x7c ∷ 0xaa ∷ 0xaa ∷ 0x82 ∷ [])
    ∷ (0x02 ∷ 0x0e ∷ 0x02 ∷ 0x0c ∷ 0x0e ∷ [])
    ∷ (0x10 ∷ 0x38 ∷ 0x54 ∷ 0x10 ∷ 0x10 ∷ [])
    ∷ (0x08 ∷ 0x04 ∷ 0xfe ∷ 0x04 ∷ 0x08 ∷ [])
    ∷ (0x10 ∷ 0x10 ∷ 0x54 ∷ 0x38 ∷ 0x10 ∷ [])
    ∷ (0x20 ∷ 0x40 ∷ 0xfe ∷ 0x40 ∷ 0x20 ∷ [])
    ∷ (0x38 ∷ 0x54 ∷ 0x10 ∷ 0x54 ∷ 0x38 ∷ [])
    ∷ (0x24 ∷ 0x42 ∷ 0xff ∷ 0x42 ∷ 0x24 ∷ [])
    ∷ (0x00 ∷ 0x10 ∷ 0x10 ∷ 0x10 ∷ 0x10 ∷ [])
    ∷ (0x00 ∷ 0x18 ∷ 0x18 ∷ 0x00 ∷ 0x00 ∷ [])
    ∷ (0x20 ∷ 0x40 ∷ 0xfe ∷ 0x02 ∷ 0x02 ∷ [])
    ∷ (0x38 ∷ 0x28 ∷ 0x10 ∷ 0x28 ∷ 0x38 ∷ [])
    ∷ (0x48 ∷ 0x24 ∷ 0x24 ∷ 0x48 ∷ 0x24 ∷ [])
    ∷ (0xa8 ∷ 0x68 ∷ 0x38 ∷ 0x2c ∷ 0x2a ∷ [])
    ∷ (0x54 ∷ 0x54 ∷ 0x54 ∷ 0x54 ∷ 0x54 ∷ [])
    ∷ (0x00 ∷ 0x88 ∷ 0x94 ∷ 0xa2 ∷ 0x00 ∷ [])
    ∷ (0x00 ∷ 0xa2 ∷ 0x94 ∷ 0x88 ∷ 0x00 ∷ [])
    ∷ (0x7c ∷ 0x7c ∷ 0x7c ∷ 0x7c ∷ 0x7c ∷ [])
    ∷ (0x7c ∷ 0x44 ∷ 0x44 ∷ 0x44 ∷ 0x7c ∷ [])
    ∷ (0x78 ∷ 0x78 ∷ 0x78 ∷ 0x78 ∷ 0x00 ∷ [])
    ∷ (0x78 ∷ 0x48 ∷ 0x48 ∷ 0x78 ∷ 0x00 ∷ [])
    ∷ (0xc0 ∷ 0xf0 ∷ 0xfc ∷ 0xf0 ∷ 0xc0 ∷ [])
    ∷ (0xc0 ∷ 0xb0 ∷ 0x8c ∷ 0xb0 ∷ 0xc0 ∷ [])
    ∷ (0xfe ∷ 0x7c ∷ 0x38 ∷ 0x38 ∷ 0x10 ∷ [])
    ∷ (0x00 ∷ 0x7c ∷ 0x38 ∷ 0x10 ∷ 0x00 ∷ [])
    ∷ (0x7c ∷ 0x38 ∷ 0x38 ∷ 0x10 ∷ 0x10 ∷ [])
    ∷ (0x0c ∷ 0x3c ∷ 0xfc ∷ 0x3c ∷ 0x0c ∷ [])
    ∷ (0x0c ∷ 0x34 ∷ 0xc4 ∷ 0x34 ∷ 0x0c ∷ [])
    ∷ (0x10 ∷ 0x38 ∷ 0x38 ∷ 0x7c ∷ 0xfe ∷ [])
    ∷ (0x10 ∷ 0x10 ∷ 0x38 ∷ 0x38 ∷ 0x7c ∷ [])
    ∷ (0x10 ∷ 0x38 ∷ 0xfe ∷ 0x38 ∷ 0x10 ∷ [])
    ∷ (0x38 ∷ 0x44 ∷ 0x44 ∷ 0x44 ∷ 0x38 ∷ [])
    ∷ (0x28 ∷ 0x00 ∷ 0x44 ∷ 0x00 ∷ 0x28 ∷ [])
    ∷ (0x38 ∷ 0x7c ∷ 0x7c ∷ 0x7c ∷ 0x38 ∷ [])
    ∷ (0x00 ∷ 0x38 ∷ 0x28 ∷ 0x38 ∷ 0x00 ∷ [])
    ∷ (0x20 ∷ 0xc0 ∷ 0x40 ∷ 0x30 ∷ 0x0c ∷ [])
    ∷ (0x30 ∷ 0xe0 ∷ 0x70 ∷ 0x3c ∷ 0x0e ∷ [])
    ∷ (0xc4 ∷ 0x28 ∷ 0x30 ∷ 0x48 ∷ 0x84 ∷ [])
    ∷ (0xc6 ∷ 0x6c ∷ 0x38 ∷ 0x6c ∷ 0xc6 ∷ [])
    ∷ []

-- ---- all of them

abbrev pub more_columns : List (List ℕ)
more_columns = map letter_columns letters ++ signs

-- the runs of characters that have such a face: the first of each, the last, and the number of the first among all
abbrev pub runs : List (List ℕ)
runs =
    (0x00a1 ∷ 0x017f ∷ 0 ∷ [])
    ∷ (0x2010 ∷ 0x2015 ∷ 223 ∷ [])
    ∷ (0x2018 ∷ 0x201a ∷ 229 ∷ [])
    ∷ (0x201c ∷ 0x201e ∷ 232 ∷ [])
    ∷ (0x2020 ∷ 0x2022 ∷ 235 ∷ [])
    ∷ (0x2026 ∷ 0x2026 ∷ 238 ∷ [])
    ∷ (0x2030 ∷ 0x2030 ∷ 239 ∷ [])
    ∷ (0x2032 ∷ 0x2033 ∷ 240 ∷ [])
    ∷ (0x2039 ∷ 0x203a ∷ 242 ∷ [])
    ∷ (0x203c ∷ 0x203c ∷ 244 ∷ [])
    ∷ (0x20ac ∷ 0x20ac ∷ 245 ∷ [])
    ∷ (0x2122 ∷ 0x2122 ∷ 246 ∷ [])
    ∷ (0x2190 ∷ 0x2195 ∷ 247 ∷ [])
    ∷ (0x2212 ∷ 0x2212 ∷ 253 ∷ [])
    ∷ (0x2219 ∷ 0x221a ∷ 254 ∷ [])
    ∷ (0x221e ∷ 0x221e ∷ 256 ∷ [])
    ∷ (0x2248 ∷ 0x2248 ∷ 257 ∷ [])
    ∷ (0x2260 ∷ 0x2261 ∷ 258 ∷ [])
    ∷ (0x2264 ∷ 0x2265 ∷ 260 ∷ [])
    ∷ (0x25a0 ∷ 0x25a1 ∷ 262 ∷ [])
    ∷ (0x25aa ∷ 0x25ab ∷ 264 ∷ [])
    ∷ (0x25b2 ∷ 0x25b3 ∷ 266 ∷ [])
    ∷ (0x25b6 ∷ 0x25b6 ∷ 268 ∷ [])
    ∷ (0x25b8 ∷ 0x25b8 ∷ 269 ∷ [])
    ∷ (0x25ba ∷ 0x25ba ∷ 270 ∷ [])
    ∷ (0x25bc ∷ 0x25bd ∷ 271 ∷ [])
    ∷ (0x25c0 ∷ 0x25c0 ∷ 273 ∷ [])
    ∷ (0x25c4 ∷ 0x25c4 ∷ 274 ∷ [])
    ∷ (0x25c6 ∷ 0x25c6 ∷ 275 ∷ [])
    ∷ (0x25cb ∷ 0x25cc ∷ 276 ∷ [])
    ∷ (0x25cf ∷ 0x25cf ∷ 278 ∷ [])
    ∷ (0x25e6 ∷ 0x25e6 ∷ 279 ∷ [])
    ∷ (0x2713 ∷ 0x2714 ∷ 280 ∷ [])
    ∷ (0x2717 ∷ 0x2718 ∷ 282 ∷ [])
    ∷ []

-- the number of a character among them, if it has such a face
abbrev pub number_in : List (List ℕ) → ℕ → Option ℕ
number_in [] c = None
number_in (run ∷ rest) c =
    if nat_le (slice_index run 0) c && nat_le c (slice_index run 1) then Some (slice_index run 2 + (c - slice_index run 0)) else number_in rest c

unfoldable pub number_of : ℕ → Option ℕ
number_of c = number_in runs c
