-- Worked facts of wide characters and of the palette's 256 colours, computed from the definitions.
use Rattle.std.proofs.Common.{◌≡◌, ℕ, List, [], ◌∷◌, map, true, false, refl}
use Rattle.std.specs.Prelude.{Some}
use Rattle.bstr.proofs.Computing.{computing}
use Rattle.unicode_width.proofs.Computing.{unicode_width}
use Rattle.gate_model.specs.declared.cell.Cell.{Cell}
use Rattle.gate_model.specs.declared.cell.Half.{Half}
use Rattle.gate_model.specs.declared.cell.Half.TheVariants.{Whole, Left, Right}
use Rattle.gate_model.specs.declared.colour.Colour.{Colour}
use Rattle.gate_model.specs.text.Reading.{read}
use Rattle.gate_model.specs.picture.Glyphs.{lit}
use Rattle.gate_model.specs.picture.Palette.{colour_of}
use Rattle.gate_model.specs.picture.Pictures.{picture}
use Rattle.gate_model.specs.terminal.Parameters.{default}
use Rattle.gate_model.specs.terminal.Pens.{pen_ink, styled}
use Rattle.gate_model.specs.terminal.Printing.{printed_often, width_of}
use Rattle.gate_model.specs.picture.Letters.{number_of}
use Rattle.gate_model.specs.declared.faces.Faces.TheVariants.{Ascii, More}
use Rattle.gate_model.specs.terminal.Sizes.{in_ascii}
use Rattle.gate_model.specs.terminal.Screens.{key_of, screen, shown, whole_face}
use Rattle.gate_model.specs.terminal.Terminal.{Terminal, plain}

pub grey : Colour
grey = record { red = 170; green = 170; blue = 170 }

pub black : Colour
black = record { red = 0; green = 0; blue = 0 }

-- the columns that some characters take: A, U+00A9, U+4F60, U+0301, U+1F600, U+17D8, U+FFFD
pub widths : (width_of 0x41 ≡ 1) × (width_of 0xA9 ≡ 1) × (width_of 0x4F60 ≡ 2) × (width_of 0x301 ≡ 0) × (width_of 0x1F600 ≡ 2) × (width_of 0x17D8 ≡ 3) × (width_of 0xFFFD ≡ 1)
unfolding width_of unicode_width
widths = (refl, refl, refl, refl, refl, refl, refl)

-- the colours of the palette's parts
pub colours : (colour_of 15 ≡ record { red = 255; green = 255; blue = 255 }) × (colour_of 16 ≡ black) × (colour_of 17 ≡ record { red = 0; green = 0; blue = 95 })
    × (colour_of 22 ≡ record { red = 0; green = 95; blue = 0 }) × (colour_of 52 ≡ record { red = 95; green = 0; blue = 0 }) × (colour_of 196 ≡ record { red = 255; green = 0; blue = 0 })
    × (colour_of 231 ≡ record { red = 255; green = 255; blue = 255 }) × (colour_of 232 ≡ record { red = 8; green = 8; blue = 8 }) × (colour_of 255 ≡ record { red = 238; green = 238; blue = 238 })
unfolding colour_of black
colours = (refl, refl, refl, refl, refl, refl, refl, refl, refl)

-- SGR 38 and 48 with 5: the index is taken too where it is past the palette; a default is 0; 5 alone has no effect
pub chosen : (styled plain (38 ∷ 5 ∷ 196 ∷ 4 ∷ []) ≡ (record plain { ink = Some 196; underline = true })) × (styled plain (48 ∷ 5 ∷ 16 ∷ []) ≡ (record plain { paper = Some 16 }))
    × (styled plain (38 ∷ 5 ∷ 256 ∷ 4 ∷ []) ≡ (record plain { underline = true })) × (styled plain (38 ∷ 5 ∷ default ∷ []) ≡ (record plain { ink = Some 0 })) × (styled plain (48 ∷ 5 ∷ []) ≡ plain)
chosen = (refl, refl, refl, refl, refl)

-- bold adds 8 to the first eight alone
pub bold : (pen_ink (record plain { bold = true }) ≡ 15) × (pen_ink (record plain { bold = true; ink = Some 1 }) ≡ 9) × (pen_ink (record plain { bold = true; ink = Some 8 }) ≡ 8)
bold = (refl, refl, refl)

-- a wide character has its halves in two cells, and the cursor stands behind it
pub wide : let s = shown (screen (in_ascii 4 1) (0xE4 ∷ 0xBD ∷ 0xA0 ∷ []) []) in (picture s 1 2 ≡ grey) × (picture s 5 4 ≡ black) × (picture s 13 4 ≡ grey) × (picture s 16 0 ≡ grey)
unfolding computing read colour_of picture lit grey black width_of unicode_width
wide = (refl, refl, refl, refl)

-- a half whose other half was overwritten becomes a space
pub half_overwritten : picture (shown (screen (in_ascii 4 1) (0xE4 ∷ 0xBD ∷ 0xA0 ∷ 0x0D ∷ 0x41 ∷ []) [])) 9 2 ≡ grey
unfolding computing read colour_of picture lit grey width_of unicode_width
half_overwritten = refl

-- a paper of the 256
pub indexed_paper : picture (shown (screen (in_ascii 2 1) (0x1B ∷ 0x5B ∷ 0x34 ∷ 0x38 ∷ 0x3B ∷ 0x35 ∷ 0x3B ∷ 0x31 ∷ 0x39 ∷ 0x36 ∷ 0x6D ∷ 0x41 ∷ []) [])) 0 0 ≡ record { red = 255; green = 0; blue = 0 }
unfolding computing read colour_of picture lit width_of unicode_width
indexed_paper = refl

-- ---- where a wide character goes

pub record Seen : Type 0 where
  pub text : List ℕ
  pub halves : List Half
  pub x : ℕ

abbrev seen : Terminal → Seen
seen t = record { text = map (λ c. c.ch) t.grid.cells; halves = map (λ c. c.half) t.grid.cells; x = t.x }

-- at the last column: to the next line where the wrap mode is on, and a column back where it is off
at_the_end : (seen (screen (in_ascii 2 2) (0x41 ∷ 0xE4 ∷ 0xBD ∷ 0xA0 ∷ []) []) ≡ record { text = 0x41 ∷ 0x20 ∷ 0x4F60 ∷ 0x4F60 ∷ []; halves = Whole ∷ Whole ∷ Left ∷ Right ∷ []; x = 1 })
    × (seen (screen (in_ascii 3 1) (0x1B ∷ 0x5B ∷ 0x3F ∷ 0x37 ∷ 0x6C ∷ 0x41 ∷ 0x42 ∷ 0xE4 ∷ 0xBD ∷ 0xA0 ∷ []) []) ≡ record { text = 0x41 ∷ 0x4F60 ∷ 0x4F60 ∷ []; halves = Whole ∷ Left ∷ Right ∷ []; x = 2 })
unfolding computing read width_of unicode_width
at_the_end = (refl, refl)

-- on one column it is U+FFFD; a character of no column, U+0301, has no effect
no_room : (seen (screen (in_ascii 1 1) (0xE4 ∷ 0xBD ∷ 0xA0 ∷ []) []) ≡ record { text = 0xFFFD ∷ []; halves = Whole ∷ []; x = 0 })
    × (seen (screen (in_ascii 2 1) (0x41 ∷ 0xCC ∷ 0x81 ∷ []) []) ≡ record { text = 0x41 ∷ 0x20 ∷ []; halves = Whole ∷ Whole ∷ []; x = 1 })
unfolding computing read width_of unicode_width
no_room = (refl, refl)

-- in insert mode two cells come free
inserted : seen (screen (in_ascii 4 1) (0x41 ∷ 0x42 ∷ 0x0D ∷ 0x1B ∷ 0x5B ∷ 0x34 ∷ 0x68 ∷ 0xE4 ∷ 0xBD ∷ 0xA0 ∷ []) []) ≡ record { text = 0x4F60 ∷ 0x4F60 ∷ 0x41 ∷ 0x42 ∷ []; halves = Left ∷ Right ∷ Whole ∷ Whole ∷ []; x = 2 }
unfolding computing read width_of unicode_width
inserted = refl

-- DCH 2 at the second column of two equal wide characters joins a half of each; ICH there parts a character
joined : (seen (screen (in_ascii 4 1) (0xE4 ∷ 0xBD ∷ 0xA0 ∷ 0xE4 ∷ 0xBD ∷ 0xA0 ∷ 0x1B ∷ 0x5B ∷ 0x32 ∷ 0x47 ∷ 0x1B ∷ 0x5B ∷ 0x32 ∷ 0x50 ∷ []) []) ≡ record { text = 0x4F60 ∷ 0x4F60 ∷ 0x20 ∷ 0x20 ∷ []; halves = Left ∷ Right ∷ Whole ∷ Whole ∷ []; x = 1 })
    × (seen (screen (in_ascii 4 1) (0xE4 ∷ 0xBD ∷ 0xA0 ∷ 0x42 ∷ 0x1B ∷ 0x5B ∷ 0x32 ∷ 0x47 ∷ 0x1B ∷ 0x5B ∷ 0x40 ∷ []) []) ≡ record { text = 0x20 ∷ 0x20 ∷ 0x20 ∷ 0x42 ∷ []; halves = Whole ∷ Whole ∷ Whole ∷ Whole ∷ []; x = 1 })
unfolding computing read width_of unicode_width
joined = (refl, refl)

-- the halves of two characters that differ aren't a pair: U+4F60 and U+597D, and DCH 2 at the second column
apart : seen (screen (in_ascii 4 1) (0xE4 ∷ 0xBD ∷ 0xA0 ∷ 0xE5 ∷ 0xA5 ∷ 0xBD ∷ 0x1B ∷ 0x5B ∷ 0x32 ∷ 0x47 ∷ 0x1B ∷ 0x5B ∷ 0x32 ∷ 0x50 ∷ []) []) ≡ record { text = 0x20 ∷ 0x20 ∷ 0x20 ∷ 0x20 ∷ []; halves = Whole ∷ Whole ∷ Whole ∷ Whole ∷ []; x = 1 }
unfolding computing read width_of unicode_width
apart = refl

-- REP repeats a wide character as a wide one
repeated : seen (screen (in_ascii 4 1) (0xE4 ∷ 0xBD ∷ 0xA0 ∷ 0x1B ∷ 0x5B ∷ 0x62 ∷ []) []) ≡ record { text = 0x4F60 ∷ 0x4F60 ∷ 0x4F60 ∷ 0x4F60 ∷ []; halves = Left ∷ Right ∷ Left ∷ Right ∷ []; x = 3 }
unfolding computing read printed_often width_of unicode_width
repeated = refl

-- the face of a character by the set: line drawing, a letter with a mark, a sign, a space that doesn't break, and a
-- character that no set has
by_set : (map (whole_face Ascii) (0x41 ∷ 0x2500 ∷ 0x259F ∷ 0xE9 ∷ 0x20AC ∷ 0xA0 ∷ 0x3B1 ∷ []) ≡ 0x41 ∷ 0xFFFD ∷ 0xFFFD ∷ 0xFFFD ∷ 0xFFFD ∷ 0xFFFD ∷ 0xFFFD ∷ [])
    × (map (whole_face More) (0x41 ∷ 0x2500 ∷ 0x259F ∷ 0xE9 ∷ 0x20AC ∷ 0xA0 ∷ 0x3B1 ∷ []) ≡ 0x41 ∷ 0x2500 ∷ 0x259F ∷ 0xE9 ∷ 0x20AC ∷ 0x20 ∷ 0xFFFD ∷ [])
unfolding number_of
by_set = (refl, refl)

-- the half decides on the face, not the character: a whole U+E000 is a box
faces : let cell : Cell = record { ch = 0xE000; ink = 7; paper = 0; under = false; half = Whole } in ((key_of Ascii cell).face ≡ 0xFFFD) × ((key_of Ascii (record cell { half = Left })).face ≡ 0xE000) × ((key_of Ascii (record cell { half = Right })).face ≡ 0xE001)
faces = (refl, refl, refl)
