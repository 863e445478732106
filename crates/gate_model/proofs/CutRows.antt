-- Worked facts of screens that get other sizes, computed from the definitions.
use Rattle.std.proofs.Common.{◌≡◌, ℕ, [], ◌∷◌, true, false, refl}
use Rattle.std.specs.Prelude.{Some, codes}
use Rattle.bstr.proofs.Computing.{computing}
use Rattle.unicode_width.proofs.Computing.{unicode_width}
use Rattle.gate_model.specs.terminal.Printing.{width_of}
use Rattle.gate_model.specs.declared.cell.Half.TheVariants.{Whole}
use Rattle.gate_model.specs.declared.colour.Colour.{Colour}
use Rattle.gate_model.specs.text.Reading.{read}
use Rattle.gate_model.specs.picture.Glyphs.{lit}
use Rattle.gate_model.specs.picture.Palette.{colour_of}
use Rattle.gate_model.specs.picture.Pictures.{picture}
use Rattle.gate_model.specs.terminal.Replies.{replies}
use Rattle.gate_model.specs.telnet.OptionAnswers.{size_text}
use Rattle.gate_model.specs.terminal.Screens.{screen, shown}
use Rattle.gate_model.specs.terminal.Sizes.{Cut, in_ascii, sized}
use Rattle.gate_model.specs.terminal.Terminal.{plain}

grey : Colour
grey = record { red = 170; green = 170; blue = 170 }

black : Colour
black = record { red = 0; green = 0; blue = 0 }

cut : ℕ → ℕ → ℕ → Cut
cut n c r = record { after = n; size = sized c r }

-- an A on four columns and two rows, and then two columns and one row
smaller : let s = shown (screen (in_ascii 4 2) (255 ∷ 253 ∷ 31 ∷ 65 ∷ []) (cut 4 2 1 ∷ [])) in (s.cols ≡ 2) × (s.rows ≡ 1) × (picture s 1 4 ≡ grey) × (picture s 8 0 ≡ grey)
unfolding computing read colour_of picture lit grey black cut width_of unicode_width
smaller = (refl, refl, refl, refl)

-- the size is told once, for the size that was in force when DO came whole: the changes stand before its last byte, and behind it
told_before : replies (in_ascii 4 2) (codes "linux") (255 ∷ 253 ∷ 31 ∷ 65 ∷ []) (cut 4 2 1 ∷ []) ≡ 255 ∷ 251 ∷ 31 ∷ 255 ∷ 250 ∷ 31 ∷ 0 ∷ 4 ∷ 0 ∷ 2 ∷ 255 ∷ 240 ∷ []
unfolding computing read cut width_of unicode_width
told_before = refl

told_behind : replies (in_ascii 4 2) (codes "linux") (255 ∷ 253 ∷ 31 ∷ 65 ∷ []) (cut 2 2 1 ∷ []) ≡ 255 ∷ 251 ∷ 31 ∷ 255 ∷ 250 ∷ 31 ∷ 0 ∷ 2 ∷ 0 ∷ 1 ∷ 255 ∷ 240 ∷ []
unfolding computing read cut width_of unicode_width
told_behind = refl

-- the text of a size, with 255 doubled
size_texts : (size_text 2 1 ≡ 255 ∷ 250 ∷ 31 ∷ 0 ∷ 2 ∷ 0 ∷ 1 ∷ 255 ∷ 240 ∷ []) × (size_text 511 255 ≡ 255 ∷ 250 ∷ 31 ∷ 1 ∷ 255 ∷ 255 ∷ 0 ∷ 255 ∷ 255 ∷ 255 ∷ 240 ∷ [])
size_texts = (refl, refl)

-- a control sequence that a change of size cuts goes on: it erases the display of the new size
cut_sequence : let s = shown (screen (in_ascii 2 1) (65 ∷ 27 ∷ 91 ∷ 50 ∷ 74 ∷ []) (cut 4 3 1 ∷ [])) in (s.cols ≡ 3) × (picture s 1 4 ≡ black)
unfolding computing read colour_of picture lit grey black cut width_of unicode_width
cut_sequence = (refl, refl)

-- so does a character
cut_character : let t = screen (in_ascii 2 1) (195 ∷ 169 ∷ []) (cut 1 1 1 ∷ []) in (t.x ≡ 0) × (t.grid.cells ≡ record { ch = 233; ink = 7; paper = 0; under = false; half = Whole } ∷ [])
unfolding computing read cut width_of unicode_width
cut_character = (refl, refl)

-- a half whose other half was cut off becomes a space in its own colours: `ESC [ 44 m` and U+4F60 on three columns, and then one
cut_half : let t = screen (in_ascii 3 1) (27 ∷ 91 ∷ 52 ∷ 52 ∷ 109 ∷ 0xE4 ∷ 0xBD ∷ 0xA0 ∷ []) (cut 8 1 1 ∷ []) in (t.x ≡ 0) × (t.grid.cells ≡ record { ch = 32; ink = 7; paper = 4; under = false; half = Whole } ∷ [])
unfolding computing read cut width_of unicode_width
cut_half = (refl, refl)

-- the wrap that waits goes, and the cursor comes to the last column; tab stops come in behind the old columns
unwrapped : let t = screen (in_ascii 2 1) (65 ∷ 66 ∷ []) (cut 2 1 1 ∷ cut 2 10 2 ∷ []) in (t.x ≡ 0) × (t.pending ≡ false) × (t.bottom ≡ 1)
unfolding computing read cut width_of unicode_width
unwrapped = (refl, refl, refl)

-- the margins become the whole screen, and the cursor and the saved place come within it: `ESC [ 2 ; 3 r`,
-- `ESC [ 3 ; 4 H` and `ESC 7` on four columns and three rows, and then two columns and two rows
trimmed : let t = screen (in_ascii 4 3) (27 ∷ 91 ∷ 50 ∷ 59 ∷ 51 ∷ 114 ∷ 27 ∷ 91 ∷ 51 ∷ 59 ∷ 52 ∷ 72 ∷ 27 ∷ 55 ∷ []) (cut 14 2 2 ∷ []) in
    (t.top ≡ 0) × (t.bottom ≡ 1) × (t.x ≡ 1) × (t.y ≡ 1) × (t.saved ≡ Some record { x = 1; y = 1; pen = plain })
unfolding computing read cut width_of unicode_width
trimmed = (refl, refl, refl, refl, refl)

-- lines that were scrolled stay counted, and tab stops that were cleared stay cleared: `ESC [ 3 g` and three line feeds
-- on nine columns and one row, and then ten columns
counted : let t = screen (in_ascii 9 1) (27 ∷ 91 ∷ 51 ∷ 103 ∷ 10 ∷ 10 ∷ 10 ∷ []) (cut 7 10 1 ∷ []) in
    (t.shift ≡ 3) × (t.stops ≡ false ∷ false ∷ false ∷ false ∷ false ∷ false ∷ false ∷ false ∷ false ∷ false ∷ [])
unfolding computing read cut width_of unicode_width
counted = (refl, refl)

-- .. but a column that goes and comes back has the stop of the start
back_again : let t = screen (in_ascii 9 1) (27 ∷ 91 ∷ 51 ∷ 103 ∷ []) (cut 4 8 1 ∷ cut 4 10 1 ∷ []) in
    t.stops ≡ false ∷ false ∷ false ∷ false ∷ false ∷ false ∷ false ∷ false ∷ true ∷ false ∷ []
unfolding computing read cut width_of unicode_width
back_again = refl
