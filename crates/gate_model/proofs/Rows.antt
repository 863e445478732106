-- Worked facts, which the checker computes: a wrong definition shows here before any code.
use Rattle.std.proofs.Common.{◌≡◌, [], ◌∷◌, true, false, refl, pos}
use Rattle.std.specs.Prelude.{Some, None}
use Rattle.bstr.proofs.Computing.{computing}
use Rattle.unicode_width.proofs.Computing.{unicode_width}
use Rattle.gate_model.specs.terminal.Printing.{width_of}
use Rattle.gate_model.specs.text.Reading.{read}
use Rattle.gate_model.specs.picture.Palette.{colour_of}
use Rattle.gate_model.specs.declared.faces.Faces.TheVariants.{Ascii}
use Rattle.gate_model.specs.declared.colour.Colour.{Colour}
use Rattle.gate_model.specs.declared.instr.Instr.TheVariants.{Size, Rect, Cfill, Copy, Sync}
use Rattle.gate_model.specs.declared.sharing.Share.TheVariants.{Nobody}
use Rattle.gate_model.specs.declared.sharing.Role.TheVariants.{Control}
use Rattle.gate_model.specs.declared.how.How.TheVariants.{Suffix}
use Rattle.gate_model.specs.declared.entry.Entry.TheVariants.{Start, Feed, Join, Read}
use Rattle.gate_model.specs.picture.Glyphs.{lit}
use Rattle.gate_model.specs.picture.Letters.{number_of}
use Rattle.gate_model.specs.picture.Pictures.{picture}
use Rattle.gate_model.specs.picture.Layers.{draw, nothing, visible}
use Rattle.gate_model.specs.terminal.Sizes.{in_ascii}
use Rattle.gate_model.specs.terminal.Screens.{screen, shown}
use Rattle.gate_model.specs.session.History.{History, next_stamp, newest, newest_frame, all_frames, upto}
use Rattle.gate_model.specs.session.Delivered.{delivered, position}

grey : Colour
grey = record { red = 170; green = 170; blue = 170 }

black : Colour
black = record { red = 0; green = 0; blue = 0 }

-- stamps rise, also where the clock falls back or runs past its end
stamps : (next_stamp 0 1000 ≡ 1000) × (next_stamp 1000 10 ≡ 1001) × (next_stamp 1001 9007199254740993 ≡ 9007199254740992) × (next_stamp 9007199254740992 9007199254740993 ≡ 9007199254740993)
stamps = (refl, refl, refl, refl)

-- an A has ink at (1, 4) and none at (1, 2); an underline takes pixel line 15; what isn't in the font is a box
letter : (lit 65 false 1 4 ≡ true) × (lit 65 false 1 2 ≡ false) × (lit 32 true 0 15 ≡ true) × (lit 32 false 0 15 ≡ false) × (lit 0xFFFD false 1 2 ≡ true)
unfolding lit number_of
letter = (refl, refl, refl, refl, refl)

-- the capital E with a diaeresis: the first line has the two dots, the second and the third are free, and the letter's own
-- first line is the fifth; ë has its dots on the third, é its accent from there to the letter, and Ą its ogonek below
marked : (lit 0xCB false 2 0 ≡ true) × (lit 0xCB false 2 2 ≡ false) × (lit 0xCB false 1 4 ≡ true) × (lit 0xEB false 2 1 ≡ false) × (lit 0xEB false 2 2 ≡ true) × (lit 0xEB false 2 4 ≡ false)
    × (lit 0xE9 false 4 1 ≡ false) × (lit 0xE9 false 4 2 ≡ true) × (lit 0xE9 false 3 4 ≡ true) × (lit 0xE9 false 3 6 ≡ true) × (lit 0x104 false 5 14 ≡ true) × (lit 0x104 false 2 14 ≡ false)
unfolding lit number_of
marked = (refl, refl, refl, refl, refl, refl, refl, refl, refl, refl, refl, refl)

-- the cursor on one blank cell
smallest : (picture (shown (screen (in_ascii 1 1) [] [])) 0 0 ≡ grey) × (picture (shown (screen (in_ascii 1 1) [] [])) 7 15 ≡ grey)
unfolding computing read colour_of picture lit grey width_of unicode_width
smallest = (refl, refl)

-- an A, and the cursor behind it
one_glyph : let s = shown (screen (in_ascii 2 1) (65 ∷ []) []) in (picture s 1 4 ≡ grey) × (picture s 1 2 ≡ black) × (picture s 2 2 ≡ grey) × (picture s 8 0 ≡ grey)
unfolding computing read colour_of picture lit grey black width_of unicode_width
one_glyph = (refl, refl, refl, refl)

-- the last column holds back the wrap until the next character
pending_wrap : let before = shown (screen (in_ascii 2 2) (65 ∷ 66 ∷ []) []) in let after = shown (screen (in_ascii 2 2) (65 ∷ 66 ∷ 67 ∷ []) []) in
    (picture before 8 0 ≡ grey) × (picture after 8 0 ≡ black) × (picture after 1 18 ≡ black) × (picture after 1 20 ≡ grey) × (picture after 8 16 ≡ grey)
unfolding computing read colour_of picture lit grey black width_of unicode_width
pending_wrap = (refl, refl, refl, refl, refl)

-- three lines on two rows
scrolled : let s = shown (screen (in_ascii 2 2) (65 ∷ 13 ∷ 10 ∷ 66 ∷ 13 ∷ 10 ∷ 67 ∷ []) []) in (picture s 1 2 ≡ grey) × (picture s 8 0 ≡ black) × (picture s 1 18 ≡ black)
unfolding computing read colour_of picture lit grey black width_of unicode_width
scrolled = (refl, refl, refl)

-- a fill covers the path and nothing else; a rectangle after a fill begins a new path
filled : let m = draw nothing (Size (pos 0) 3 2 ∷ Rect (pos 0) 0 0 2 2 ∷ Cfill (pos 0) 170 170 170 ∷ Rect (pos 0) 0 0 1 1 ∷ Cfill (pos 0) 0 0 0 ∷ []) visible in
    (m.pixel 0 0 ≡ Some black) × (m.pixel 1 1 ≡ Some grey) × (m.pixel 2 0 ≡ None)
unfolding grey black
filled = (refl, refl, refl)

-- a copy of the layer over itself reads before it writes, and leaves what it copies clear pixels to
copied : let m = draw nothing (Size (pos 0) 3 1 ∷ Rect (pos 0) 0 0 1 1 ∷ Cfill (pos 0) 170 170 170 ∷ Copy (pos 0) 0 0 2 1 (pos 0) 1 0 ∷ []) visible in
    (m.pixel 0 0 ≡ Some grey) × (m.pixel 1 0 ≡ Some grey) × (m.pixel 2 0 ≡ None)
unfolding grey
copied = (refl, refl, refl)

-- a size keeps the common part, and what was cut off comes back clear
resized : let m = draw nothing (Size (pos 0) 2 1 ∷ Rect (pos 0) 0 0 2 1 ∷ Cfill (pos 0) 170 170 170 ∷ Size (pos 0) 1 1 ∷ Size (pos 0) 2 1 ∷ []) visible in
    (m.pixel 0 0 ≡ Some grey) × (m.pixel 1 0 ≡ None)
unfolding grey
resized = (refl, refl)

-- a session with two frames and an owner who read once
session : History
session = Read 1 Suffix ∷ Feed (65 ∷ []) 2 (Sync 2 ∷ []) ∷ Join 1 Control (Sync 1 ∷ []) ∷ Start 2 1 Nobody [] Ascii 100 1 (Sync 1 ∷ []) ∷ []

owner : (delivered session 1 ≡ Sync 1 ∷ Sync 2 ∷ []) × (position session 1 ≡ 2) × (delivered session 2 ≡ []) × (newest session ≡ 2) × (newest_frame session ≡ Sync 2 ∷ []) × (all_frames (upto session 1) ≡ Sync 1 ∷ [])
unfolding session
owner = (refl, refl, refl, refl, refl, refl)
