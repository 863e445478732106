-- Worked buffers, changed places and costs, computed from the definitions.
use Rattle.std.specs.Prelude.{◌≡◌, ℕ, List, [], ◌∷◌, true, false, refl, pos, negsuc, length, Some}
use Rattle.bstr.proofs.Computing.{computing}
use Rattle.unicode_width.proofs.Computing.{unicode_width}
use Rattle.gate_model.specs.terminal.Printing.{width_of}
use Rattle.gate_model.specs.text.Reading.{read}
use Rattle.gate_model.specs.picture.Palette.{colour_of}
use Rattle.gate_model.specs.declared.faces.Faces.TheVariants.{Ascii}
use Rattle.gate_model.specs.declared.colour.Colour.{Colour}
use Rattle.gate_model.specs.declared.entry.Entry.{Entry}
use Rattle.gate_model.specs.declared.entry.Entry.TheVariants.{Start, Feed}
use Rattle.gate_model.specs.declared.instr.Instr.TheVariants.{Sync}
use Rattle.gate_model.specs.declared.key.Key.{Key}
use Rattle.gate_model.specs.declared.sharing.Share.TheVariants.{Nobody}
use Rattle.gate_model.specs.picture.KeyGrid.{KeyGrid}
use Rattle.gate_model.specs.picture.Glyphs.{lit}
use Rattle.gate_model.specs.picture.Pictures.{picture}
use Rattle.gate_model.specs.picture.Buffers.{buffer_key, layers, is_held, new_keys}
use Rattle.gate_model.specs.terminal.Sizes.{in_ascii}
use Rattle.gate_model.specs.terminal.Screens.{screen, shown}
use Rattle.gate_model.specs.session.History.{History, at}
use Rattle.gate_model.specs.session.Cost.{changes, cost, keys_shown, old_row, rise}

-- ---- places

-- no line scrolled; fewer than there are; as many; more
rows : (old_row 0 3 1 ≡ 1) × (old_row 1 3 1 ≡ 2) × (old_row 1 3 2 ≡ 2) × (old_row 2 3 0 ≡ 2) × (old_row 3 3 0 ≡ 0) × (old_row 4 3 2 ≡ 2)
rows = (refl, refl, refl, refl, refl, refl)

-- ---- histories

opening : ℕ → ℕ → History
opening cols rows = Start cols rows Nobody [] Ascii 100 1 (Sync 1 ∷ []) ∷ []

-- what a Feed of these bytes makes: the lines scrolled, the places that changed, the keys that are new, and the bound
record Fed : Type 0 where
  scrolled : ℕ
  changed : List ℕ
  fresh : ℕ
  most : ℕ

fed : History → List ℕ → Fed
fed h bytes =
    let e : Entry = Feed bytes 9 [] in
    let after : KeyGrid = shown (at (e ∷ h)) in
    let changed : List ℕ = changes (shown (at h)) after (rise e h) in
    let fresh : ℕ = length (new_keys (keys_shown h) after.keys) in
    record { scrolled = rise e h; changed = changed; fresh = fresh; most = cost (length changed) fresh }

-- a first A, then a B, whose cell showed the cursor, and then an A that has its buffer
first_glyph : fed (opening 4 1) (65 ∷ []) ≡ record { scrolled = 0; changed = 0 ∷ 1 ∷ []; fresh = 1; most = 47 }
unfolding computing read opening fed width_of unicode_width
first_glyph = refl

second_glyph : fed (Feed (65 ∷ []) 2 [] ∷ opening 4 1) (66 ∷ []) ≡ record { scrolled = 0; changed = 1 ∷ 2 ∷ []; fresh = 1; most = 47 }
unfolding computing read opening fed width_of unicode_width
second_glyph = refl

known_glyph : fed (Feed (66 ∷ []) 3 [] ∷ Feed (65 ∷ []) 2 [] ∷ opening 4 1) (65 ∷ []) ≡ record { scrolled = 0; changed = 2 ∷ 3 ∷ []; fresh = 0; most = 7 }
unfolding computing read opening fed width_of unicode_width
known_glyph = refl

-- three lines on two rows: the row of A goes, and that of B moves up
scroll : fed (opening 2 2) (65 ∷ 13 ∷ 10 ∷ 66 ∷ 13 ∷ 10 ∷ 67 ∷ []) ≡ record { scrolled = 1; changed = 0 ∷ 2 ∷ 3 ∷ []; fresh = 2; most = 89 }
unfolding computing read opening fed width_of unicode_width
scroll = refl

-- the keys that were shown, the oldest first: a blank under the cursor, a blank, the A and the B
shown_so_far : length (keys_shown (Feed (65 ∷ []) 3 [] ∷ Feed (66 ∷ []) 2 [] ∷ opening 4 1)) ≡ 4
unfolding computing read opening width_of unicode_width
shown_so_far = refl

-- ---- keys

letter : ℕ → Key
letter face = record { face = face; under = false; ink = 7; paper = 0 }

-- each new key once, in the order of the places; an underline makes another key
repeats : (new_keys (letter 65 ∷ []) (letter 66 ∷ letter 65 ∷ letter 66 ∷ letter 67 ∷ letter 66 ∷ []) ≡ letter 66 ∷ letter 67 ∷ [])
    × (is_held (letter 66 ∷ letter 65 ∷ []) (letter 65) ≡ true) × (is_held (letter 65 ∷ []) (record (letter 65) { under = true }) ≡ false)
unfolding letter
repeats = (refl, refl, refl)

-- ---- layers

grey : Colour
grey = record { red = 170; green = 170; blue = 170 }

black : Colour
black = record { red = 0; green = 0; blue = 0 }

-- a screen of one place, which shows the cursor, and one buffer with an A
one_buffer : let m = layers (shown (screen (in_ascii 1 1) [] [])) (letter 65 ∷ []) in
    ((m (pos 0)).width ≡ 8) × ((m (pos 0)).height ≡ 16) × ((m (pos 0)).pixel 7 15 ≡ Some grey)
    × ((m (negsuc 0)).width ≡ 8) × ((m (negsuc 0)).height ≡ 16) × ((m (negsuc 0)).pixel 1 4 ≡ Some grey) × ((m (negsuc 0)).pixel 1 2 ≡ Some black)
    × ((m (negsuc 1)).width ≡ 0) × ((m (pos 1)).height ≡ 0) × (buffer_key (letter 65 ∷ []) (negsuc 0) ≡ Some (letter 65))
unfolding computing read colour_of picture lit letter grey black width_of unicode_width
one_buffer = (refl, refl, refl, refl, refl, refl, refl, refl, refl, refl)
