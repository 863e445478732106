-- The screen that a session's bytes and its changes of size leave, and what it shows.
use Rattle.std.specs.Prelude.{ℕ, List, [], ◌∷◌, ◌++◌, length, take, drop, map, flat_map, ◌==◌, if◌then◌else◌, slice_set, ◌<◌, All}
use Rattle.gate_model.specs.declared.cell.Cell.{Cell}
use Rattle.gate_model.specs.declared.cell.Half.{Half}
use Rattle.gate_model.specs.declared.cell.Half.TheVariants.{Whole, Left, Right}
use Rattle.gate_model.specs.declared.key.Key.{Key}
use Rattle.gate_model.specs.declared.faces.Faces.{Faces}
use Rattle.gate_model.specs.declared.faces.Faces.TheVariants.{Ascii, More}
use Rattle.gate_model.specs.picture.Glyphs.{is_ascii, is_more, left_face, right_face}
use Rattle.gate_model.specs.declared.control.Control.{Control}
use Rattle.gate_model.specs.declared.token.Token.{Token}
use Rattle.gate_model.specs.declared.token.Token.TheVariants.{Byte, Do, Dont, Will, Wont, Sub, Single}
use Rattle.gate_model.specs.terminal.Cells.{place}
use Rattle.gate_model.specs.terminal.Characters.{characters}
use Rattle.gate_model.specs.terminal.Controls.{controls}
use Rattle.gate_model.specs.terminal.Effects.{effect}
use Rattle.gate_model.specs.picture.KeyGrid.{KeyGrid}
use Rattle.gate_model.specs.picture.Pictures.{key_at}
use Rattle.gate_model.specs.telnet.TelnetTokens.{tokens}
use Rattle.gate_model.specs.terminal.Resizing.{resized}
use Rattle.gate_model.specs.terminal.Sizes.{ScreenSize, Opening, Cut}
use Rattle.gate_model.specs.terminal.Terminal.{Terminal, opening_screen}

-- the data bytes among Telnet tokens
abbrev pub data_byte : Token → List ℕ
data_byte (Byte b) = b ∷ []
data_byte (Do option) = []
data_byte (Dont option) = []
data_byte (Will option) = []
data_byte (Wont option) = []
data_byte (Sub bytes) = []
data_byte (Single b) = []

abbrev pub data_of : List Token → List ℕ
data_of ts = flat_map data_byte ts

-- the control functions that Telnet tokens complete
abbrev pub functions : List Token → List Control
functions ts = controls (characters (data_of ts))

-- the screen after more control functions
abbrev pub after_controls : Terminal → List Control → Terminal
after_controls t [] = t
after_controls t (c ∷ cs) = after_controls (effect c t) cs

-- what bytes complete past those before them
abbrev pub completed : List ℕ → List ℕ → List Control
completed bytes more = drop (length (functions (tokens bytes))) (functions (tokens (bytes ++ more)))

-- ---- from the start

-- what happens to a screen: a control function, or a change of its size
pub data Happening : Type 0 where
  Does : Control → Happening
  Turns : ScreenSize → Happening

-- what happens by bytes and changes of size, past the first `done` control functions
abbrev pub happens_past : ℕ → List ℕ → List Cut → List Happening
happens_past done bytes [] = map Does (drop done (functions (tokens bytes)))
happens_past done bytes (cut ∷ cuts) =
    let before = functions (tokens (take cut.after bytes)) in
    map Does (drop done before) ++ Turns cut.size ∷ happens_past (length before) bytes cuts

-- each change stands after the control functions of the bytes before it, and before all later ones
abbrev pub happens : List ℕ → List Cut → List Happening
happens bytes cuts = happens_past 0 bytes cuts

-- the screen after it
abbrev pub after_all : Terminal → List Happening → Terminal
after_all t [] = t
after_all t (Does c ∷ hs) = after_all (effect c t) hs
after_all t (Turns s ∷ hs) = after_all (resized s.columns s.rows t) hs

-- the screen that bytes of a Telnet host and changes of size leave from the start
abbrev pub screen : Opening → List ℕ → List Cut → Terminal
screen start bytes cuts = after_all (opening_screen start.faces start.size.columns start.size.rows) (happens bytes cuts)

-- ---- what it shows

-- the face of a whole character of the other set: itself where that has it, a space for U+00A0, and U+FFFD otherwise
abbrev pub more_face : ℕ → ℕ
more_face c = if is_more c then c else (if c == 0xA0 then 32 else 0xFFFD)

-- the face of a whole character: itself from U+0020 to U+007E; of every other one it is U+FFFD in the set of ASCII
abbrev pub whole_face : Faces → ℕ → ℕ
whole_face Ascii c = if is_ascii c then c else 0xFFFD
whole_face More c = if is_ascii c then c else more_face c

-- the face of a cell: the halves have their own
abbrev pub face_of : Faces → Half → ℕ → ℕ
face_of faces Whole c = whole_face faces c
face_of faces Left c = left_face
face_of faces Right c = right_face

abbrev pub key_of : Faces → Cell → Key
key_of faces c = record { face = face_of faces c.half c.ch; under = c.under; ink = c.ink; paper = c.paper }

-- ink and paper are indexes of the palette
abbrev pub IsColoured : Key → Type 0
IsColoured k = (k.ink < 256) × (k.paper < 256)

abbrev pub AreColoured : List Key → Type 0
AreColoured keys = All IsColoured keys

-- ink and paper exchanged, as under the cursor
abbrev pub exchanged : Key → Key
exchanged k = record k { ink = k.paper; paper = k.ink }

-- the keys with the one at the place exchanged
abbrev pub exchanged_at : ℕ → List Key → List Key
exchanged_at place keys = slice_set keys place (exchanged (key_at keys place))

-- the key of each place, exchanged under a visible cursor
abbrev pub shown : Terminal → KeyGrid
shown t = let keys = map (key_of t.faces) t.grid.cells in record {
  cols = t.grid.cols;
  rows = t.grid.rows;
  keys = if t.modes.visible then exchanged_at (place t.x t.y t.grid) keys else keys;
}
