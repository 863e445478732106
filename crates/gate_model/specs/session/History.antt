-- A history is the list of a session's entries, the newest first; the oldest is its Start.
use Rattle.std.specs.Prelude.{ℕ, ◌+◌, max, min, List, [], ◌∷◌, ◌++◌, length, unwrap_or, flat_map, filter, Option, Some, None, Bool, false, ◌==◌, nat_le, nat_lt, if◌then◌else◌}
use Rattle.std.specs.List.{list_any}
use Rattle.gate_model.specs.declared.entry.Entry.{Entry}
use Rattle.gate_model.specs.declared.entry.Entry.TheVariants.{Start, Feed, Size}
use Rattle.gate_model.specs.declared.faces.Faces.{Faces}
use Rattle.gate_model.specs.declared.faces.Faces.TheVariants.{Ascii}
use Rattle.gate_model.specs.declared.instr.Instr.{Instr}
use Rattle.gate_model.specs.declared.sharing.Share.{Share}
use Rattle.gate_model.specs.declared.sharing.Share.TheVariants.{Nobody}
use Rattle.gate_model.specs.Limits.{most_clock}
use Rattle.gate_model.specs.terminal.Terminal.{Terminal}
use Rattle.gate_model.specs.terminal.Sizes.{ScreenSize, Opening, Cut, sized}
use Rattle.gate_model.specs.terminal.Screens.{screen}
use Rattle.gate_model.specs.session.Entries.{fed, framed, stamp_of, is_join, is_close}

abbrev pub History : Type 0
History = List Entry

-- the stamp after `last` at the moment `now`: stamps rise, and the clock counts no further than 2^53
abbrev pub next_stamp : ℕ → ℕ → ℕ
next_stamp last now = max (last + 1) (min now most_clock)

-- what Start says: the columns, the rows, the share mode, the terminal type, the faces of the screen and the most
-- entries of the session
abbrev pub columns : History → ℕ
columns [] = 0
columns (Start cols lines mode term faces entries stamp frame ∷ g) = cols
columns (e ∷ g) = columns g

abbrev pub rows : History → ℕ
rows [] = 0
rows (Start cols lines mode term faces entries stamp frame ∷ g) = lines
rows (e ∷ g) = rows g

abbrev pub share_mode : History → Share
share_mode [] = Nobody
share_mode (Start cols lines mode term faces entries stamp frame ∷ g) = mode
share_mode (e ∷ g) = share_mode g

abbrev pub terminal_type : History → List ℕ
terminal_type [] = []
terminal_type (Start cols lines mode term faces entries stamp frame ∷ g) = term
terminal_type (e ∷ g) = terminal_type g

abbrev pub faces : History → Faces
faces [] = Ascii
faces (Start cols lines mode term set entries stamp frame ∷ g) = set
faces (e ∷ g) = faces g

abbrev pub capacity : History → ℕ
capacity [] = 0
capacity (Start cols lines mode term faces entries stamp frame ∷ g) = entries
capacity (e ∷ g) = capacity g

-- the size of the start
abbrev pub first_size : History → ScreenSize
first_size h = sized (columns h) (rows h)

-- how its screen begins
abbrev pub opening : History → Opening
opening h = record { size = first_size h; faces = faces h }

-- the size in force: of the frames, of what the host is told, and of what it is answered. It is the last Size's, or
-- Start's
abbrev pub size_now : History → ScreenSize
size_now [] = sized 0 0
size_now (Start cols lines mode term faces entries stamp frame ∷ g) = sized cols lines
size_now (Size viewer cols lines stamp frame ∷ g) = sized cols lines
size_now (e ∷ g) = size_now g

-- the bytes of every Feed
abbrev pub bytes : History → List ℕ
bytes [] = []
bytes (e ∷ g) = bytes g ++ fed e

-- the changes of size, each after the bytes of the Feeds before it
abbrev pub cuts : History → List Cut
cuts [] = []
cuts (Size viewer cols lines stamp frame ∷ g) = cuts g ++ record { after = length (bytes g); size = sized cols lines } ∷ []
cuts (e ∷ g) = cuts g

-- the screen that the history leaves
abbrev pub at : History → Terminal
at h = screen (opening h) (bytes h) (cuts h)

-- the last stamp
abbrev pub newest : History → ℕ
newest [] = 0
newest (e ∷ g) = unwrap_or (stamp_of e) (newest g)

-- the frames of Start, the Feeds and the Sizes with their stamps, the oldest first
abbrev pub frames : History → List (ℕ × List Instr)
frames [] = []
frames (e ∷ g) = frames g ++ framed e

-- the frame of the last Start, Feed or Size
abbrev pub newest_frame : History → List Instr
newest_frame [] = []
newest_frame (Start cols lines mode term faces entries stamp frame ∷ g) = frame
newest_frame (Feed bytes stamp frame ∷ g) = frame
newest_frame (Size viewer cols lines stamp frame ∷ g) = frame
newest_frame (e ∷ g) = newest_frame g

-- the frames with stamps above t
abbrev pub frames_after : ℕ → List (ℕ × List Instr) → List (ℕ × List Instr)
frames_after t fs = filter (λ f. nat_lt t f.0) fs

-- the instructions of frames, joined
abbrev pub instructions : List (ℕ × List Instr) → List Instr
instructions fs = flat_map (λ f. f.1) fs

-- all that the frames draw, the oldest first
abbrev pub all_frames : History → List Instr
all_frames h = instructions (frames h)

abbrev pub has_stamp : ℕ → Option ℕ → Bool
has_stamp t None = false
has_stamp t (Some s) = s == t

-- an entry has the stamp t
abbrev pub has_entry_at : History → ℕ → Bool
has_entry_at h t = list_any (λ e. has_stamp t (stamp_of e)) h

-- the entries through the one whose stamp is t
abbrev pub upto : History → ℕ → History
upto [] t = []
upto (e ∷ g) t = if has_stamp t (stamp_of e) then e ∷ g else upto g t

-- how many viewers have joined
abbrev pub joined : History → ℕ
joined [] = 0
joined (e ∷ g) = if is_join e then joined g + 1 else joined g

abbrev pub is_closed : History → Bool
is_closed h = list_any is_close h

-- the history has as many entries as it may have
abbrev pub is_full : History → Bool
is_full h = nat_le (capacity h) (length h)
