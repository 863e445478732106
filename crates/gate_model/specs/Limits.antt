-- The limits of the gateway (this project's own). `limits` has the same numbers for code.
use Rattle.std.specs.Prelude.{ℕ, ◌^◌}

-- the most columns and rows of a screen
abbrev pub most_columns : ℕ
most_columns = 512

abbrev pub most_rows : ℕ
most_rows = 256

-- the most characters of a terminal type
abbrev pub most_term : ℕ
most_term = 40

-- the most bytes of one piece of the Telnet stream
abbrev pub most_piece : ℕ
most_piece = 65536

-- the most cells of a screen that a script opens
abbrev pub most_cells : ℕ
most_cells = 8192

-- the most entries of a session
abbrev pub most_entries : ℕ
most_entries = 2 ^ 40

-- the clock counts no further than this
abbrev pub most_clock : ℕ
most_clock = 2 ^ 53

-- the most stamps that may wait for a viewer's acknowledgement when it is given more
abbrev pub most_waiting : ℕ
most_waiting = 64

-- the most acts of one write
abbrev pub most_acts : ℕ
most_acts = 4096

-- the most viewers that are there at once, and the most that ever join
abbrev pub most_live : ℕ
most_live = 64

abbrev pub most_joined : ℕ
most_joined = 1000000

-- the most bytes of a Telnet subnegotiation that has a meaning, counted undoubled
abbrev pub most_in_sub : ℕ
most_in_sub = 1024

-- the most buffers, and the most pixels of a layer's width and height
abbrev pub most_buffers : ℕ
most_buffers = 1024

abbrev pub most_extent : ℕ
most_extent = 4096

-- the most bytes of an instruction with its `;`, and the most elements of one
abbrev pub most_bytes : ℕ
most_bytes = 8192

abbrev pub most_elements : ℕ
most_elements = 128

-- the most frames that are kept for viewers who are behind, and the most bytes of their text
abbrev pub most_kept_frames : ℕ
most_kept_frames = 256

abbrev pub most_kept_text : ℕ
most_kept_text = 8388608
