-- What one entry of a history holds, one function for each thing that is asked of it.
use Rattle.std.specs.Prelude.{ℕ, List, [], ◌∷◌, Option, Some, None, Bool, true, false, ◌==◌}
use Rattle.gate_model.specs.declared.entry.Entry.{Entry}
use Rattle.gate_model.specs.declared.entry.Entry.TheVariants.{Start, Feed, Size, Join, Take, Leave, Close}
use Rattle.gate_model.specs.declared.instr.Instr.{Instr}

-- the bytes of a Feed
abbrev pub fed : Entry → List ℕ
fed (Feed bytes stamp frame) = bytes
fed e = []

-- the frame of a Start, a Feed or a Size, with its stamp
abbrev pub framed : Entry → List (ℕ × List Instr)
framed (Start cols rows mode term faces entries stamp frame) = (stamp, frame) ∷ []
framed (Feed bytes stamp frame) = (stamp, frame) ∷ []
framed (Size viewer cols rows stamp frame) = (stamp, frame) ∷ []
framed e = []

-- the stamp of a Start, a Feed or a Size
abbrev pub stamp_of : Entry → Option ℕ
stamp_of (Start cols rows mode term faces entries stamp frame) = Some stamp
stamp_of (Feed bytes stamp frame) = Some stamp
stamp_of (Size viewer cols rows stamp frame) = Some stamp
stamp_of e = None

abbrev pub is_join : Entry → Bool
is_join (Join viewer role first) = true
is_join e = false

abbrev pub is_leave : Entry → Bool
is_leave (Leave viewer) = true
is_leave e = false

abbrev pub is_close : Entry → Bool
is_close (Close cause) = true
is_close e = false

-- the entry is a Join, or a Leave, of the viewer
abbrev pub joins : ℕ → Entry → Bool
joins v (Join viewer role first) = viewer == v
joins v e = false

abbrev pub leaves : ℕ → Entry → Bool
leaves v (Leave viewer) = viewer == v
leaves v e = false

-- how many bytes a Take hands out
abbrev pub taken_by : Entry → ℕ
taken_by (Take count) = count
taken_by e = 0
