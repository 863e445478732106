-- The marks of entries: each kind of pass adds entries of one mark, and entries without one (this project's
-- own).
use Rattle.std.specs.Prelude.{ℕ, ◌+◌, ◌*◌, Option, Some, None}
use Rattle.gate_model.specs.declared.entry.Entry.{Entry}
use Rattle.gate_model.specs.declared.entry.Entry.TheVariants.{Feed, Size, Take, Join, Read, Write}
use Rattle.gate_model.specs.declared.event.Event.{Event}
use Rattle.gate_model.specs.declared.event.Event.TheVariants.{Feed as feed, Take as take_most, Join as join, Read as read, Write as write, Resize as resize}

-- the mark of a viewer's reads, and of its writes and its sizes
abbrev pub reader_mark : ℕ → ℕ
reader_mark v = 2 * v + 1

abbrev pub writer_mark : ℕ → ℕ
writer_mark v = 2 * v + 2

-- the host's pass has mark 0, the link's 1 and the sender's 2. A Leave and a Close have no mark: several
-- passes may add one
abbrev pub mark_of : Entry → Option ℕ
mark_of (Feed bytes stamp frame) = Some 1
mark_of (Take count) = Some 2
mark_of (Join viewer role first) = Some 0
mark_of (Read viewer how) = Some (reader_mark viewer)
mark_of (Write viewer acts) = Some (writer_mark viewer)
mark_of (Size viewer cols rows stamp frame) = Some (writer_mark viewer)
mark_of e = None

-- the mark of the entry that a call adds
abbrev pub mark_for : Event → Option ℕ
mark_for (feed bytes now) = Some 1
mark_for (take_most most) = Some 2
mark_for (join asked) = Some 0
mark_for (read viewer) = Some (reader_mark viewer)
mark_for (write viewer acts) = Some (writer_mark viewer)
mark_for (resize viewer cols rows) = Some (writer_mark viewer)
mark_for event = None
