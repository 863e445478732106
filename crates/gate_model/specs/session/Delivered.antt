-- What a viewer was given.
use Rattle.std.specs.Prelude.{ℕ, List, [], ◌∷◌, ◌++◌, Bool, true, false, ◌==◌, if◌then◌else◌}
use Rattle.gate_model.specs.declared.cause.Cause.{Cause}
use Rattle.gate_model.specs.declared.cause.Cause.TheVariants.{ServerEnd, LinkFault, Stopped, Worn}
use Rattle.gate_model.specs.declared.how.How.{How}
use Rattle.gate_model.specs.declared.how.How.TheVariants.{Suffix, Fresh}
use Rattle.gate_model.specs.declared.entry.Entry.{Entry}
use Rattle.gate_model.specs.declared.entry.Entry.TheVariants.{Join, Read, Close}
use Rattle.gate_model.specs.declared.instr.Instr.{Instr}
use Rattle.gate_model.specs.declared.instr.Instr.TheVariants.{Sync, Disconnect, Error}
use Rattle.gate_model.specs.session.History.{History, frames, frames_after, instructions}
use Rattle.gate_model.specs.text.Statuses.{session_closed}

-- the stamp of the last sync of a list; of a list without one it is the stamp before it
abbrev pub last_sync_from : ℕ → List Instr → ℕ
last_sync_from t [] = t
last_sync_from t (Sync s ∷ is) = last_sync_from s is
last_sync_from t (i ∷ is) = last_sync_from t is

abbrev pub last_sync : List Instr → ℕ
last_sync is = last_sync_from 0 is

-- what a closed session's viewers are given last
abbrev pub farewell : Cause → Instr
farewell ServerEnd = Disconnect
farewell LinkFault = Error session_closed
farewell Stopped = Error session_closed
farewell Worn = Error session_closed

abbrev pub closing : History → List Instr
closing [] = []
closing (Close cause ∷ g) = farewell cause ∷ []
closing (e ∷ g) = closing g

-- what a read gives a viewer who was given everything up to the stamp t
abbrev pub handed : History → ℕ → How → List Instr
handed g t Suffix = instructions (frames_after t (frames g))
handed g t (Fresh is) = is

-- the frames that the entry e hands to the viewer v, who was given everything up to the stamp t: a Join
-- hands out its first instructions
abbrev pub shown_by : History → ℕ → ℕ → Entry → List Instr
shown_by g t v (Join viewer role first) = if viewer == v then first else []
shown_by g t v (Read viewer how) = if viewer == v then handed g t how else []
shown_by g t v e = []

-- the closing instruction, with which a read in a closed session ends
abbrev pub closed_by : History → ℕ → Entry → List Instr
closed_by g v (Read viewer how) = if viewer == v then closing g else []
closed_by g v e = []

-- what the entry e gives the viewer v, who was given `before` by the entries g before it
abbrev pub given : History → List Instr → ℕ → Entry → List Instr
given g before v e = shown_by g (last_sync before) v e ++ closed_by g v e

abbrev pub delivered : History → ℕ → List Instr
delivered [] v = []
delivered (e ∷ g) v = delivered g v ++ given g (delivered g v) v e

-- the last stamp that the viewer was given
abbrev pub position : History → ℕ → ℕ
position h v = last_sync (delivered h v)

-- what the viewer was given but for the closing instruction, and that instruction, once it was given
abbrev pub shown_to : History → ℕ → List Instr
shown_to [] v = []
shown_to (e ∷ g) v = shown_to g v ++ shown_by g (position g v) v e

abbrev pub farewell_to : History → ℕ → List Instr
farewell_to [] v = []
farewell_to (e ∷ g) v = farewell_to g v ++ closed_by g v e

-- the viewer was given the closing instruction
abbrev pub is_some_list : List Instr → Bool
is_some_list [] = false
is_some_list (i ∷ is) = true

abbrev pub ended : History → ℕ → Bool
ended h v = is_some_list (farewell_to h v)
