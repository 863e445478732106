-- The entries that a pass added (this project's own).
use Rattle.std.specs.Prelude.{◌≡◌, ℕ, List, [], ◌∷◌, length, Bool, ◌==◌, if◌then◌else◌, Result, Ok, Err}
use Rattle.std.specs.List.{list_any}
use Rattle.gate_model.specs.declared.entry.Entry.{Entry}
use Rattle.gate_model.specs.declared.entry.Entry.TheVariants.{Read, Size}
use Rattle.gate_model.specs.declared.instr.Instr.{Instr}
use Rattle.gate_model.specs.declared.resize_refusal.ResizeRefusal.{ResizeRefusal}
use Rattle.gate_model.specs.session.History.{History}
use Rattle.turn_lock.specs.declared.view.View.{View}

abbrev pub is_place : List ℕ → ℕ → Bool
is_place ps n = list_any (λ p. p == n) ps

-- the entries at these places, the newest first
abbrev pub entries_at : List ℕ → History → List Entry
entries_at ps [] = []
entries_at ps (e ∷ g) = if is_place ps (length g) then e ∷ entries_at ps g else entries_at ps g

-- those at a pass's own places
abbrev pub own_entries : View Entry → List Entry
own_entries v = entries_at v.mine v.seen

-- they are Reads of this viewer
abbrev pub AreReads : ℕ → List Entry → Type 0
AreReads viewer [] = Unit {0}
AreReads viewer (Read v how ∷ es) = (v ≡ viewer) × AreReads viewer es
AreReads viewer (e ∷ es) = ⊥

-- what a change of size that was answered so adds: one Size with its stamp, or nothing
abbrev pub AreSized : ℕ → ℕ → ℕ → Result ℕ ResizeRefusal → List Entry → Type 0
AreSized viewer cols rows (Ok stamp) sized = (frame : List Instr) × (sized ≡ Size viewer cols rows stamp frame ∷ [])
AreSized viewer cols rows (Err refusal) sized = sized ≡ []
