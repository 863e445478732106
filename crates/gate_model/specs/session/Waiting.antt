-- Which stamps a viewer was given and hasn't acknowledged (this project's own). None wait for a recorder, and none that
-- a closed session gives.
use Rattle.std.specs.Prelude.{ℕ, List, [], ◌∷◌, ◌++◌, length, filter, Bool, true, false, ◌||◌, ◌==◌, nat_le, nat_lt, Option, Some, None, if◌then◌else◌}
use Rattle.gate_model.specs.declared.act.Act.{Act}
use Rattle.gate_model.specs.declared.act.Act.TheVariants.{Sync as sync_act}
use Rattle.gate_model.specs.declared.entry.Entry.TheVariants.{Write}
use Rattle.gate_model.specs.declared.instr.Instr.{Instr}
use Rattle.gate_model.specs.declared.instr.Instr.TheVariants.{Sync}
use Rattle.gate_model.specs.declared.sharing.Role.{Role}
use Rattle.gate_model.specs.declared.sharing.Role.TheVariants.{Control, View, Keep}
use Rattle.gate_model.specs.session.Delivered.{position, shown_by}
use Rattle.gate_model.specs.session.History.{History, is_closed}
use Rattle.gate_model.specs.session.Rights.{role_in}

-- the stamps of the syncs of a list, in their order
abbrev pub stamps_in : List Instr → List ℕ
stamps_in [] = []
stamps_in (Sync t ∷ is) = t ∷ stamps_in is
stamps_in (i ∷ is) = stamps_in is

-- what an act of a viewer, who was given everything up to the stamp p, leaves of the stamps that wait: an
-- acknowledgement those above its own; one of a stamp that the viewer wasn't given has no effect
abbrev pub left_by : ℕ → List ℕ → Act → List ℕ
left_by p stamps (sync_act t) = if nat_le t p then filter (λ s. nat_lt t s) stamps else stamps
left_by p stamps a = stamps

abbrev pub left_by_all : ℕ → List ℕ → List Act → List ℕ
left_by_all p stamps [] = stamps
left_by_all p stamps (a ∷ acts) = left_by_all p (left_by p stamps a) acts

abbrev pub is_keep : Option Role → Bool
is_keep (Some Control) = false
is_keep (Some View) = false
is_keep (Some Keep) = true
is_keep None = false

-- the stamps that wait for the viewer's acknowledgement, oldest first
abbrev pub awaited : History → ℕ → List ℕ
awaited [] v = []
awaited (Write viewer acts ∷ g) v = if viewer == v then left_by_all (position g v) (awaited g v) acts else awaited g v
awaited (e ∷ g) v = if is_closed g || is_keep (role_in (e ∷ g) v) then awaited g v else awaited g v ++ stamps_in (shown_by g (position g v) v e)

-- how many wait
abbrev pub waiting : History → ℕ → ℕ
waiting h v = length (awaited h v)
