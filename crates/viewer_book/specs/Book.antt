-- What the book of a session's viewers keeps, and what each call makes of it (this project's own).
use Rattle.std.specs.Prelude.{ℕ, ◌+◌, ◌<◌, ◌≤◌, List, [], ◌∷◌, ◌++◌, length, map, filter, Bool, true, false, not, ◌==◌, nat_le, nat_lt, if◌then◌else◌, Option, Some, is_some, ⊤}
use Rattle.std.specs.List.{find}
use Rattle.gate_model.specs.declared.mods.Mods.{Mods}
use Rattle.gate_model.specs.declared.sharing.Role.{Role}
use Rattle.gate_model.specs.Limits.{most_live, most_joined}
use Rattle.gate_model.specs.session.Rights.{none_held}
use Rattle.gate_model.specs.session.Waiting.{is_keep}
use Rattle.viewer_book.specs.declared.viewer.Viewer.{Viewer}

-- how many viewers have joined, and those that are live, in the order of their numbers
pub record BookState : Type 0 where
  pub joined : ℕ
  pub viewers : List Viewer

-- the numbers rise: each is above the one before, the first above `low`, and none is above `most`
abbrev pub AreRising : ℕ → ℕ → List Viewer → Type 0
AreRising low most [] = ⊤
AreRising low most (v ∷ vs) = (low < v.number) × (v.number ≤ most) × AreRising v.number most vs

-- what is true of every book: both limits are kept, and the numbers rise from 1 to the number of
-- viewers that have joined
pub record IsBook (b : BookState) : Type 0 where
  pub few_live : length b.viewers ≤ most_live
  pub few_joined : b.joined ≤ most_joined
  pub rising : AreRising 0 b.joined b.viewers

-- ---- what a book tells

-- the viewer has this number
abbrev pub has_number : ℕ → Viewer → Bool
has_number number v = v.number == number

-- the live viewer of this number, if there is one
abbrev pub viewer_at : BookState → ℕ → Option Viewer
viewer_at b number = find (has_number number) b.viewers

-- there is a live viewer of this number
abbrev pub is_live : BookState → ℕ → Bool
is_live b number = is_some (viewer_at b number)

-- the number of live viewers
abbrev pub live_count : BookState → ℕ
live_count b = length b.viewers

-- ---- what a call makes of it

-- nobody has joined
abbrev pub nobody : BookState
nobody = record { joined = 0; viewers = [] }

-- a stamp that a viewer of this role was given waits for its acknowledgement, but for a recorder's
abbrev pub with_stamp : Role → List ℕ → ℕ → List ℕ
with_stamp role stamps stamp = if is_keep (Some role) then stamps else stamps ++ stamp ∷ []

-- a viewer that joins: it was given everything up to the stamp
abbrev pub newcomer : ℕ → Role → ℕ → Viewer
newcomer number role stamp = record { number = number; role = role; position = stamp; waiting = with_stamp role [] stamp; ended = false; mods = none_held }

-- the next viewer has joined
abbrev pub added : BookState → Role → ℕ → BookState
added b role stamp = record { joined = b.joined + 1; viewers = b.viewers ++ newcomer (b.joined + 1) role stamp ∷ [] }

-- the viewer of this number is changed, and no other
abbrev pub changed : BookState → ℕ → (Viewer → Viewer) → BookState
changed b number change = record b { viewers = map (λ v. if has_number number v then change v else v) b.viewers }

-- the viewer of this number has left
abbrev pub removed : BookState → ℕ → BookState
removed b number = record b { viewers = filter (λ v. not (has_number number v)) b.viewers }

-- ---- the changes of a viewer

-- it holds these modifiers
abbrev pub holding : Mods → Viewer → Viewer
holding mods v = record v { mods = mods }

-- it was given everything up to the stamp, which waits
abbrev pub moved_to : ℕ → Viewer → Viewer
moved_to stamp v = record v { position = stamp; waiting = with_stamp v.role v.waiting stamp }

-- it acknowledges the stamps up to this one, if that isn't above its position
abbrev pub acknowledging : ℕ → Viewer → Viewer
acknowledging stamp v = record v { waiting = if nat_le stamp v.position then filter (λ s. nat_lt stamp s) v.waiting else v.waiting }

-- it was given everything up to the stamp, and the closing instruction
abbrev pub ended_at : ℕ → Viewer → Viewer
ended_at stamp v = record v { position = stamp; ended = true }
