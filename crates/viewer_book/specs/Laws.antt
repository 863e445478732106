-- The laws about books, which public functions of `laws` prove: a call changes one viewer alone.
use Rattle.std.specs.Prelude.{◌≡◌, ◌≢◌, ℕ, ◌+◌, ◌<◌, ◌≤◌, Some, None, IsTrue, option_map}
use Rattle.gate_model.specs.declared.sharing.Role.{Role}
use Rattle.viewer_book.specs.declared.viewer.Viewer.{Viewer}
use Rattle.gate_model.specs.Limits.{most_live, most_joined}
use Rattle.viewer_book.specs.Book.{BookState, IsBook, viewer_at, is_live, live_count, newcomer, added, changed, removed}

-- one viewer came in, under the next number, and every other is as before
pub record AddsOne (b : BookState) (role : Role) (stamp : ℕ) : Type 0 where
  pub viewer : viewer_at (added b role stamp) (b.joined + 1) ≡ Some (newcomer (b.joined + 1) role stamp)
  pub others : (n : ℕ) → n ≢ b.joined + 1 → viewer_at (added b role stamp) n ≡ viewer_at b n
  pub joined : (added b role stamp).joined ≡ b.joined + 1
  pub live : live_count (added b role stamp) ≡ live_count b + 1
  pub book : live_count b < most_live → b.joined < most_joined → IsBook (added b role stamp)

-- one viewer is changed, and every other is as before
pub record ChangesOne (b : BookState) (number : ℕ) (change : Viewer → Viewer) : Type 0 where
  pub viewer : viewer_at (changed b number change) number ≡ option_map change (viewer_at b number)
  pub others : (n : ℕ) → n ≢ number → viewer_at (changed b number change) n ≡ viewer_at b n
  pub joined : (changed b number change).joined ≡ b.joined
  pub live : live_count (changed b number change) ≡ live_count b
  pub book : IsBook (changed b number change)

-- one viewer is gone, and every other is as before
pub record RemovesOne (b : BookState) (number : ℕ) : Type 0 where
  pub viewer : viewer_at (removed b number) number ≡ None
  pub others : (n : ℕ) → n ≢ number → viewer_at (removed b number) n ≡ viewer_at b n
  pub joined : (removed b number).joined ≡ b.joined
  pub live : IsTrue (is_live b number) → live_count (removed b number) + 1 ≡ live_count b
  pub book : IsBook (removed b number)

-- the viewer that is found has the number that was asked for, and that number was given
pub record IsFound (b : BookState) (number : ℕ) (v : Viewer) : Type 0 where
  pub own : v.number ≡ number
  pub first : 1 ≤ number
  pub last : number ≤ b.joined

-- an addition adds one viewer
abbrev pub AdditionsAddOne : Type 0
AdditionsAddOne = (b : BookState) (role : Role) (stamp : ℕ) → IsBook b → AddsOne b role stamp

-- a change that keeps the viewer's number changes one viewer
abbrev pub ChangesChangeOne : Type 0
ChangesChangeOne = (b : BookState) (number : ℕ) (change : Viewer → Viewer) → IsBook b → ((v : Viewer) → (change v).number ≡ v.number) → ChangesOne b number change

-- a removal removes one viewer
abbrev pub RemovalsRemoveOne : Type 0
RemovalsRemoveOne = (b : BookState) (number : ℕ) → IsBook b → RemovesOne b number

-- every live viewer has a number that was given
abbrev pub LiveHaveJoined : Type 0
LiveHaveJoined = (b : BookState) (number : ℕ) (v : Viewer) → IsBook b → viewer_at b number ≡ Some v → IsFound b number v

-- the next number is no live viewer's, so none is given twice
abbrev pub NextIsNew : Type 0
NextIsNew = (b : BookState) → IsBook b → viewer_at b (b.joined + 1) ≡ None
