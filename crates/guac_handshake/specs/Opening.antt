-- What a door was asked by a form, and what it answered (this project's own).
use Rattle.std.specs.Prelude.{◌≡◌, ◌⊎◌, ◌+◌, ℕ, List, Bool, true, false, Option, IfSome, Result, Ok, Err, is_some}
use Rattle.std.specs.Option.{option_map}
use Rattle.gate_outside.specs.Helpers.{CountsFaults}
use Rattle.id_table.specs.Maps.{Same, Told}
use Rattle.guac_handshake.specs.Doors.{KeepsIds, Sessions, TouchesOne, asked_more, at_name, logged_for}
use Rattle.guac_handshake.specs.Views.{DoorView, MayRefuse, Names}
use Rattle.guac_handshake.specs.Forms.{IsForm, IsNoForm}
use Rattle.guac_handshake.specs.declared.form_refusal.FormRefusal.{FormRefusal}
use Rattle.guac_handshake.specs.declared.form_refusal.FormRefusal.TheVariants as refusal
use Rattle.guac_handshake.specs.declared.refused.Refused.{Refused}
use Rattle.guac_handshake.specs.declared.refused.Refused.TheVariants.{Absent, Busy, Dial}
use Rattle.guac_handshake.specs.declared.request.Request.{Request}
use Rattle.guac_handshake.specs.declared.request.Request.TheVariants.{Begin, Join}
use Rattle.guac_handshake.specs.declared.welcome.Welcome.{Welcome}

-- whether the session that is asked for is there, where the door tells; one that is to begin is asked for anyhow
abbrev pub IsThere : (List ℕ → Option (List ℕ)) → Option Sessions → Request → Bool → Type 0
IsThere id_of sessions (Begin ask) there = there ≡ true
IsThere id_of sessions (Join name role) there = IfSome sessions (λ m. there ≡ is_some (at_name (id_of name) m))

-- why the door gave no place: it doesn't have the session of that ID, and wasn't asked; or it was asked and refused
abbrev pub IsRefusedBy : (List ℕ → Option (List ℕ)) → DoorView → DoorView → Request → Refused → Type 0
IsRefusedBy id_of before after request refused =
    (IsThere id_of before.sessions request false × (refused ≡ Absent) × (after.asked ≡ before.asked) × Told before.sessions after.sessions Same) ⊎ (MayRefuse id_of before after request refused × (after.asked ≡ logged_for before.asked request refused))

-- the form asks something of the door, which answered so; or it is out of form, or memory was wanting, and the door
-- wasn't asked
abbrev pub HasOpened : {P : Type 0} → (List ℕ → Option (List ℕ)) → (Request → Welcome P → Type 0) → DoorView → DoorView → List ℕ → Result (Welcome P) FormRefusal → Type 0
HasOpened id_of gives before after body (Ok welcome) = (request : Request) × IsForm body request × (after.asked ≡ asked_more before.asked request) × Names id_of before after request welcome.id × gives request welcome
HasOpened id_of gives before after body (Err refusal.Form) = IsNoForm body × (after.asked ≡ before.asked)
HasOpened id_of gives before after body (Err refusal.NoMemory) = after.asked ≡ before.asked
HasOpened id_of gives before after body (Err (refusal.Door refused)) = (request : Request) × IsForm body request × IsRefusedBy id_of before after request refused

-- the sessions that it touched: that of the welcome; without one, no session is there that wasn't, and where the door
-- wasn't asked each is as it was
abbrev pub HasMoved : {P : Type 0} → (List ℕ → Option (List ℕ)) → Result (Welcome P) FormRefusal → Sessions → Sessions → Type 0
HasMoved id_of (Ok welcome) m n = TouchesOne (id_of welcome.id) m n
HasMoved id_of (Err refusal.Form) m n = Same m n
HasMoved id_of (Err refusal.NoMemory) m n = Same m n
HasMoved id_of (Err (refusal.Door refused)) m n = (name : Option (List ℕ)) × KeepsIds name m n

-- a place more is out where one was given
abbrev pub with_opened : {P : Type 0} → Result (Welcome P) FormRefusal → Option ℕ → Option ℕ
with_opened (Ok welcome) out = option_map (λ n. n + 1) out
with_opened (Err refused) out = out

-- what it touches of a door: its sessions, and its places that are out
pub record Moves {P : Type 0} (id_of : List ℕ → Option (List ℕ)) (result : Result (Welcome P) FormRefusal) (before after : DoorView) : Type 0 where
  pub sessions : Told before.sessions after.sessions (HasMoved id_of result)
  pub out : after.out ≡ with_opened result before.out

abbrev pub IsDoor : {P : Type 0} → Refused → Result (Welcome P) FormRefusal → Type 0
IsDoor refused r = r ≡ Err (refusal.Door refused)

-- what the form asks of the door, which answered so, and what it touched: Dial comes only where the count of dials that
-- failed rose, and Busy only where that of starts did
pub record AnswersForm {P : Type 0} (id_of : List ℕ → Option (List ℕ)) (gives : Request → Welcome P → Type 0) (before after : DoorView) (form : List ℕ) (answer : Result (Welcome P) FormRefusal) : Type 0 where
  pub opened : HasOpened id_of gives before after form answer
  pub moves : Moves id_of answer before after
  pub faults : CountsFaults (IsDoor Dial answer) (IsDoor Busy answer) before.helper after.helper
