-- What a request that writes does (this project's own).
use Rattle.std.specs.Prelude.{◌≡◌, ◌⊎◌, ℕ, Bool, true, false, if◌then◌else◌, List, [], ◌∷◌, ◌++◌, Some, None, Result, Ok, Err}
use Rattle.gate_model.specs.declared.entry.Entry.{Entry}
use Rattle.gate_model.specs.declared.write_refusal.WriteRefusal.{WriteRefusal}
use Rattle.gate_model.specs.declared.write_refusal.WriteRefusal.TheVariants as written
use Rattle.gate_model.specs.session.History.{History, is_closed, is_full}
use Rattle.gate_model.specs.session.Rights.{is_live}
use Rattle.id_table.specs.Maps.{Changed, Same, Shelved}
use Rattle.turn_lock.specs.declared.view.View.{View}
use Rattle.shared_desk.specs.Members.{Stays, ViewerState}
use Rattle.shared_desk.specs.Own.{own_entries}
use Rattle.viewer_acts.specs.Parts.{Part, parts_of}
use Rattle.viewer_acts.specs.Doing.{GoesOn, HasDone, StopCause as PartCause, WritesParts}
use Rattle.viewer_acts.specs.Leaving.{MayLeave}
use Rattle.http_tunnel.specs.Bodies.{HasNoRoom, IsBody, IsNoBody, Wish, wish_of}
use Rattle.http_front.specs.declared.refusal.Refusal.{Refusal}
use Rattle.http_front.specs.declared.refusal.Refusal.TheVariants.{NotFound, Form, Method, Dial, Busy, Conflict, Forbidden, TooMany, Closed, NoMemory}
use Rattle.http_tunnel.specs.declared.tunnel.Tunnel.{Tunnel}

-- the Leave that a write may add: none but at the end that a body asks for
abbrev pub MayEnd : Bool → ℕ → List Entry → Type 0
MayEnd false viewer leaves = leaves ≡ []
MayEnd true viewer leaves = MayLeave viewer leaves

-- why acts were refused, by what the pass has seen
abbrev pub WriteCause : Refusal → ℕ → History → Type 0
WriteCause NotFound viewer seen = is_live seen viewer ≡ false
WriteCause Closed viewer seen = (is_closed seen ≡ true) ⊎ (is_full seen ≡ true)
WriteCause NoMemory viewer seen = PartCause written.NoMemory viewer seen
WriteCause Form viewer seen = ⊥
WriteCause Method viewer seen = ⊥
WriteCause Dial viewer seen = ⊥
WriteCause Busy viewer seen = ⊥
WriteCause Conflict viewer seen = ⊥
WriteCause Forbidden viewer seen = ⊥
WriteCause TooMany viewer seen = ⊥

abbrev pub refused_write : WriteRefusal → Refusal
refused_write written.NoViewer = NotFound
refused_write (written.Closed cause) = Closed
refused_write (written.Worn entries) = Closed
refused_write written.NoMemory = NoMemory

-- where its body asks for an end, the viewer has left
pub record HasLeft (viewer : ℕ) (v w : View Entry) (ends : Bool) : Type 0 where
  pub goes_on : GoesOn v w
  pub leaves : List Entry
  pub may : MayEnd ends viewer leaves
  pub own : own_entries w ≡ leaves ++ own_entries v
  pub gone : ends ≡ true → is_live w.seen viewer ≡ false

-- what was asked was done: its acts, those between two sizes by one Write, and each size by a change of size, or
-- passed over
pub record DoesWish (viewer : ℕ) (v w : View Entry) (wish : Wish) : Type 0 where
  pub gained : List Entry
  pub done : HasDone viewer v w (parts_of wish.acts) gained
  pub leaves : List Entry
  pub may : MayEnd wish.ends viewer leaves
  pub own : own_entries w ≡ leaves ++ (gained ++ own_entries v)
  pub gone : wish.ends ≡ true → is_live w.seen viewer ≡ false

-- the first parts of it were done, and the next one was refused. Where no act asks for a size there is one part, so
-- nothing was written
pub record StopsWish (viewer : ℕ) (v w : View Entry) (wish : Wish) (refused : Refusal) : Type 0 where
  pub parts : List Part
  pub lost : Part
  pub left : List Part
  pub split : parts_of wish.acts ≡ parts ++ lost ∷ left
  pub wrote : WritesParts viewer v w parts
  pub cause : WriteCause refused viewer w.seen

abbrev pub WritesWish : ℕ → View Entry → View Entry → Wish → Result Bool Refusal → Type 0
WritesWish viewer v w wish (Ok ended) = (ended ≡ wish.ends) × DoesWish viewer v w wish
WritesWish viewer v w wish (Err refused) = StopsWish viewer v w wish refused

-- a body that wasn't written whole: it is out of form, or memory was wanting in the list of its acts, and nothing was done;
-- or a part of it was refused
abbrev pub IsRefusedWrite : ℕ → View Entry → View Entry → List ℕ → Refusal → Type 0
IsRefusedWrite viewer v w body refused = ((w ≡ v) × (refused ≡ Form) × IsNoBody body) ⊎ (((w ≡ v) × (refused ≡ NoMemory) × HasNoRoom body) ⊎ ((instructions : List (List (List ℕ))) × IsBody body instructions × StopsWish viewer v w (wish_of instructions) refused))

abbrev pub WritesBody : ℕ → View Entry → View Entry → List ℕ → Result Bool Refusal → Type 0
WritesBody viewer v w body (Ok ended) = (instructions : List (List (List ℕ))) × IsBody body instructions × (ended ≡ Wish.ends (wish_of instructions)) × DoesWish viewer v w (wish_of instructions)
WritesBody viewer v w body (Err refused) = IsRefusedWrite viewer v w body refused

-- whether the tunnel goes
abbrev pub is_ended : Result Bool Refusal → Bool
is_ended (Ok ended) = ended
is_ended (Err refused) = false

abbrev pub without_value : Result Bool Refusal → Result (Unit {0}) Refusal
without_value (Ok ended) = Ok tt
without_value (Err refused) = Err refused

-- one write of the tunnel of the ID, which goes only with an end that its body asks for. Nothing of it changes but its
-- writer's pass
pub record IsWriteOf (id body : List ℕ) (back : Bool) (result : Result (Unit {0}) Refusal) (m n : Shelved Tunnel) : Type 0 where
  pub tunnel : Tunnel
  pub there : m id ≡ Some (Some tunnel)
  pub now : ViewerState
  pub stays : Stays tunnel.writer now
  pub done : Result Bool Refusal
  pub wrote : WritesBody tunnel.writer.viewer tunnel.writer.view now.view body done
  pub answered : result ≡ without_value done
  pub removed : back ≡ is_ended done
  pub left : Changed id (if back then None else Some (Some (record tunnel { writer = now }))) m n

-- there is no such tunnel, or it was written
abbrev pub WriteOf : List ℕ → List ℕ → Bool → Result (Unit {0}) Refusal → Shelved Tunnel → Shelved Tunnel → Type 0
WriteOf id body back result m n = ((m id ≡ None) × (back ≡ false) × (result ≡ Err NotFound) × Same m n) ⊎ IsWriteOf id body back result m n

-- .. a tunnel that was lent is there again, or went
abbrev pub HasPut : List ℕ → Tunnel → Bool → Bool → Shelved Tunnel → Shelved Tunnel → Type 0
HasPut id t ended back m n = (back ≡ ended) × Changed id (if back then None else Some (Some t)) m n
