-- What contracts say of a host's pass, and of the passes that it gives out (this project's own).
use Rattle.std.specs.Prelude.{◌≡◌, ◌⊎◌, ℕ, ◌+◌, ◌*◌, ◌≤◌, Bool, false, List, [], ◌∷◌, ◌++◌, length, Contains, if◌then◌else◌, Option, Some, None, Result, Ok, Err}
use Rattle.atomic_table.specs.Seated.{TableId}
use Rattle.gate_model.specs.session.Delivered.{delivered}
use Rattle.gate_model.specs.session.History.{History, joined}
use Rattle.gate_model.specs.text.Text.{texts}
use Rattle.gate_model.specs.declared.answer.Answer.TheVariants.{Join as joined_as}
use Rattle.gate_model.specs.declared.entry.Entry.{Entry}
use Rattle.gate_model.specs.declared.entry.Entry.TheVariants.{Join}
use Rattle.gate_model.specs.declared.event.Event.TheVariants.{Join as join}
use Rattle.gate_model.specs.declared.instr.Instr.{Instr}
use Rattle.gate_model.specs.declared.join_refusal.JoinRefusal.{JoinRefusal}
use Rattle.gate_model.specs.declared.joined.Joined.{Joined}
use Rattle.gate_model.specs.declared.sharing.Asked.{Asked}
use Rattle.gate_model.specs.declared.sharing.Role.{Role}
use Rattle.desk_core.specs.Calls.{join_answer}
use Rattle.turn_lock.specs.declared.view.View.{View}
use Rattle.turn_lock.specs.Views.{giving, part_of, beginning}
use Rattle.shared_desk.specs.Called.{Gives}
use Rattle.shared_desk.specs.Marks.{mark_of, reader_mark, writer_mark}
use Rattle.shared_desk.specs.Members.{IsSound, PassState}
use Rattle.shared_desk.specs.declared.place.Place.{Place}

-- of which session it is, what it knows, whether it gave the passes of the link, and how many of the passes
-- that it gave out were not given back
pub record HostState : Type 0 where
  pub session : TableId
  pub view : View Entry
  pub linked : Bool
  pub out : ℕ

-- it is still of this session, and has given the passes of the link or not as before
pub record StaysHost (before after : HostState) : Type 0 where
  pub session : after.session ≡ before.session
  pub linked : after.linked ≡ before.linked

-- how many passes `link` is still to give
abbrev pub unlinked : Bool → ℕ
unlinked linked = if linked then 0 else 2

-- the first pass: each mark that it gave is that of the link, of the sender or of a viewer that joined, and so
-- is each pass that is out
pub record IsHost (h : HostState) : Type 0 where
  pub mark : h.view.mark ≡ Some 0
  pub given : List ℕ
  pub gave : h.view.given ≡ Some given
  pub bound : (n : ℕ) → Contains given n → n ≤ 2 * joined h.view.seen + 2
  pub begun : 1 ≤ length h.view.seen
  pub few : h.out + unlinked h.linked ≤ 2 * joined h.view.seen + 2
  pub unlinked : h.linked ≡ false → (n : ℕ) → Contains given n → 3 ≤ n

-- what the host knows once it gave a viewer's two passes
abbrev pub with_place : ℕ → View Entry → View Entry
with_place viewer v = giving (Some (writer_mark viewer)) (giving (Some (reader_mark viewer)) v)

-- the passes of a viewer and its role, as the host gives them: they have seen just what the host has
pub record IsPlaceOf (h : HostState) (number : ℕ) (granted : Role) (place : Place) : Type 0 where
  pub sessions : (place.reader.session ≡ h.session) × (place.writer.session ≡ h.session)
  pub viewers : (place.reader.viewer ≡ number) × (place.writer.viewer ≡ number)
  pub reader : place.reader.view ≡ part_of (Some (reader_mark number)) h.view
  pub writer : (v : View Entry) × (v.seen ≡ h.view.seen) × (place.writer.view ≡ part_of (Some (writer_mark number)) v)
  pub role : place.role ≡ granted

-- the place is fresh for a text: its passes are of one session and of the viewer of one Join, after which
-- neither has seen anything nor added an entry, the history up to it is sound, and the text is that of what the Join
-- gave
pub record IsFresh (place : Place) (given : List ℕ) : Type 0 where
  pub session : place.reader.session ≡ place.writer.session
  pub viewer : place.reader.viewer ≡ place.writer.viewer
  pub before : History
  pub first : List Instr
  pub reader : place.reader.view.seen ≡ Join place.reader.viewer place.role first ∷ before
  pub writer : place.writer.view.seen ≡ Join place.reader.viewer place.role first ∷ before
  pub sound : IsSound place.reader.view.seen
  pub none : (place.reader.view.mine ≡ []) × (place.writer.view.mine ≡ [])
  pub text : given ≡ texts (delivered place.reader.view.seen place.reader.viewer)

-- a session that may be shared: its Start alone, or its Start and the Join of viewer 1
abbrev pub IsOpening : History → Type 0
IsOpening h = ((e : Entry) × (h ≡ e ∷ [])) ⊎ ((e : Entry) × (role : Role) × (first : List Instr) × (h ≡ Join 1 role first ∷ e ∷ []))

-- the role of viewer 1, where it has joined
abbrev pub HasOwner : History → Option Role → Type 0
HasOwner h None = joined h ≡ 0
HasOwner h (Some role) = (e : Entry) × (first : List Instr) × (h ≡ Join 1 role first ∷ e ∷ [])

-- a host that has seen just this, and has given the place of viewer 1, with the role of its Join, exactly where it has
-- joined
abbrev pub HasBegun : History → HostState → Option Place → Type 0
HasBegun h host None = (joined h ≡ 0) × (host.view ≡ beginning mark_of h) × (host.linked ≡ false) × (host.out ≡ 0)
HasBegun h host (Some place) = (joined h ≡ 1) × (host.view ≡ with_place 1 (beginning mark_of h)) × (host.linked ≡ false) × (host.out ≡ 2)
    × (place.reader.session ≡ host.session) × (place.reader.viewer ≡ 1) × HasOwner h (Some place.role) × IsFresh place (texts (delivered h 1))

-- a viewer has joined in a turn that left w, and its place is fresh for what was appended
pub record HasJoined (v : View Entry) (asked : Asked) (place : Place) (w : View Entry) (before after : List ℕ) : Type 0 where
  pub now : View Entry
  pub answer : Joined
  pub called : Gives v (join asked) (Ok (joined_as (Ok answer))) now before after
  pub view : w ≡ with_place answer.viewer now
  pub viewer : place.reader.viewer ≡ answer.viewer
  pub role : place.role ≡ answer.role
  pub text : List ℕ
  pub appended : after ≡ before ++ text
  pub fresh : IsFresh place text

-- how a join ends: in a turn, want of memory too, which comes only where nothing else refuses the viewer
abbrev pub JoinEnds : View Entry → Asked → Result Place JoinRefusal → View Entry → List ℕ → List ℕ → Type 0
JoinEnds v asked (Ok place) w before after = HasJoined v asked place w before after
JoinEnds v asked (Err refusal) w before after = Gives v (join asked) (join_answer (Err refusal)) w before after

-- what the host knows once it gave the passes of the link
abbrev pub with_link : View Entry → View Entry
with_link v = giving (Some 2) (giving (Some 1) v)

-- the passes of the link, as the host gives them: they have seen just what the host has
pub record AreLinked (h : HostState) (one other : PassState) : Type 0 where
  pub sessions : (one.session ≡ h.session) × (other.session ≡ h.session)
  pub link : one.view ≡ part_of (Some 1) h.view
  pub sender : other.view ≡ part_of (Some 2) (giving (Some 1) h.view)
