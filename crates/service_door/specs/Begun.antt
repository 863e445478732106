-- What a session begins with, and a viewer's place in it (this project's own).
use Rattle.std.specs.Prelude.{◌≡◌, ℕ, ◌^◌, Bool, List, [], ◌∷◌, Option, Some, None, false, Ok}
use Rattle.gate_model.specs.session.History.{History, share_mode}
use Rattle.gate_model.specs.session.Roles.{grant_of}
use Rattle.gate_model.specs.declared.entry.Entry.TheVariants.{Join, Start}
use Rattle.gate_model.specs.declared.faces.Faces.{Faces}
use Rattle.gate_model.specs.declared.instr.Instr.{Instr}
use Rattle.gate_model.specs.declared.setup.Setup.{Setup}
use Rattle.gate_model.specs.declared.sharing.Asked.{Asked}
use Rattle.gate_model.specs.declared.sharing.Role.TheVariants.{Control}
use Rattle.guac_handshake.specs.Names.{id_of_name}
use Rattle.guac_handshake.specs.declared.ask.Ask.{Ask}
use Rattle.guac_handshake.specs.declared.welcome.Welcome.{Welcome}
use Rattle.id_table.specs.Maps.{Shelved}
use Rattle.shared_desk.specs.Hosts.{HostState, IsFresh}
use Rattle.shared_desk.specs.declared.place.Place.{Place}
use Rattle.service_door.specs.Recorders.{HasSeen}
use Rattle.service_door.specs.Sessions.{SessionState}

-- the most entries of a session
abbrev pub most_entries : ℕ
most_entries = 2 ^ 40

-- the session is opened as it was asked, with the faces of the door, for as many entries as a session may have
pub record HasSetup (ask : Ask) (set : Faces) (setup : Setup) : Type 0 where
  pub cols : setup.cols ≡ ask.cols
  pub rows : setup.rows ≡ ask.rows
  pub mode : setup.mode ≡ ask.mode
  pub term : setup.term ≡ ask.term
  pub faces : setup.faces ≡ set
  pub entries : setup.entries ≡ most_entries

-- the place is that of this viewer of the host's session
pub record IsSeated (viewer : ℕ) (place : Place) (host : HostState) : Type 0 where
  pub sessions : (place.reader.session ≡ host.session) × (place.writer.session ≡ host.session)
  pub viewers : (place.reader.viewer ≡ viewer) × (place.writer.viewer ≡ viewer)

-- the host has seen a Start as it was asked, and the Join of viewer 1, who may type; the place is its. Where no
-- recorder is wanted it has seen just these
pub record HasStarted (wanted : Bool) (faces : Faces) (ask : Ask) (place : Place) (host : HostState) : Type 0 where
  pub stamp : ℕ
  pub frame : List Instr
  pub first : List Instr
  pub seen : HasSeen wanted (Join 1 Control first ∷ Start ask.cols ask.rows ask.mode ask.term faces most_entries stamp frame ∷ []) host.view.seen
  pub role : place.role ≡ Control
  pub seat : IsSeated 1 place host

-- a session that its owner has joined, whose link nobody has
pub record HasOpened (faces : Faces) (ask : Ask) (host : HostState) (place : Place) (given : List ℕ) : Type 0 where
  pub started : HasStarted false faces ask place host
  pub linked : host.linked ≡ false
  pub fresh : IsFresh place given

-- the session is the host's, with one place out
pub record HasPrepared (host : HostState) (s : SessionState) : Type 0 where
  pub session : s.host.session ≡ host.session
  pub seen : s.host.view.seen ≡ host.view.seen
  pub places : s.places ≡ 1

-- a session for the table, with one place out: its owner's, and what that is given first
pub record IsMade (wanted : Bool) (faces : Faces) (ask : Ask) (session : SessionState) (place : Place) (given : List ℕ) : Type 0 where
  pub started : HasStarted wanted faces ask place session.host
  pub places : session.places ≡ 1
  pub fresh : IsFresh place given

-- a session of this name is in the table, so begun; one place of it is out, and a recorder's isn't counted
pub record IsBegunAt (wanted : Bool) (faces : Faces) (m : Shelved SessionState) (ask : Ask) (welcome : Welcome Place) : Type 0 where
  pub id : List ℕ
  pub named : id_of_name welcome.id ≡ Some id
  pub session : SessionState
  pub there : m id ≡ Some (Some session)
  pub started : HasStarted wanted faces ask welcome.place session.host
  pub places : session.places ≡ 1

abbrev pub IsBegun : Bool → Faces → Option (Shelved SessionState) → Ask → Welcome Place → Type 0
IsBegun wanted faces None ask welcome = Unit {0}
IsBegun wanted faces (Some m) ask welcome = IsBegunAt wanted faces m ask welcome

-- the host has seen last the Join of the viewer whose place this is, with the role that the table of roles gives for what
-- was asked
pub record HasJoinedLast (asked : Asked) (place : Place) (host : HostState) : Type 0 where
  pub viewer : ℕ
  pub first : List Instr
  pub before : History
  pub seen : host.view.seen ≡ Join viewer place.role first ∷ before
  pub role : grant_of (share_mode before) asked ≡ Ok place.role
  pub seat : IsSeated viewer place host

-- the viewer of this welcome has joined the session of its ID last, as it asked
pub record IsJoinedAt (m : Shelved SessionState) (asked : Asked) (welcome : Welcome Place) : Type 0 where
  pub id : List ℕ
  pub named : id_of_name welcome.id ≡ Some id
  pub session : SessionState
  pub there : m id ≡ Some (Some session)
  pub joined : HasJoinedLast asked welcome.place session.host

abbrev pub IsJoined : Option (Shelved SessionState) → Asked → Welcome Place → Type 0
IsJoined None asked welcome = Unit {0}
IsJoined (Some m) asked welcome = IsJoinedAt m asked welcome
