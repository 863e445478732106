-- What a door with links does, in the words of the door inside it (this project's own). A link's name is `$` and its ID,
-- where the inner door doesn't know that name.
use Rattle.std.specs.Prelude.{◌≡◌, ◌⊎◌, ℕ, List, Bool, true, false, ◌&&◌, ◌||◌, if◌then◌else◌, Option, Some, None, IfSome, IfOk, Result, Ok, Err, is_some, refl}
use Rattle.gate_model.specs.declared.sharing.Asked.{Asked}
use Rattle.gate_model.specs.declared.sharing.Asked.TheVariants.{Owner, Control, View, Keep}
use Rattle.guac_handshake.specs.Doors.{Sessions, at_name}
use Rattle.guac_handshake.specs.Names.{id_of_name}
use Rattle.guac_handshake.specs.Views.{DoorView, Gives, Joins, Looks}
use Rattle.guac_handshake.specs.declared.refused.Refused.{Refused}
use Rattle.guac_handshake.specs.declared.refused.Refused.TheVariants.{Absent, NoMemory}
use Rattle.guac_handshake.specs.declared.welcome.Welcome.{Welcome}
use Rattle.id_table.specs.Maps.{Map}
use Rattle.share_links.specs.Links.{GivesBack, Spends, is_usable}
use Rattle.share_links.specs.declared.door.LinkDoor.{LinkDoor}
use Rattle.share_links.specs.declared.link.Link.{Link}
use Rattle.share_links.specs.declared.table.LinkTable.{LinkTable}

module _ {D : Type 0} where
  abbrev pub inner_of : LinkDoor D → D
  inner_of d = d.inner.now

  abbrev pub table_of : LinkDoor D → LinkTable
  table_of d = d.links.now

  -- it holds the same loans of the two
  abbrev pub HasLoansOf : LinkDoor D → LinkDoor D → Type 0
  HasLoansOf old new = (new.inner.ghost_name ≡ old.inner.ghost_name) × (new.links.ghost_name ≡ old.links.ghost_name)

-- what it tells: neither sessions nor what it was asked, and else what the door inside it tells
abbrev pub told_through : DoorView → DoorView
told_through inner = record inner { sessions = None; asked = None }

-- Control where the link has it and the joiner asks for it; else View
abbrev pub role_through : Bool → Asked → Asked
role_through true Control = Control
role_through true Owner = View
role_through true View = View
role_through true Keep = View
role_through false role = View

-- a View link never asks for Control, and a Control link only for who asks it
view_looks_on : role_through false Control ≡ View
view_looks_on = refl

looker_looks_on : role_through true View ≡ View
looker_looks_on = refl

-- the link of this name
abbrev pub at_link : List ℕ → Map Link → Option Link
at_link name links = at_name (id_of_name name) links

-- an inner door that tells its sessions has this name, or not
abbrev pub HasName : (List ℕ → Option (List ℕ)) → Option Sessions → List ℕ → Bool → Type 0
HasName id_of sessions name has = IfSome sessions (λ m. has ≡ is_some (at_name (id_of name) m))

-- ---- known

-- somebody may join by the link, and its session is there
abbrev pub leads_there : (List ℕ → Option (List ℕ)) → Sessions → Option Link → Bool
leads_there id_of m None = false
leads_there id_of m (Some link) = is_usable (Some link) && is_some (at_name (id_of link.id) m)

-- the name is known: to the inner door, or as a link
abbrev pub is_known_at : (List ℕ → Option (List ℕ)) → Sessions → Map Link → List ℕ → Bool
is_known_at id_of m links name = is_some (at_name (id_of name) m) || leads_there id_of m (at_link name links)

-- ---- join

-- what a join through a link leaves of it: a use was spent, and came back where the joiner was refused
abbrev pub Uses : {A : Type 0} → List ℕ → Result A Refused → Map Link → Map Link → Type 0
Uses link (Ok a) m n = Spends link true m n
Uses link (Err refused) m n = (mid : Map Link) × Spends link true m mid × GivesBack link mid n

-- a join of a session under its own name, of which the joiner is told another: what the inner door answers, or, where it
-- let the viewer in, want of memory for that other name, which is told last: the place went back to the door
pub data Answers {P : Type 0} (id_of : List ℕ → Option (List ℕ)) (id name : List ℕ) (role : Asked) (result : Result (Welcome P) Refused) (before after : DoorView) : Type 0 where
  Answered : Joins (id_of id) id role result before after → IfOk result (λ welcome. welcome.id ≡ name) → Answers id_of id name role result before after
  Returned : result ≡ Err NoMemory → (at_join : DoorView) (welcome : Welcome P) → Joins (id_of id) id role (Ok welcome) before at_join → Gives (id_of id) at_join after → Answers id_of id name role result before after

-- a join through a link: the inner door was asked for the link's session, with the right that both the link has and the
-- joiner asks, and answers; the joiner is told the name that it gave
pub record Through {P : Type 0} (id_of : List ℕ → Option (List ℕ)) (name : List ℕ) (role : Asked) (id : List ℕ) (link : Link) (m n : Map Link) (result : Result (Welcome P) Refused) (before after : DoorView) : Type 0 where
  pub named : id_of_name name ≡ Some id
  pub found : m id ≡ Some link
  pub uses : Uses id result m n
  pub answers : Answers id_of link.id name (role_through link.control role) result before after

-- what a join does of the links and of the inner door, by whether that knows the name. Want of memory is told only where the
-- rules refuse nothing
pub data JoinsThrough {P : Type 0} (id_of : List ℕ → Option (List ℕ)) (name : List ℕ) (role : Asked) (m n : Map Link) (result : Result (Welcome P) Refused) (before after : DoorView) : Type 0 where
  -- it does: it is asked for that
  Inside : HasName id_of before.sessions name true → n ≡ m → Joins (id_of name) name role result before after → JoinsThrough id_of name role m n result before after
  -- there is no such link, or nobody may join by it
  Unusable : HasName id_of before.sessions name false → is_usable (at_link name m) ≡ false → result ≡ Err Absent → n ≡ m → Looks before after → JoinsThrough id_of name role m n result before after
  ByLink : HasName id_of before.sessions name false → (id : List ℕ) (link : Link) → Through id_of name role id link m n result before after → JoinsThrough id_of name role m n result before after

-- the inner door says so of a place: its viewer joined as it asked, or to look on, and was told some ID
abbrev pub IsJoinedAs : {P : Type 0} → (Asked → Welcome P → Type 0) → Asked → Welcome P → Type 0
IsJoinedAs joined role welcome = (asked : Asked) × (id : List ℕ) × ((asked ≡ role) ⊎ (asked ≡ View)) × joined asked (record welcome { id = id })

-- ---- give

-- the name of a link's session, also of a link that is used up or revoked
abbrev pub session_of : List ℕ → Option Link → List ℕ
session_of name None = name
session_of name (Some link) = link.id

-- the name under which the inner door takes a place back
abbrev pub given_as : (List ℕ → Option (List ℕ)) → Sessions → Map Link → List ℕ → List ℕ
given_as id_of m links name = if is_some (at_name (id_of name) m) then name else session_of name (at_link name links)

-- a place was given back to the inner door, under that name
pub record GivesThrough (id_of : List ℕ → Option (List ℕ)) (links : Map Link) (name : List ℕ) (before after : DoorView) : Type 0 where
  pub given : List ℕ
  pub as_given : IfSome before.sessions (λ m. given ≡ given_as id_of m links name)
  pub gives : Gives (id_of given) before after
