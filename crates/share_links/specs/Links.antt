-- Links that let people join a session, and what each call does to them (this project's own). A link is found by its
-- ID, the list of its 16 bytes.
use Rattle.std.specs.Prelude.{◌≡◌, ℕ, ◌+◌, ◌-◌, ◌&&◌, List, Bool, true, false, not, nat_lt, Option, Some, None, IfSome}
use Rattle.id_table.specs.Draws.{AreNext, AreThere}
use Rattle.id_table.specs.Maps.{Changed, Map, Same}
use Rattle.id_table.specs.Tables.{held}
use Rattle.share_links.specs.declared.link.Link.{Link}
use Rattle.share_links.specs.declared.table.LinkTable.{LinkTable}
use Rattle.share_links.specs.declared.table.LinkRefusal.{LinkRefusal}
use Rattle.share_links.specs.declared.table.LinkRefusal.TheVariants.{Conflict, NoMemory}
use Rattle.share_links.specs.declared.table.Spent.{Spent}

-- the links of a table
abbrev pub links_of : LinkTable → Map Link
links_of table = held table.links

-- a new link: to the session of this name, with this right and so many uses
abbrev pub is_made : List ℕ → Bool → ℕ → Link → Type 0
is_made id control uses link = (link.id ≡ id) × (link.control ≡ control) × (link.uses ≡ uses) × (link.left ≡ uses) × (link.revoked ≡ false)

-- a link that somebody may join by
abbrev pub is_usable : Option Link → Bool
is_usable None = false
is_usable (Some link) = nat_lt 0 link.left && not link.revoked

-- the same link but for the uses that are left
pub record HasLeft (old : Link) (left : ℕ) (new : Link) : Type 0 where
  pub id : new.id ≡ old.id
  pub control : new.control ≡ old.control
  pub uses : new.uses ≡ old.uses
  pub revoked : new.revoked ≡ old.revoked
  pub left_is : new.left ≡ left

-- the same link, revoked
pub record IsRevoked (old new : Link) : Type 0 where
  pub id : new.id ≡ old.id
  pub control : new.control ≡ old.control
  pub uses : new.uses ≡ old.uses
  pub left_is : new.left ≡ old.left
  pub revoked : new.revoked ≡ true

-- one link was changed so, and no other
abbrev pub ChangedTo : List ℕ → (Link → Link → Type 0) → Map Link → Map Link → Type 0
ChangedTo id P m n = (old : Link) × (new : Link) × (m id ≡ Some old) × P old new × Changed id (Some new) m n

-- a link was made under an ID that was absent
abbrev pub Makes : List ℕ → List ℕ → Bool → ℕ → Map Link → Map Link → Type 0
Makes link id control uses m n = (made : Link) × is_made id control uses made × (m link ≡ None) × Changed link (Some made) m n

-- a use was spent, exactly where the link was usable; else nothing changed
abbrev pub Spends : List ℕ → Bool → Map Link → Map Link → Type 0
Spends id true m n = (is_usable (m id) ≡ true) × ChangedTo id (λ old. HasLeft old (old.left - 1)) m n
Spends id false m n = (is_usable (m id) ≡ false) × Same m n

-- a use came back
abbrev pub GivesBack : List ℕ → Map Link → Map Link → Type 0
GivesBack id m n = ChangedTo id (λ old. HasLeft old (old.left + 1)) m n

-- the link is revoked, exactly where it is there
abbrev pub Revokes : List ℕ → Bool → Map Link → Map Link → Type 0
Revokes id true m n = ChangedTo id IsRevoked m n
Revokes id false m n = (m id ≡ None) × Same m n

-- a use of the link was spent and hasn't come back
abbrev pub IsSpent : List ℕ → Map Link → Type 0
IsSpent id m = (link : Link) × (m id ≡ Some link) × (nat_lt link.left link.uses ≡ true)

-- where a link leads
abbrev pub Leads : Option Spent → Option Link → Type 0
Leads None None = Unit {0}
Leads None (Some link) = ⊥
Leads (Some spent) None = ⊥
Leads (Some spent) (Some link) = (spent.id.now ≡ link.id) × (spent.control ≡ link.control)

-- if four drawn IDs were there: a fact about them
abbrev pub IfConflict : LinkRefusal → (List (List ℕ) → Type 0) → Type 0
IfConflict (Conflict drawn) P = P drawn
IfConflict NoMemory P = Unit {0}

-- four IDs are there, which are those of the next four draws, where the dice tell them
abbrev pub AreDrawnThere : Option (ℕ → List ℕ) → Map Link → List (List ℕ) → Type 0
AreDrawnThere drawn m ids = AreThere m 4 ids × IfSome drawn (λ draws. AreNext draws 4 ids)
