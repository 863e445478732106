-- What a list of calls on a table of links leaves (this project's own). The newest call comes first.
use Rattle.std.specs.Prelude.{◌≡◌, ◌≢◌, ℕ, ◌+◌, ◌-◌, List, [], ◌∷◌, ◌++◌, Bool, true, false, bytes_eq, ◌&&◌, if◌then◌else◌, Some, None, refl}
use Rattle.id_table.specs.Maps.{Map}
use Rattle.share_links.specs.Links.{GivesBack, IsSpent, Makes, Revokes, Spends}
use Rattle.share_links.specs.declared.link.Link.{Link}

-- a call, and what it answered
pub data Call : Type 0 where
  -- a link was made under this ID
  Make : (link : List ℕ) (id : List ℕ) (control : Bool) (uses : ℕ) → Call
  -- the link was asked for a use, and gave one or not
  Spend : (link : List ℕ) (given : Bool) → Call
  GiveBack : (link : List ℕ) → Call
  -- the link was there or not
  Revoke : (link : List ℕ) (there : Bool) → Call

-- what a call does to the links, by the rules
abbrev pub Does : Call → Map Link → Map Link → Type 0
Does (Make link id control uses) m n = Makes link id control uses m n
Does (Spend link given) m n = Spends link given m n
Does (GiveBack link) m n = IsSpent link m × GivesBack link m n
Does (Revoke link there) m n = Revokes link there m n

-- the calls leave these links, from none
abbrev pub Leave : List Call → Map Link → Type 0
Leave [] m = (k : List ℕ) → m k ≡ None
Leave (call ∷ before) m = (old : Map Link) × Leave before old × Does call old m

-- the uses of a link that were spent and didn't come back
abbrev pub granted_by : List ℕ → Call → ℕ → ℕ
granted_by link (Make other id control uses) n = n
granted_by link (Spend other given) n = if given && bytes_eq other link then n + 1 else n
granted_by link (GiveBack other) n = if bytes_eq other link then n - 1 else n
granted_by link (Revoke other there) n = n

abbrev pub granted : List ℕ → List Call → ℕ
granted link [] = 0
granted link (call ∷ before) = granted_by link call (granted link before)

-- a spend that found nothing to spend isn't granted, a use that came back isn't any more, and another link's aren't
one_came_back : granted (1 ∷ []) (GiveBack (1 ∷ []) ∷ Spend (2 ∷ []) true ∷ Spend (1 ∷ []) false ∷ Spend (1 ∷ []) true ∷ Spend (1 ∷ []) true ∷ Make (1 ∷ []) [] true 2 ∷ []) ≡ 1
one_came_back = refl

-- a revocation takes back no use that was granted
revoked_behind : granted (1 ∷ []) (Spend (1 ∷ []) false ∷ Revoke (1 ∷ []) true ∷ Spend (1 ∷ []) true ∷ Make (1 ∷ []) [] false 3 ∷ []) ≡ 1
revoked_behind = refl

-- the uses that are granted and those that are left are those that the link was made with
abbrev pub UsesAreCounted : Type 0
UsesAreCounted = (calls : List Call) (m : Map Link) (link : List ℕ) (it : Link) → Leave calls m → m link ≡ Some it → granted link calls + it.left ≡ it.uses

-- no use of the link is spent in these calls
abbrev pub SpendNone : List ℕ → List Call → Type 0
SpendNone link [] = Unit {0}
SpendNone link (Make other id control uses ∷ calls) = SpendNone link calls
SpendNone link (Spend other given ∷ calls) = (given ≡ true → other ≢ link) × SpendNone link calls
SpendNone link (GiveBack other ∷ calls) = SpendNone link calls
SpendNone link (Revoke other there ∷ calls) = SpendNone link calls

-- once a link is revoked, no use of it is spent
abbrev pub RevokedIsFinal : Type 0
RevokedIsFinal = (later before : List Call) (m : Map Link) (link : List ℕ) → Leave (later ++ Revoke link true ∷ before) m → SpendNone link later
