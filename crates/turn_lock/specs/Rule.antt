-- The rule of the lock, which holds between any two steps of any passes (this project's own).
-- Word 0 is the number of entries, word 1 the next ticket and word 2 the ticket that is served. Slot 0 has the value, and is out with a pass while that is inside.
use Rattle.std.specs.Prelude.{◌≡◌, ◌≢◌, ℕ, ◌<◌, ◌≤◌, ◌^◌, Bool, true, false, List, [], ◌∷◌, length, Contains, Option, Some, None}
use mathlib.Core.Option as maybe
use mathlib.Core.Option.{some, none}
use lib.ListN.{get_elem?}
use Rattle.atomic_table.specs.Table.{State}
use Rattle.gate_model.specs.Sequences.{IsLater}
use Rattle.turn_lock.specs.Places.{ArePlaces, IsAt}
use Rattle.turn_lock.specs.Views.{Owns}
use Rattle.turn_lock.specs.declared.view.View.{View}

module _ {A : Type 0} where
  -- P holds of each item
  abbrev pub Each : (A → Type 0) → List A → Type 0
  Each P xs = (i : ℕ) (x : A) → get_elem? xs i ≡ some x → P x

  -- P holds of some item
  abbrev pub Found : (A → Type 0) → List A → Type 0
  Found P xs = (i : ℕ) × (x : A) × (get_elem? xs i ≡ some x) × P x

  -- R holds of each two items at different places
  abbrev pub EachTwo : (A → A → Type 0) → List A → Type 0
  EachTwo R xs = (i j : ℕ) (x y : A) → i ≢ j → get_elem? xs i ≡ some x → get_elem? xs j ≡ some y → R x y

-- the slot with the value in it, or out with a pass
abbrev pub slot_of : {X : Type 0} → maybe.Option X → maybe.Option (Option X)
slot_of none = none
slot_of (some x) = some (Some x)

-- the slot is out with a pass
abbrev pub is_out : {X : Type 0} → maybe.Option X → Bool
is_out none = true
is_out (some x) = false

module _ {E : Type 0} (mark : E → Option ℕ) (history : List E) (next serving : ℕ) (out : Bool) (given : List ℕ) where
  -- what holds of one view. The numbers are those of the parts of `Ruled`
  pub record Knows (v : View E) : Type 0 where
    -- 1: what was seen begins the history, which has at least the known number of entries. What was met begins what was seen
    pub seen : IsLater v.seen history
    pub met : IsLater v.met v.seen
    pub known : v.known ≤ length history
    -- 2: a ticket is at least the one that is served, and below the next
    pub ticket : (t : ℕ) → v.ticket ≡ Some t → (serving ≤ t) × (t < next)
    -- 3: a pass inside has the ticket that is served and has seen the whole history. 4: the slot is out with it
    pub inside : v.inside ≡ true → (v.ticket ≡ Some serving) × (v.seen ≡ history) × (out ≡ true)
    -- 5: its places lie within what it has seen, and none stands twice
    pub places : ArePlaces (length v.seen) v.mine
    -- 6: each entry of its mark stands at one of its places
    pub owns : Owns mark history v
    -- 6: the first pass has mark 0, and gave what was given
    pub first : (ms : List ℕ) → v.given ≡ Some ms → (v.mark ≡ Some 0) × (ms ≡ given)
    -- 6: any other pass has no mark, or one that was given
    pub other : v.given ≡ None → (m : ℕ) → v.mark ≡ Some m → Contains given m

-- what holds of two views
pub record Apart {E : Type 0} (v w : View E) : Type 0 where
  -- 2: they have different tickets
  pub tickets : (t : ℕ) → v.ticket ≡ Some t → ¬ (w.ticket ≡ Some t)
  -- 3: they are not both inside
  pub insides : v.inside ≡ true → ¬ (w.inside ≡ true)
  -- 5: they have no place in common
  pub places : (p : ℕ) → Contains v.mine p → ¬ (Contains w.mine p)
  -- 6: they have different marks, and are not both the first pass
  pub marks : (m : ℕ) → v.mark ≡ Some m → ¬ (w.mark ≡ Some m)
  pub firsts : (ms ns : List ℕ) → v.given ≡ Some ms → ¬ (w.given ≡ Some ns)

-- The rule, in its six parts. The list `views` has one view for each pass ever made: a pass that was dropped keeps its last, and one that is spent knows nothing, so that all of this holds of it too.
pub record Ruled {X E : Type 0} (stands : X → List E → Type 0) (mark : E → Option ℕ) (s : State (Option X) (View E)) : Type 0 where
  pub history : List E
  pub next : ℕ
  pub serving : ℕ
  -- the value, while the slot is not out with a pass
  pub value : maybe.Option X
  -- the marks that the first pass gave
  pub given : List ℕ
  -- 1: one history, of as many entries as word 0 says
  pub words : s.words ≡ length history ∷ next ∷ serving ∷ []
  pub slots : s.homes ≡ slot_of value ∷ []
  -- 2: word 2 is at most word 1, which does not wrap
  pub order : serving ≤ next
  pub bounded : next < 2 ^ 64
  -- 1 to 6, of each view and of each two
  pub each : Each (Knows mark history next serving (is_out value) given) s.views
  pub apart : EachTwo Apart s.views
  -- 4: a value in the slot stands for the history, and the slot is out only while a pass is inside
  pub stood : (x : X) → value ≡ some x → stands x history
  pub holder : is_out value ≡ true → Found (λ v. v.inside ≡ true) s.views
  -- 6: there is a first pass, it never gave 0, and no entry has a mark other than 0 that it did not give
  pub first : Found (λ v. v.given ≡ Some given) s.views
  pub no_zero : ¬ (Contains given 0)
  pub marked : (p m : ℕ) (e : E) → IsAt history p e → mark e ≡ Some m → m ≢ 0 → Contains given m
