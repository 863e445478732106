-- What contracts say of a lock and of its passes (this project's own).
use Rattle.std.specs.Prelude.{◌≡◌, ℕ, true, false, List, [], ◌∷◌, Option, None}
use Rattle.atomic_table.specs.Seated.{TableId}
use Rattle.turn_lock.specs.Views.{MayAdd}
use Rattle.turn_lock.specs.declared.lock.TurnLock.{TurnLock}
use Rattle.turn_lock.specs.declared.pass.Pass.{Pass}
use Rattle.turn_lock.specs.declared.view.View.{View}

module _ {X E : Type 0} where
  -- which lock it is
  abbrev pub name_of : TurnLock X E → TableId
  name_of l = l.table.shared.table_id

  -- which lock the pass belongs to
  abbrev pub lock_of : Pass X E → TableId
  lock_of p = p.seat.table_id

  -- what the pass knows
  abbrev pub view_of : Pass X E → View E
  view_of p = p.seat.me.0

  -- the pass belongs to the lock, and is outside any turn
  pub record IsOutside (l : TurnLock X E) (p : Pass X E) : Type 0 where
    pub lock : lock_of p ≡ name_of l
    pub ticket : (view_of p).ticket ≡ None
    pub inside : (view_of p).inside ≡ false
    pub slot : p.seat.me.1 ≡ []

  -- the pass belongs to the lock, may have a ticket, and is not inside
  pub record IsWaiting (l : TurnLock X E) (p : Pass X E) : Type 0 where
    pub lock : lock_of p ≡ name_of l
    pub inside : (view_of p).inside ≡ false
    pub slot : p.seat.me.1 ≡ []

  -- the pass belongs to the lock, and is inside with the value out
  pub record IsInside (l : TurnLock X E) (p : Pass X E) : Type 0 where
    pub lock : lock_of p ≡ name_of l
    pub inside : (view_of p).inside ≡ true
    pub slot : p.seat.me.1 ≡ (0, None) ∷ []

  -- the entry is one that is named, a pass with this view may add it, and the value stands for what was seen followed by it
  pub record IsNext (stands : X → List E → Type 0) (mark : E → Option ℕ) (adds : E → Type 0) (value : X) (v : View E) (e : E) : Type 0 where
    pub named : adds e
    pub may : MayAdd mark v e
    pub stood : stands value (e ∷ v.seen)
