-- A table before and after a call, where its shelf tells it.
use Rattle.std.proofs.Common.{◌≡◌, ◌≢◌, ℕ, List, true, false, Option, Some, None, refl, ap, sym, ◌∙◌, true≢false, ◌⊎◌}
use Rattle.std.specs.Prelude.{IfSome, is_some}
use Rattle.std.specs.Option.{unwrap_or}
use Rattle.id_table.specs.Maps.{Changed, IsLent, Shelved, Told}
use Rattle.guac_handshake.specs.Doors.{Sessions}
use Rattle.guac_handshake.proofs.Undone.{by_id}
use Rattle.service_door.specs.Sessions.{NoneLent, histories, sessions_of}
use Rattle.service_door.specs.Doors.{Table}

pub none_some : {A : Type 0} (x : A) → None ≡ Some x → ⊥
none_some x e = true≢false (sym (ap is_some e))

pub same_some : {A : Type 0} (x y : A) → Some x ≡ Some y → x ≡ y
same_some x y e = ap (λ (o : Option _). unwrap_or o x) e

-- ---- facts of what is told before and after

-- one after the other
pub told_then : {M : Type 0} (r s t : Option M) (P Q R : M → M → Type 0) → ((k m n : M) → P k m → Q m n → R k n) → Told r s P → Told s t Q → Told r t R
told_then None None None P Q R f p q = tt
told_then None None (Some n) P Q R f p q = absurd q
told_then None (Some m) t P Q R f p q = absurd p
told_then (Some k) None t P Q R f p q = absurd p
told_then (Some k) (Some m) None P Q R f p q = absurd q
told_then (Some k) (Some m) (Some n) P Q R f p q = f k m n p q

-- what follows from it
pub told_so : {M : Type 0} (s t : Option M) (P R : M → M → Type 0) → ((m n : M) → P m n → R m n) → Told s t P → Told s t R
told_so None None P R f p = tt
told_so None (Some n) P R f p = absurd p
told_so (Some m) None P R f p = absurd p
told_so (Some m) (Some n) P R f p = f m n p

-- .. and of the histories
pub sessions_so : (s t : Option Table) (P : Table → Table → Type 0) (R : Sessions → Sessions → Type 0) → ((m n : Table) → P m n → R (histories m) (histories n)) → Told s t P → Told (sessions_of s) (sessions_of t) R
sessions_so None None P R f p = tt
sessions_so None (Some n) P R f p = absurd p
sessions_so (Some m) None P R f p = absurd p
sessions_so (Some m) (Some n) P R f p = f m n p

-- a shelf that isn't called tells the same
pub sessions_same : (s : Option Table) (R : Sessions → Sessions → Type 0) → ((m : Table) → R (histories m) (histories m)) → Told (sessions_of s) (sessions_of s) R
sessions_same None R f = tt
sessions_same (Some m) R f = f m

pub told_same : (s : Option Table) (R : Table → Table → Type 0) → ((m : Table) → R m m) → Told s s R
told_same None R f = tt
told_same (Some m) R f = f m

-- what holds of the table after a call
pub after_so : (s t : Option Table) (P : Table → Table → Type 0) (R : Sessions → Type 0) → ((m n : Table) → P m n → R (histories n)) → Told s t P → IfSome (sessions_of t) R
after_so None None P R f p = tt
after_so None (Some n) P R f p = absurd p
after_so (Some m) None P R f p = absurd p
after_so (Some m) (Some n) P R f p = f m n p

-- ---- nothing is lent

-- no ID is lent, so this one isn't
pub not_lent : {V : Type 0} (told : Option (Shelved V)) (id : List ℕ) → NoneLent told → IfSome told (λ m. ¬ (IsLent id m))
not_lent None id h = tt
not_lent (Some m) id h = h m refl id

pub untold_unlent : {V : Type 0} → NoneLent {V = V} None
untold_unlent {V} = λ m e. absurd (none_some m e)

abbrev at : {V : Type 0} → Shelved V → List ℕ → Option (Shelved V) → Option (Option V)
at m id None = m id
at m id (Some q) = q id

-- a call that leaves none lent, by what it says of what is told
pub after_call : {V : Type 0} (told after : Option (Shelved V)) (P : Shelved V → Shelved V → Type 0)
    → ((m n : Shelved V) → ((id : List ℕ) → ¬ (IsLent id m)) → P m n → (id : List ℕ) → ¬ (IsLent id n)) → NoneLent told → Told told after P → NoneLent after
after_call None None P f h t = h
after_call None (Some n) P f h t = absurd t
after_call (Some m) None P f h t = absurd t
after_call (Some m) (Some n) P f h t = λ k is id lent. f m n (h m refl) t id (ap (at m id) is ∙ lent)

-- a call after which one ID isn't lent, and what is under each other is as before
pub changed_unlent : {V : Type 0} (id : List ℕ) (o : Option (Option V)) (m n : Shelved V) → ((k : List ℕ) → ¬ (IsLent k m)) → o ≢ Some None → Changed id o m n → (k : List ℕ) → ¬ (IsLent k n)
changed_unlent id o m n h none c k lent = by_id k id ⊥ (λ e. none (sym c.0 ∙ (ap n (sym e) ∙ lent))) (λ ne. h k (sym (c.1 k ne) ∙ lent))
