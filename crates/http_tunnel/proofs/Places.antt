-- What places that go back do to their door.
use Rattle.std.proofs.Common.{◌≡◌, ◌≢◌, inl, inr, ℕ, List, Bool, true, false, refl, ap, sym, ◌∙◌, subst}
use Rattle.std.specs.Prelude.{Option, Some, None, IfSome, IsSome, is_some, Ok, Err}
use Rattle.guac_handshake.specs.Doors.{KeepsIds, SameId, Sessions, TouchesOne}
use Rattle.guac_handshake.specs.Opening.{HasMoved}
use Rattle.guac_handshake.specs.Views.{DoorView, Gives}
use Rattle.guac_handshake.specs.declared.form_refusal.FormRefusal.{FormRefusal}
use Rattle.guac_handshake.specs.declared.welcome.Welcome.{Welcome}
use Rattle.guac_handshake.proofs.Touching.{id_on, moved_none as unasked}
use Rattle.id_table.specs.Maps.{Changed, Same, Shelved, Told, had}
use Rattle.id_table.specs.Refused.{value_of}
use Rattle.id_table.specs.declared.add_refusal.AddRefusal.{AddRefusal}
use Rattle.id_table.specs.declared.add_refusal.AddRefusal.TheVariants as refusal
use Rattle.shared_desk.specs.Members.{ViewerState}
use Rattle.shared_desk.specs.declared.place.Place.{Place}
use Rattle.http_tunnel.specs.Connects.{tunnel_of}
use Rattle.http_tunnel.specs.Places.{HasGiven, IsOfTunnel}
use Rattle.http_tunnel.specs.Tunnels.{HasBegun, without_reader}
use Rattle.http_tunnel.specs.declared.read.Lent.{Lent}
use Rattle.http_tunnel.specs.declared.tunnel.Tunnel.{Tunnel}
use Rattle.http_tunnel.proofs.Shelves.{Lends, some_inj, told_none, told_on}

-- ---- sessions

there_on : {V : Type 0} (a b : Option V) → SameId a b → IsSome a → IsSome b
there_on None (Some w) h is = absurd h
there_on None None h is = is
there_on (Some v) None h is = absurd h
there_on (Some v) (Some w) h is = refl

other_name : (name : Option (List ℕ)) (id k : List ℕ) → name ≡ Some id → k ≢ id → name ≢ Some k
other_name name id k is apart = λ e. apart (let same : Some k ≡ Some id = sym e ∙ is in cc)

-- a session that was touched, and to which a place then goes back
touched_back : (name : Option (List ℕ)) (m k n : Sessions) → TouchesOne name m k → KeepsIds name k n → TouchesOne name m n
touched_back name m k n (inl a) g = inl (a.0, a.1, a.2, there_on (k a.0) (n a.0) (g a.0).0 a.3, λ id apart. (g id).1 (other_name name a.0 id a.1 apart) ∙ a.4 id apart)
touched_back name m k n (inr h) g = inr (λ id. (id_on (m id) (k id) (n id) (h id).0 (g id).0, λ other. (g id).1 other ∙ (h id).1 other))

module _ (id_of : List ℕ → Option (List ℕ)) where
  pub moved_none : (r : FormRefusal) (o : Option Sessions) → Told o o (HasMoved {P = Place} id_of (Err r))
  moved_none r o = unasked Place id_of o o r (told_none Same o o refl (λ m k. refl))

  pub moved_back : (welcome : Welcome Place) (o p q : Option Sessions) → Told o p (HasMoved id_of (Ok welcome)) → Told p q (KeepsIds (id_of welcome.id)) → Told o q (HasMoved id_of (Ok welcome))
  moved_back welcome o p q moved kept = told_on (HasMoved id_of (Ok welcome)) (KeepsIds (id_of welcome.id)) (HasMoved id_of (Ok welcome)) o p q moved kept (λ m k n is h g. touched_back (id_of welcome.id) m k n h g)

  -- ---- a place

  pub given_as : (P Q : List ℕ → Type 0) (back : Bool) (o p : DoorView) → ((name : List ℕ) → P name → Q name) → HasGiven id_of P back o p → HasGiven id_of Q back o p
  given_as P Q false o p f g = g
  given_as P Q true o p f g = (g.0, f g.0 g.1, g.2)

  pub given_some : (P : List ℕ → Type 0) (r : Option ViewerState) (x : ViewerState) (name : List ℕ) (o p : DoorView) → r ≡ Some x → P name → Gives (id_of name) o p → HasGiven id_of P (is_some r) o p
  given_some P r x name o p is so gives = subst (λ (y : Option ViewerState). HasGiven id_of P (is_some y) o p) (sym is) (name, so, gives)

  pub given_none : (P : List ℕ → Type 0) (r : Option ViewerState) (o : DoorView) → r ≡ None → HasGiven id_of P (is_some r) o o
  given_none P r o is = subst (λ (y : Option ViewerState). HasGiven id_of P (is_some y) o o) (sym is) refl

  -- .. of a tunnel that wasn't added
  unplaced : (welcome : Welcome Place) (t : Tunnel) (o p : DoorView) → t ≡ tunnel_of welcome → HasGiven id_of (λ name. name ≡ t.id) (is_some t.reader) o p → Gives (id_of welcome.id) o p
  unplaced welcome t o p is given = let g = subst (λ (x : Tunnel). HasGiven id_of (λ name. name ≡ x.id) (is_some x.reader) o p) is given in subst (λ (name : List ℕ). Gives (id_of name) o p) g.1 g.2

  pub conflict_given : (welcome : Welcome Place) (r : AddRefusal Tunnel) (v t : Tunnel) (ids : List (List ℕ)) (o p : DoorView) → r ≡ refusal.Conflict t ids → value_of r ≡ v → v ≡ tunnel_of welcome → HasGiven id_of (λ name. name ≡ t.id) (is_some t.reader) o p → Gives (id_of welcome.id) o p
  conflict_given welcome r v t ids o p e given is g = unplaced welcome t o p (sym (ap value_of e) ∙ (given ∙ is)) g

  pub memory_given : (welcome : Welcome Place) (r : AddRefusal Tunnel) (v t : Tunnel) (o p : DoorView) → r ≡ refusal.NoMemory t → value_of r ≡ v → v ≡ tunnel_of welcome → HasGiven id_of (λ name. name ≡ t.id) (is_some t.reader) o p → Gives (id_of welcome.id) o p
  memory_given welcome r v t o p e given is g = unplaced welcome t o p (sym (ap value_of e) ∙ (given ∙ is)) g

-- ---- whose it is

module _ (id : List ℕ) where
  pub of_removed : (x : Tunnel) (a b : Option (Shelved Tunnel)) → Told a b (λ m n. (m id ≡ had (Some x)) × Changed id None m n) → IsOfTunnel id a x.id
  of_removed x None b t = tt
  of_removed x (Some m) None t = absurd t
  of_removed x (Some m) (Some n) t = (x, t.0, refl)

  pub of_put : (t : Tunnel) (a b : Option (Shelved Tunnel)) (name : List ℕ) → Told a b (Changed id (Some (Some t))) → IsOfTunnel id b name → IfSome a (λ m. name ≡ t.id)
  of_put t None b name put of = tt
  of_put t (Some m) None name put of = absurd put
  of_put t (Some m) (Some n) name put of = of.2 ∙ ap Tunnel.id (some_inj of.0 t (sym of.1 ∙ put.0))

  pub of_lent : (t : Tunnel) (a b : Option (Shelved Tunnel)) (name : List ℕ) → Told a b (Lends id (Some t)) → IfSome b (λ m. name ≡ t.id) → IsOfTunnel id a name
  of_lent t None b name lend so = tt
  of_lent t (Some m) None name lend so = absurd lend
  of_lent t (Some m) (Some n) name lend so = (t, lend.0, so)

  pub of_begun : (lent : Lent) (a b : Option (Shelved Tunnel)) (name : List ℕ) → Told a b (λ m n. HasBegun id m n (Some lent)) → IsOfTunnel id b name → IsOfTunnel id a name
  of_begun lent None b name begun of = tt
  of_begun lent (Some m) None name begun of = absurd begun
  of_begun lent (Some m) (Some n) name begun of = (begun.0, begun.1, of.2 ∙ ap Tunnel.id (some_inj of.0 (without_reader begun.0) (sym of.1 ∙ begun.4.0)))

  pub of_taken : (t u x : Tunnel) (a b c : Option (Shelved Tunnel)) (name : List ℕ) → u.id ≡ t.id → Told a b (Changed id (Some (Some u))) → Told b c (λ m n. (m id ≡ had (Some x)) × Changed id None m n) → name ≡ x.id → IfSome a (λ m. name ≡ t.id)
  of_taken t u x None b c name same put out is = tt
  of_taken t u x (Some m) None c name same put out is = absurd put
  of_taken t u x (Some m) (Some k) None name same put out is = absurd out
  of_taken t u x (Some m) (Some k) (Some n) name same put out is = is ∙ (ap Tunnel.id (some_inj x u (sym out.0 ∙ put.0)) ∙ same)
