-- What the steps of a write of a tunnel come to.
use Rattle.std.proofs.Common.{◌≡◌, inl, inr, ℕ, List, [], ◌∷◌, ◌++◌, Bool, true, false, refl, ap, sym, ◌∙◌, subst}
use Rattle.std.specs.Prelude.{Option, Some, None, IfSome, is_some, Result, Ok, Err, if◌then◌else◌}
use Rattle.gate_model.specs.declared.entry.Entry.{Entry}
use Rattle.gate_model.specs.declared.no_viewer.NoViewer.{NoViewer}
use Rattle.gate_model.specs.declared.write_refusal.WriteRefusal.{WriteRefusal}
use Rattle.gate_model.specs.declared.write_refusal.WriteRefusal.TheVariants as written
use Rattle.gate_model.proofs.Causes.{closed_with_cause}
use Rattle.gate_model.specs.session.History.{History}
use Rattle.id_table.specs.Maps.{Changed, Shelved, Told, had}
use Rattle.turn_lock.specs.declared.view.View.{View}
use Rattle.shared_desk.specs.Members.{Stays, ViewerState}
use Rattle.viewer_acts.specs.Parts.{parts_of}
use Rattle.viewer_acts.specs.Leaving.{LeftNow}
use Rattle.viewer_acts.specs.Doing.{HasWritten, StopCause as PartCause, WritesSome}
use Rattle.viewer_acts.proofs.Doings.{done_on, goes_nowhere}
use Rattle.http_tunnel.specs.Bodies.{HasNoRoom, HasRead, IsBody, IsNoBody, Wish, wish_of}
use Rattle.http_tunnel.specs.Tunnels.{AreHome, IsHome}
use Rattle.http_tunnel.specs.Writes.{HasLeft, HasPut, StopsWish, WriteCause, WriteOf, WritesBody, WritesWish, is_ended, refused_write, without_value}
use Rattle.http_tunnel.specs.declared.acts.BodyFault.{BodyFault}
use Rattle.http_tunnel.specs.declared.acts.BodyFault.TheVariants as fault_kind
use Rattle.http_front.specs.declared.refusal.Refusal.{Refusal}
use Rattle.http_front.specs.declared.refusal.Refusal.TheVariants.{NotFound}
use Rattle.http_tunnel.specs.declared.tunnel.Tunnel.{Tunnel}
use Rattle.http_tunnel.proofs.TunnelReads.{kept_both}
use Rattle.http_tunnel.proofs.Shelves.{Lends, all_changed, all_same, changed_none, changed_twice, told_as, told_on, told_with}

-- ---- a refusal

refused_cause : (r : WriteRefusal) (viewer : ℕ) (seen : History) → PartCause r viewer seen → WriteCause (refused_write r) viewer seen
refused_cause written.NoViewer viewer seen c = c
refused_cause (written.Closed x) viewer seen c = inl (closed_with_cause seen x c).0
refused_cause (written.Worn n) viewer seen c = inr c
refused_cause written.NoMemory viewer seen c = c

wish_stopped : (viewer : ℕ) (v w : View Entry) (wish : Wish) (r : WriteRefusal) → WritesSome viewer v w wish.acts r → StopsWish viewer v w wish (refused_write r)
wish_stopped viewer v w wish r s = record { parts = s.parts; lost = s.lost; left = s.left; split = s.split; wrote = s.wrote; cause = refused_cause r viewer w.seen s.cause }

pub wish_stopped_as : (viewer : ℕ) (v w : View Entry) (inside wish : Wish) (r : WriteRefusal) (told : Refusal) → inside ≡ wish → told ≡ refused_write r → WritesSome viewer v w inside.acts r → WritesWish viewer v w wish (Err told)
wish_stopped_as viewer v w inside wish r told is told_is s =
    subst (λ (x : Refusal). StopsWish viewer v w wish x) (sym told_is) (subst (λ (x : Wish). StopsWish viewer v w x (refused_write r)) is (wish_stopped viewer v w inside r s))

-- ---- its end

pub left_not : (viewer : ℕ) (v : View Entry) (ends : Bool) → ends ≡ false → HasLeft viewer v v ends
left_not viewer v false e = record { goes_on = goes_nowhere v; leaves = []; may = refl; own = refl; gone = λ is. absurd (let z : false ≡ true = is in cc) }
left_not viewer v true e = absurd (let z : true ≡ false = e in cc)

left_by : (viewer : ℕ) (v w : View Entry) → LeftNow viewer v w → HasLeft viewer v w true
left_by viewer v w k = record { goes_on = k.goes_on; leaves = k.leaves; may = k.few; own = k.own; gone = λ is. k.gone.gone }

pub left_now : (viewer : ℕ) (v w : View Entry) (ends : Bool) → ends ≡ true → LeftNow viewer v w → HasLeft viewer v w ends
left_now viewer v w ends is k = subst (λ (b : Bool). HasLeft viewer v w b) (sym is) (left_by viewer v w k)

pub wish_done : (viewer other : ℕ) (v u w : View Entry) (wish : Wish) (done : Unit {0}) → other ≡ viewer → HasWritten viewer v u wish.acts (Ok done) → HasLeft other u w wish.ends → WritesWish viewer v w wish (Ok wish.ends)
wish_done viewer other v u w wish done same acts left = let l : HasLeft viewer u w wish.ends = subst (λ (n : ℕ). HasLeft n u w wish.ends) same left in (
  refl,
  record { gained = acts.gained; done = done_on viewer v u w (parts_of wish.acts) acts.gained acts.done l.goes_on; leaves = l.leaves; may = l.may; own = l.own ∙ ap (λ (es : List Entry). l.leaves ++ es) acts.own; gone = l.gone },
)

-- .. told of the same wish
pub wish_done_as : (viewer other : ℕ) (v u w : View Entry) (inside wish : Wish) (done : Unit {0}) → inside ≡ wish → other ≡ viewer → HasWritten viewer v u inside.acts (Ok done) → HasLeft other u w inside.ends → WritesWish viewer v w wish (Ok inside.ends)
wish_done_as viewer other v u w inside wish done is same acts left = subst (λ (x : Wish). WritesWish viewer v w x (Ok inside.ends)) is (wish_done viewer other v u w inside done same acts left)

-- ---- its body

pub no_body : (body : List ℕ) (fault : BodyFault) → fault ≡ fault_kind.Form → HasRead body (Err fault) → IsNoBody body
no_body body fault is k = subst (λ (x : BodyFault). HasRead body (Err x)) is k

pub no_room : (body : List ℕ) (fault : BodyFault) → fault ≡ fault_kind.NoMemory → HasRead body (Err fault) → HasNoRoom body
no_room body fault is k = subst (λ (x : BodyFault). HasRead body (Err x)) is k

wish_body : (viewer : ℕ) (v w : View Entry) (body : List ℕ) (instructions : List (List (List ℕ))) (r : Result Bool Refusal) → IsBody body instructions → WritesWish viewer v w (wish_of instructions) r → WritesBody viewer v w body r
wish_body viewer v w body instructions (Ok ended) b k = (instructions, b, k.0, k.1)
wish_body viewer v w body instructions (Err refused) b k = inr (inr (instructions, b, k))

pub body_written : (viewer : ℕ) (v w : View Entry) (body : List ℕ) (instructions : List (List (List ℕ))) (wish : Wish) (r : Result Bool Refusal) → IsBody body instructions → wish ≡ wish_of instructions → WritesWish viewer v w wish r → WritesBody viewer v w body r
body_written viewer v w body instructions wish r b is k = wish_body viewer v w body instructions r b (subst (λ (x : Wish). WritesWish viewer v w x r) is k)

-- ---- its tunnel

module _ (id : List ℕ) (t : Tunnel) where
  -- another read has its reader's pass, which none has between two requests
  pub removed_away : (here : Bool) (R : Shelved Tunnel → Shelved Tunnel → Type 0) (P : Shelved Tunnel → Shelved Tunnel → Type 0) (a b : Option (Shelved Tunnel)) → here ≡ is_some t.reader → here ≡ false → IfSome a (λ m. is_some t.reader ≡ true) → Told a b P → Told a b R
  removed_away here R P a b is none home put = told_with P R (λ m. is_some t.reader ≡ true) a b put home (λ m n h p. absurd (let z : false ≡ true = sym none ∙ (is ∙ h) in cc))

  pub removed_here : (u x : Tunnel) (a b c : Option (Shelved Tunnel)) → u.reader ≡ t.reader → IfSome a (λ m. is_some t.reader ≡ true) → Told a b (Changed id (Some (Some u))) → Told b c (λ m n. (m id ≡ had (Some x)) × Changed id None m n)
      → Told a c (λ m n. (is_some x.reader ≡ true) × Changed id None m n)
  removed_here u x a b c same home put out =
      let both : Told a c (λ m n. (x ≡ u) × Changed id None m n) = told_on (Changed id (Some (Some u))) (λ m n. (m id ≡ Some (Some x)) × Changed id None m n) (λ m n. (x ≡ u) × Changed id None m n) a b c put out
      (λ m k n is p q. ((let z : Some (Some x) ≡ Some (Some u) = sym q.0 ∙ p.0 in cc), changed_twice id (Some (Some u)) None m k n p q.1)) in
      told_with (λ m n. (x ≡ u) × Changed id None m n) (λ m n. (is_some x.reader ≡ true) × Changed id None m n) (λ m. is_some t.reader ≡ true) a c both home
      (λ m n h p. (ap (λ (y : Tunnel). is_some y.reader) p.0 ∙ (ap is_some same ∙ h), p.1))

  pub removed_gone : (u : Tunnel) (R : Shelved Tunnel → Shelved Tunnel → Type 0) (x : Option (Option Tunnel)) (a b c : Option (Shelved Tunnel)) → Told a b (Changed id (Some (Some u))) → Told b c (λ m n. (m id ≡ None) × Changed id x m n) → Told a c R
  removed_gone u R x a b c put out = told_on (Changed id (Some (Some u))) (λ m n. (m id ≡ None) × Changed id x m n) R a b c put out (λ m k n is p q. absurd (let z : Some (Some u) ≡ None = sym p.0 ∙ q.0 in cc))

  pub put_gone : (ended back : Bool) (a b : Option (Shelved Tunnel)) → ended ≡ true → Told a b (λ m n. (back ≡ true) × Changed id None m n) → Told a b (HasPut id t ended back)
  put_gone ended back a b is r = told_as (λ m n. (back ≡ true) × Changed id None m n) (HasPut id t ended back) a b r
      (λ m n was p. (p.0 ∙ sym is, subst (λ (x : Bool). Changed id (if x then None else Some (Some t)) m n) (sym p.0) p.1))

  pub put_back : (ended : Bool) (a b : Option (Shelved Tunnel)) → ended ≡ false → Told a b (Changed id (Some (Some t))) → Told a b (HasPut id t ended false)
  put_back ended a b is put = told_as (Changed id (Some (Some t))) (HasPut id t ended false) a b put (λ m n was p. (sym is, p))

  -- a tunnel that is lent has its reader's pass
  pub lent_home : (a b : Option (Shelved Tunnel)) → AreHome a → Told a b (Lends id (Some t)) → IfSome b (λ m. is_some t.reader ≡ true)
  lent_home None None h lend = tt
  lent_home None (Some n) h lend = absurd lend
  lent_home (Some m) None h lend = absurd lend
  lent_home (Some m) (Some n) h lend = (subst IsHome lend.0 (h id)).0

  module _ (now : ViewerState) (body : List ℕ) (done : Result Bool Refusal) (ended back : Bool) where
    written_to : (m n : Shelved Tunnel) → ((i : List ℕ) → IsHome (m i)) → m id ≡ Some (Some t) → back ≡ ended → ended ≡ is_ended done → Changed id (if back then None else Some (Some (record t { writer = now }))) m n → Stays t.writer now → WritesBody t.writer.viewer t.writer.view now.view body done
        → (result : Result (Unit {0}) Refusal) → result ≡ without_value done → WriteOf id body back result m n × ((i : List ℕ) → IsHome (n i))
    written_to m n home there goes ends changed same_pass wrote result is = (
      inr record { tunnel = t; there = there; now = now; stays = same_pass; done = done; wrote = wrote; answered = is; removed = goes ∙ ends; left = changed },
      all_changed IsHome id (if back then None else Some (Some (record t { writer = now }))) m n home (stays back (subst IsHome there (home id))) changed,
    )
      where
        stays : (x : Bool) → (is_some t.reader ≡ true) × (t.gone ≡ false) → IsHome (if x then None else Some (Some (record t { writer = now })))
        stays true h = tt
        stays false h = h

    pub write_done : (result : Result (Unit {0}) Refusal) (a b c : Option (Shelved Tunnel)) → AreHome a → Told a b (Lends id (Some t)) → Told b c (HasPut id (record t { writer = now }) ended back) → ended ≡ is_ended done → Stays t.writer now → WritesBody t.writer.viewer t.writer.view now.view body done → result ≡ without_value done
        → Told a c (WriteOf id body back result) × AreHome c
    write_done result a b c home lend put ends same_pass wrote is = kept_both (WriteOf id body back result) a c (told_on (Lends id (Some t)) (HasPut id (record t { writer = now }) ended back) (λ m n. WriteOf id body back result m n × ((i : List ℕ) → IsHome (n i))) a b c lend put
        (λ m k n was p q. written_to m n (subst AreHome was home) p.0 q.0 ends (changed_twice id (Some None) (if back then None else Some (Some (record t { writer = now }))) m k n p.1 q.1) same_pass wrote result is))

pub write_absent : (id body : List ℕ) (a b : Option (Shelved Tunnel)) → AreHome a → Told a b (Lends id None) → Told a b (WriteOf id body false (Err NotFound)) × AreHome b
write_absent id body a b home lend = kept_both (WriteOf id body false (Err NotFound)) a b (told_with (Lends id None) (λ m n. WriteOf id body false (Err NotFound) m n × ((i : List ℕ) → IsHome (n i))) (λ m. (i : List ℕ) → IsHome (m i)) a b lend home
    (λ m n h p. let same = changed_none id None m n p.0 p.1 in (inl (p.0, refl, refl, same), all_same IsHome m n h same)))
