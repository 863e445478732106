-- What the steps of a request for a tunnel come to.
use Rattle.std.proofs.Common.{◌≡◌, ◌⊎◌, inl, inr, ℕ, ◌+◌, ◌-◌, ◌<◌, List, [], ◌++◌, length, refl, ap, sym, ◌∙◌, subst, arith}
use Rattle.std.specs.Prelude.{Option, Some, None, IfSome, Result, Ok, Err, IsOk, OnErr, is_ok, if◌then◌else◌}
use Rattle.std.specs.Option.{option_map}
use Rattle.gate_outside.specs.Helpers.{CountsFaults, HelperView}
use Rattle.guac_handshake.specs.Doors.{option_less}
use Rattle.guac_handshake.specs.Views.{DoorView}
use Rattle.guac_handshake.specs.Opening.{HasOpened}
use Rattle.guac_handshake.specs.declared.request.Request.{Request}
use Rattle.guac_handshake.specs.declared.form_refusal.FormRefusal.{FormRefusal}
use Rattle.guac_handshake.specs.declared.form_refusal.FormRefusal.TheVariants as form
use Rattle.guac_handshake.specs.declared.refused.Refused.{Refused}
use Rattle.guac_handshake.specs.declared.refused.Refused.TheVariants as door
use Rattle.guac_handshake.specs.declared.welcome.Welcome.{Welcome}
use Rattle.id_table.specs.Draws.{AreNext, AreThere, IsFirstAbsent}
use Rattle.id_table.specs.Maps.{Changed, Same, Shelved, Told}
use Rattle.id_table.specs.Refused.{IfConflict}
use Rattle.id_table.specs.declared.add_refusal.AddRefusal.{AddRefusal}
use Rattle.id_table.specs.declared.add_refusal.AddRefusal.TheVariants as refusal
use Rattle.shared_desk.specs.declared.place.Place.{Place}
use Rattle.uuid.specs.Text.{hyphenated_text, lower}
use Rattle.uuid.proofs.TextLemmas.{by_index_length}
use Rattle.http_tunnel.specs.Connects.{ConnectOf, IsAdded, IsId, refused_by_door, refused_form, tunnel_of}
use Rattle.http_tunnel.specs.Tunnels.{AreHome, IsHome}
use Rattle.http_front.specs.declared.refusal.Refusal.{Refusal}
use Rattle.http_front.specs.declared.refusal.Refusal.TheVariants.{NotFound, Form, Dial, Busy, Conflict, Forbidden, TooMany, Closed, NoMemory}
use Rattle.http_tunnel.specs.declared.tunnel.Tunnel.{Tunnel}
use Rattle.http_tunnel.proofs.Shelves.{after_told, all_changed, all_same, told_as, told_with}

-- ---- a tunnel that is added

pub added_some : (welcome : Welcome Place) (v : Tunnel) (id : List ℕ) (drawn : Option (ℕ → List ℕ)) (a b : Option (Shelved Tunnel)) → v ≡ tunnel_of welcome → Told a b (λ m n. (m id ≡ None) × Changed id (Some (Some v)) m n) → IfSome a (λ m. IfSome drawn (λ draws. IsFirstAbsent m draws id)) → Told a b (IsAdded IsId drawn welcome (Ok id))
added_some welcome v id drawn a b e t first =
    told_with (λ m n. (m id ≡ None) × Changed id (Some (Some v)) m n) (IsAdded IsId drawn welcome (Ok id)) (λ m. IfSome drawn (λ draws. IsFirstAbsent m draws id)) a b t first (λ m n h p. (id, refl, p.0, h, subst (λ (x : Tunnel). Changed id (Some (Some x)) m n) e p.1))

pub added_conflict : (welcome : Welcome Place) (r : AddRefusal Tunnel) (t : Tunnel) (ids : List (List ℕ)) (drawn : Option (ℕ → List ℕ)) (a b : Option (Shelved Tunnel)) → r ≡ refusal.Conflict t ids → Told a b Same → IfConflict r (λ found. IfSome a (λ m. AreThere m 4 found)) → IfConflict r (λ found. IfSome drawn (λ draws. AreNext draws 4 found)) → Told a b (IsAdded IsId drawn welcome (Err Conflict))
added_conflict welcome r t ids drawn a b e same there next =
    told_with Same (IsAdded IsId drawn welcome (Err Conflict)) (λ m. AreThere m 4 ids) a b same (subst (λ (x : AddRefusal Tunnel). IfConflict x (λ found. IfSome a (λ m. AreThere m 4 found))) e there) (λ m n h p. (p, λ is. (ids, h, subst (λ (x : AddRefusal Tunnel). IfConflict x (λ found. IfSome drawn (λ draws. AreNext draws 4 found))) e next)))

pub added_none : (welcome : Welcome Place) (drawn : Option (ℕ → List ℕ)) (a b : Option (Shelved Tunnel)) → Told a b Same → Told a b (IsAdded IsId drawn welcome (Err NoMemory))
added_none welcome drawn a b same = told_as Same (IsAdded IsId drawn welcome (Err NoMemory)) a b same (λ m n is p. (p, λ e. absurd (let z : NoMemory ≡ Conflict = e in cc)))

-- ---- its ID, written into room that was taken before

pub long_id : (text id : List ℕ) → text ≡ hyphenated_text lower id → length text ≡ 36
long_id text id is = ap length is ∙ by_index_length 36 _

pub has_room : {A E : Type 0} (r : Result A E) (room used more : ℕ) → room ≡ 36 → used ≡ 0 → more ≡ 36 → OnErr r (room < used + more) → IsOk r
has_room {A} {E} (Ok done) room used more all none some full = refl
has_room {A} {E} (Err e) room used more all none some full = absurd (omega (arith, all, none, some, full))

pub extended : {A E : Type 0} (r : Result A E) (done : A) (old more now : List ℕ) → now ≡ (if is_ok r then old ++ more else old) → r ≡ Ok done → old ≡ [] → now ≡ more
extended {A} {E} r done old more now is fits none = is ∙ (ap (λ (x : Result A E). if is_ok x then old ++ more else old) fits ∙ ap (λ (bs : List ℕ). bs ++ more) none)

-- ---- the whole request

pub text_added : (welcome : Welcome Place) (text named : List ℕ) (drawn : Option (ℕ → List ℕ)) (a b : Option (Shelved Tunnel)) → text ≡ hyphenated_text lower named → Told a b (IsAdded IsId drawn welcome (Ok named)) → Told a b (ConnectOf drawn (Ok welcome) (Ok text))
text_added welcome text named drawn a b e t = told_as (IsAdded IsId drawn welcome (Ok named)) (ConnectOf drawn (Ok welcome) (Ok text)) a b t (λ m n is p. (p.0, e ∙ ap (λ (bs : List ℕ). hyphenated_text lower bs) p.1, p.2, p.3, p.4))

pub text_refused : (welcome : Welcome Place) (refused : Refusal) (drawn : Option (ℕ → List ℕ)) (a b : Option (Shelved Tunnel)) → Told a b (IsAdded IsId drawn welcome (Err refused)) → Told a b (ConnectOf drawn (Ok welcome) (Err refused))
text_refused welcome refused drawn a b t = told_as (IsAdded IsId drawn welcome (Err refused)) (ConnectOf drawn (Ok welcome) (Err refused)) a b t (λ m n is p. p)

connect_home : (drawn : Option (ℕ → List ℕ)) (opened : Result (Welcome Place) FormRefusal) (result : Result (List ℕ) Refusal) (m n : Shelved Tunnel) → ((i : List ℕ) → IsHome (m i)) → ConnectOf drawn opened result m n → (i : List ℕ) → IsHome (n i)
connect_home drawn (Err refused) result m n home c = all_same IsHome m n home c
connect_home drawn (Ok welcome) (Ok text) m n home c = all_changed IsHome c.0 (Some (Some (tunnel_of welcome))) m n home (refl, refl) c.4
connect_home drawn (Ok welcome) (Err refused) m n home c = all_same IsHome m n home c.0

pub connected_home : (drawn : Option (ℕ → List ℕ)) (opened : Result (Welcome Place) FormRefusal) (result : Result (List ℕ) Refusal) (a b : Option (Shelved Tunnel)) → AreHome a → Told a b (ConnectOf drawn opened result) → AreHome b
connected_home drawn opened result a b home t = after_told (ConnectOf drawn opened result) (λ m. (i : List ℕ) → IsHome (m i)) (λ m. (i : List ℕ) → IsHome (m i)) a b t home (λ m n h c. connect_home drawn opened result m n h c)

pub less_more : (out mid now : Option ℕ) → mid ≡ option_map (λ n. n + 1) out → now ≡ option_less mid → now ≡ out
less_more None mid now more less = less ∙ ap option_less more
less_more (Some n) mid now more less = less ∙ (ap option_less more ∙ ap Some (let z : (n + 1) - 1 ≡ n = omega arith in z))

-- ---- what the door says of itself

-- a door that wasn't called since says what it said
pub still_granted : {D : Type 0} (d e : D) (P : D → Type 0) → e ≡ d → P d → P e
still_granted d e P same p = subst P (sym same) p

-- of a refusal nothing is said of what is given
pub still_refused : (id_of : List ℕ → Option (List ℕ)) (before after : DoorView) (Gives Others : Request → Welcome Place → Type 0) (body : List ℕ) (refused : FormRefusal) → HasOpened id_of Gives before after body (Err refused) → HasOpened id_of Others before after body (Err refused)
still_refused id_of before after Gives Others body form.Form h = h
still_refused id_of before after Gives Others body form.NoMemory h = h
still_refused id_of before after Gives Others body (form.Door refused) h = h

-- ---- what the door counted

-- the same counts, told by other causes
pub counted_as : {P Q R S : Type 0} (before mid after : HelperView) → after ≡ mid → (R → P) → (S → Q) → CountsFaults P Q before mid → CountsFaults R S before after
counted_as {P} {Q} {R} {S} before mid after same dialed started c = subst (λ (x : HelperView). CountsFaults R S before x) (sym same) record { dials = (λ r. c.dials.0 (dialed r), c.dials.1); starts = (λ s. c.starts.0 (started s), c.starts.1) }

-- none rose, and none was told
pub counted_none : {R S : Type 0} (before after : HelperView) → after ≡ before → (R → ⊥) → (S → ⊥) → CountsFaults R S before after
counted_none {R} {S} before after same dialed started = subst (λ (x : HelperView). CountsFaults R S before x) (sym same) record { dials = (λ r. absurd (dialed r), omega arith); starts = (λ s. absurd (started s), omega arith) }

dial_door : (r : Refused) → refused_by_door r ≡ Dial → r ≡ door.Dial
dial_door door.Absent e = absurd (let z : NotFound ≡ Dial = e in cc)
dial_door door.Conflict e = absurd (let z : Conflict ≡ Dial = e in cc)
dial_door door.Dial e = refl
dial_door door.Busy e = absurd (let z : Busy ≡ Dial = e in cc)
dial_door door.Closed e = absurd (let z : Closed ≡ Dial = e in cc)
dial_door door.Forbidden e = absurd (let z : Forbidden ≡ Dial = e in cc)
dial_door door.TooMany e = absurd (let z : TooMany ≡ Dial = e in cc)
dial_door door.Worn e = absurd (let z : Closed ≡ Dial = e in cc)
dial_door door.NoMemory e = absurd (let z : NoMemory ≡ Dial = e in cc)

busy_door : (r : Refused) → refused_by_door r ≡ Busy → r ≡ door.Busy
busy_door door.Absent e = absurd (let z : NotFound ≡ Busy = e in cc)
busy_door door.Conflict e = absurd (let z : Conflict ≡ Busy = e in cc)
busy_door door.Dial e = absurd (let z : Dial ≡ Busy = e in cc)
busy_door door.Busy e = refl
busy_door door.Closed e = absurd (let z : Closed ≡ Busy = e in cc)
busy_door door.Forbidden e = absurd (let z : Forbidden ≡ Busy = e in cc)
busy_door door.TooMany e = absurd (let z : TooMany ≡ Busy = e in cc)
busy_door door.Worn e = absurd (let z : Closed ≡ Busy = e in cc)
busy_door door.NoMemory e = absurd (let z : NoMemory ≡ Busy = e in cc)

dial_form : (r : FormRefusal) → refused_form r ≡ Dial → r ≡ form.Door door.Dial
dial_form form.Form e = absurd (let z : Form ≡ Dial = e in cc)
dial_form (form.Door refused) e = ap form.Door (dial_door refused e)
dial_form form.NoMemory e = absurd (let z : NoMemory ≡ Dial = e in cc)

busy_form : (r : FormRefusal) → refused_form r ≡ Busy → r ≡ form.Door door.Busy
busy_form form.Form e = absurd (let z : Form ≡ Busy = e in cc)
busy_form (form.Door refused) e = ap form.Door (busy_door refused e)
busy_form form.NoMemory e = absurd (let z : NoMemory ≡ Busy = e in cc)

abbrev pub refused_by : FormRefusal → Result (Welcome Place) FormRefusal
refused_by r = Err r

abbrev pub err_of : Refusal → Result (List ℕ) Refusal
err_of r = Err r

abbrev refusal_in : Result (List ℕ) Refusal → Refusal
refusal_in (Ok body) = NoMemory
refusal_in (Err r) = r

err_same : (x y : Refusal) → err_of x ≡ err_of y → x ≡ y
err_same x y e = ap refusal_in e

pub dialed : (r : FormRefusal) (told : Refusal) → told ≡ refused_form r → err_of told ≡ err_of Dial → refused_by r ≡ refused_by (form.Door door.Dial)
dialed r told is e = ap refused_by (dial_form r (sym is ∙ err_same told Dial e))

pub started : (r : FormRefusal) (told : Refusal) → told ≡ refused_form r → err_of told ≡ err_of Busy → refused_by r ≡ refused_by (form.Door door.Busy)
started r told is e = ap refused_by (busy_form r (sym is ∙ err_same told Busy e))

-- a place that went back was no failed dial and no failed start
pub not_dialed : (told : Refusal) (P : Type 0) → (told ≡ Conflict) ⊎ (told ≡ NoMemory) → err_of told ≡ err_of Dial → P
not_dialed told P (inl is) e = absurd (let z : Conflict ≡ Dial = sym is ∙ err_same told Dial e in cc)
not_dialed told P (inr is) e = absurd (let z : NoMemory ≡ Dial = sym is ∙ err_same told Dial e in cc)

pub not_started : (told : Refusal) (P : Type 0) → (told ≡ Conflict) ⊎ (told ≡ NoMemory) → err_of told ≡ err_of Busy → P
not_started told P (inl is) e = absurd (let z : Conflict ≡ Busy = sym is ∙ err_same told Busy e in cc)
not_started told P (inr is) e = absurd (let z : NoMemory ≡ Busy = sym is ∙ err_same told Busy e in cc)
