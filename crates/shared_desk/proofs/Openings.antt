-- A session that is shared from its Start, or from its Start and the Join of viewer 1.
use Rattle.std.proofs.Common.{◌≡◌, ℕ, ◌+◌, ◌≤◌, List, [], ◌∷◌, length, false, inl, inr, refl, ap, sym, ◌∙◌, subst, arith}
use Rattle.std.specs.Prelude.{Some, None}
use Rattle.atomic_table.specs.Seated.{TableId}
use Rattle.gate_model.specs.session.Delivered.{delivered}
use Rattle.gate_model.specs.session.History.{History, joined}
use Rattle.gate_model.specs.session.Rights.{role_in}
use Rattle.gate_model.specs.session.Steps.{Legal}
use Rattle.gate_model.specs.text.Text.{texts}
use Rattle.gate_model.specs.declared.entry.Entry.{Entry}
use Rattle.gate_model.specs.declared.entry.Entry.TheVariants.{Join}
use Rattle.gate_model.specs.declared.instr.Instr.{Instr}
use Rattle.gate_model.specs.declared.sharing.Role.{Role}
use Rattle.desk_core.specs.Desk.{DeskState, Stands}
use Rattle.desk_core.specs.Laws.{DesksAreWhole}
use Rattle.turn_lock.specs.declared.view.View.{View}
use Rattle.turn_lock.specs.Places.{IsAt, IsUnmarked}
use Rattle.turn_lock.specs.Views.{beginning, HasPlaces}
use Rattle.turn_lock.proofs.Elements.{contains_none}
use Rattle.shared_desk.specs.declared.place.Place.{Place}
use Rattle.shared_desk.specs.HostParts.{KeepsHost}
use Rattle.shared_desk.specs.Hosts.{HasBegun, HasOwner, HostState, IsOpening, IsPlaceOf, with_place}
use Rattle.shared_desk.specs.Marks.{mark_of}
use Rattle.shared_desk.specs.Members.{IsPass, IsSound, PassState}
use Rattle.shared_desk.proofs.Turns.{sound_of}
use Rattle.shared_desk.proofs.Hosts.{fresh_of}

none_is : {A : Type 0} (m : A) (P : Type 0) → None ≡ Some m → P
none_is m P e = absurd (let w : None ≡ Some m = e in cc)

-- the oldest entry is a Start, which has no mark, and with which nobody joins
starts_unmarked : (e : Entry) → Legal (e ∷ []) → mark_of e ≡ None
starts_unmarked e l = ap mark_of l.2.4

starts_alone : (e : Entry) → Legal (e ∷ []) → joined (e ∷ []) ≡ 0
starts_alone e l = subst (λ (x : Entry). joined (x ∷ []) ≡ 0) (sym l.2.4) refl

at_start : (e : Entry) (p m : ℕ) (x : Entry) → Legal (e ∷ []) → IsAt (e ∷ []) p x → mark_of x ≡ Some m → m ≡ 0
at_start e p m x l (inl at) is = none_is m (m ≡ 0) (sym (starts_unmarked e l) ∙ (ap mark_of at.1 ∙ is))
at_start e p m x l (inr at) is = absurd at

at_opening : (role : Role) (first : List Instr) (e : Entry) (p m : ℕ) (x : Entry) → Legal (Join 1 role first ∷ e ∷ []) → IsAt (Join 1 role first ∷ e ∷ []) p x → mark_of x ≡ Some m → m ≡ 0
at_opening role first e p m x l (inl at) is = let w : Some 0 ≡ Some m = ap mark_of at.1 ∙ is in cc
at_opening role first e p m x l (inr at) is = at_start e p m x l.0 at is

pub opens_unmarked : (h : History) → Legal h → IsOpening h → IsUnmarked mark_of h
opens_unmarked h l (inl o) = λ p m x at is. at_start o.0 p m x (subst Legal o.1 l) (subst (λ (g : History). IsAt g p x) o.1 at) is
opens_unmarked h l (inr o) = λ p m x at is. at_opening o.1 o.2 o.0 p m x (subst Legal o.3 l) (subst (λ (g : History). IsAt g p x) o.3 at) is

-- the first pass has seen what the desk stands for, which is sound
pub opens_pass : DesksAreWhole → (d : DeskState) (h : History) (v : View Entry) → Stands d h → v ≡ beginning mark_of h → HasPlaces mark_of v → IsPass v
opens_pass whole d h v stands is places = record { places = places; sound = subst (λ (z : View Entry). IsSound z.seen) (sym is) (sound_of whole d h stands) }

-- ---- the owner

pub owner_has : (h : History) (role : Role) → IsOpening h → length h ≡ 2 → role_in h 1 ≡ Some role → HasOwner h (Some role)
owner_has h role (inl o) two is = absurd (omega (arith, two, ap length o.1))
owner_has h role (inr o) two is =
    let named : Some o.1 ≡ Some role = subst (λ (g : History). role_in g 1 ≡ Some role) o.3 is in
    let same : o.1 ≡ role = cc in
    (o.0, o.2, o.3 ∙ ap (λ (r : Role). Join 1 r o.2 ∷ o.0 ∷ []) same)

-- ---- the host

pub begins_host : (m : PassState) (h : History) (spare : TableId) → Legal h → IsOpening h → m.view ≡ beginning mark_of h → spare ≡ m.session → KeepsHost m (Some spare) 0
begins_host m h spare l o is same = record {
  host = record {
    mark = ap (λ (v : View Entry). v.mark) is;
    given = [];
    gave = ap (λ (v : View Entry). v.given) is;
    bound = λ n c. absurd (contains_none n c);
    begun = subst (λ (v : View Entry). 1 ≤ length v.seen) (sym is) (some h l);
    few = omega arith;
    unlinked = λ e n c. absurd (contains_none n c);
  };
  spare = same;
}
  where
    some : (h : History) → Legal h → 1 ≤ length h
    some [] l = absurd l
    some (e ∷ g) l = omega arith

-- viewer 1 is the last that joined
pub owner_joined : (h : History) (role : Role) → Legal h → HasOwner h (Some role) → joined h ≡ 1
owner_joined h role l o = subst (λ (g : History). joined g ≡ 1) (sym o.2) (ap (λ (n : ℕ). n + 1) (starts_alone o.0 (subst Legal o.2 l).0))

-- ---- how sharing begins

pub begun_with : (h : History) (old new : HostState) (role : Role) (place : Place) → IsSound h → HasOwner h (Some role) → old.view ≡ beginning mark_of h → old.linked ≡ false → old.out ≡ 0 → IsPlaceOf old 1 role place
    → new.session ≡ old.session → new.linked ≡ old.linked → new.out ≡ old.out + 2 → new.view ≡ with_place 1 old.view → HasBegun h new (Some place)
begun_with h old new role place sound o view linked out p session same more given = (
  owner_joined h role sound.legal o,
  given ∙ ap (with_place 1) view,
  same ∙ linked,
  more ∙ ap (λ (n : ℕ). n + 2) out,
  p.sessions.0 ∙ sym session,
  p.viewers.0,
  (o.0, o.1, o.2 ∙ ap (λ (r : Role). Join 1 r o.1 ∷ o.0 ∷ []) (sym p.role)),
  fresh_of old 1 role place o.1 (o.0 ∷ []) (texts (delivered h 1)) p (ap (λ (v : View Entry). v.seen) view ∙ o.2) (subst (λ (v : View Entry). IsSound v.seen) (sym view) sound) (ap (λ (v : View Entry). texts (delivered v.seen 1)) (sym view)),
)
