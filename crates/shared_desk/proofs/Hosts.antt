-- What a host's pass keeps, and what the passes are that it gives out.
use Rattle.std.proofs.Common.{◌≡◌, ℕ, ◌+◌, ◌*◌, ◌≤◌, ◌<◌, List, [], ◌∷◌, ◌++◌, length, true, false, ⊎_elim, refl, ap, sym, ◌∙◌, subst, arith}
use Rattle.std.specs.Prelude.{Option, Some, None, Contains, Ok, Err, is_none}
use Rattle.std.specs.Option.{option_map}
use Rattle.atomic_table.specs.Seated.{TableId}
use Rattle.gate_model.specs.session.Calls.{Step}
use Rattle.gate_model.specs.session.Delivered.{delivered, given}
use Rattle.gate_model.specs.session.History.{History, joined, newest}
use Rattle.gate_model.specs.session.Refusals.{join_refusal}
use Rattle.gate_model.specs.session.Runs.{handed_out}
use Rattle.gate_model.specs.Sequences.{IsLater}
use Rattle.gate_model.specs.text.Text.{texts}
use Rattle.gate_model.specs.declared.answer.Answer.TheVariants.{Join as joined_as}
use Rattle.gate_model.specs.declared.entry.Entry.{Entry}
use Rattle.gate_model.specs.declared.entry.Entry.TheVariants.{Join as Joins}
use Rattle.gate_model.specs.declared.event.Event.TheVariants.{Join}
use Rattle.gate_model.specs.declared.instr.Instr.{Instr}
use Rattle.gate_model.specs.declared.join_refusal.JoinRefusal.{JoinRefusal}
use Rattle.gate_model.specs.declared.joined.Joined.{Joined}
use Rattle.gate_model.specs.declared.sharing.Asked.{Asked}
use Rattle.gate_model.specs.declared.sharing.Role.{Role}
use Rattle.gate_model.proofs.Truth.{facts_of}
use Rattle.desk_core.specs.Calls.{join_answer}
use Rattle.turn_lock.specs.declared.view.View.{View}
use Rattle.turn_lock.specs.Views.{giving, more_given, MayGive}
use Rattle.turn_lock.proofs.Elements.{contains_cases}
use Rattle.shared_desk.specs.declared.place.Place.{Place}
use Rattle.shared_desk.specs.Called.{Gives, Turned}
use Rattle.shared_desk.specs.HostParts.{AreSpare, KeepsHost}
use Rattle.shared_desk.specs.Hosts.{HasJoined, HostState, IsFresh, IsPlaceOf, JoinEnds, unlinked, with_place}
use Rattle.shared_desk.specs.Marks.{reader_mark, writer_mark}
use Rattle.shared_desk.specs.Members.{IsSound, PassState}
use Rattle.shared_desk.proofs.Turns.{at_old, keeps_mark, keeps_given, seen_is, sound_after}
use Rattle.shared_desk.proofs.Alone.{joined_grows, joined_turn, begun_turn, longer_than}

-- ---- what each call keeps

spare_at : (old new : TableId) (spare : Option TableId) → new ≡ old → AreSpare old spare → AreSpare new spare
spare_at old new None is s = tt
spare_at old new (Some x) is s = s ∙ sym is

pub keeps : (m n : PassState) (spare : Option TableId) (out less : ℕ) → KeepsHost m spare out → n.session ≡ m.session → n.view.mark ≡ m.view.mark → n.view.given ≡ m.view.given
    → joined m.view.seen ≤ joined n.view.seen → 1 ≤ length n.view.seen → less ≤ out → KeepsHost n spare less
keeps m n spare out less k session mark same more some fewer = record {
  host = record {
    mark = mark ∙ k.host.mark;
    given = k.host.given;
    gave = same ∙ k.host.gave;
    bound = λ x c. let b = k.host.bound x c in omega (arith, b, more);
    begun = some;
    few = omega (arith, k.host.few, more, fewer);
    unlinked = k.host.unlinked;
  };
  spare = spare_at m.session n.session spare session k.spare;
}

pub keeps_turn : (m n : PassState) (spare : Option TableId) (out : ℕ) (did : History → List Entry → Type 0) → KeepsHost m spare out → n.session ≡ m.session → Turned m.view n.view did → KeepsHost n spare out
keeps_turn m n spare out did k session t =
    keeps m n spare out out k session (keeps_mark _ _ _ t) (keeps_given _ _ _ t) (joined_turn _ _ _ t) (begun_turn _ _ _ t k.host.begun) (omega arith)

pub keeps_seen : (m n : PassState) (spare : Option TableId) (out : ℕ) → KeepsHost m spare out → n.session ≡ m.session → n.view.mark ≡ m.view.mark → n.view.given ≡ m.view.given → n.view.seen ≡ m.view.seen → KeepsHost n spare out
keeps_seen m n spare out k session mark same seen =
    keeps m n spare out out k session mark same (omega (arith, ap joined seen)) (let b = k.host.begun in omega (arith, b, ap length seen)) (omega arith)

pub keeps_later : (m n : PassState) (spare : Option TableId) (out less : ℕ) → KeepsHost m spare out → n.session ≡ m.session → n.view.mark ≡ m.view.mark → n.view.given ≡ m.view.given → IsLater m.view.seen n.view.seen → less ≤ out → KeepsHost n spare less
keeps_later m n spare out less k session mark same l fewer =
    keeps m n spare out less k session mark same (omega (arith, joined_grows l.0 m.view.seen, ap joined l.1)) (let b = k.host.begun in omega (arith, b, ap length l.1, longer_than l.0 m.view.seen)) fewer

-- ---- link

pub may_link : (m : PassState) (s : TableId) (out : ℕ) → KeepsHost m (Some s) out → MayGive (Some 1) m.view
may_link m s out k = (k.host.given, k.host.gave, (λ e. omega (arith, e)), (λ c. let b = k.host.unlinked refl 1 c in omega (arith, b)))

pub may_send : (m mid : PassState) (s : TableId) (out : ℕ) → KeepsHost m (Some s) out → mid.view ≡ giving (Some 1) m.view → MayGive (Some 2) mid.view
may_send m mid s out k is =
    let gave : mid.view.given ≡ Some (1 ∷ k.host.given) = ap (λ (v : View Entry). v.given) is ∙ ap (λ (g : Option (List ℕ)). more_given 1 g) k.host.gave in
    (1 ∷ k.host.given, gave, (λ e. omega (arith, e)), (λ c. ⊎_elim (λ e. omega (arith, e)) (λ d. let b = k.host.unlinked refl 2 d in omega (arith, b)) (contains_cases 1 2 k.host.given c)))

pub keeps_linked : (m mid n : PassState) (s : TableId) (out : ℕ) → KeepsHost m (Some s) out → mid.view ≡ giving (Some 1) m.view → n.view ≡ giving (Some 2) mid.view → KeepsHost n None (out + 2)
keeps_linked m mid n s out k one two = record {
  host = record {
    mark = ap (λ (v : View Entry). v.mark) two ∙ (ap (λ (v : View Entry). v.mark) one ∙ k.host.mark);
    given = 2 ∷ 1 ∷ k.host.given;
    gave = ap (λ (v : View Entry). v.given) two ∙ ap (λ (g : Option (List ℕ)). more_given 2 g) (ap (λ (v : View Entry). v.given) one ∙ ap (λ (g : Option (List ℕ)). more_given 1 g) k.host.gave);
    bound = λ x c. subst (λ (j : ℕ). x ≤ 2 * j + 2) (sym joins) (low x c);
    begun = subst (λ (j : ℕ). 1 ≤ j) (sym (ap (λ (v : View Entry). length v.seen) two ∙ ap (λ (v : View Entry). length v.seen) one)) k.host.begun;
    few = few;
    unlinked = λ e. let w : true ≡ false = e in cc;
  };
  spare = tt;
}
  where
    joins : joined n.view.seen ≡ joined m.view.seen
    joins = ap (λ (v : View Entry). joined v.seen) two ∙ ap (λ (v : View Entry). joined v.seen) one

    low : (x : ℕ) → Contains (2 ∷ 1 ∷ k.host.given) x → x ≤ 2 * joined m.view.seen + 2
    low x c = ⊎_elim (λ e. omega (arith, e)) (λ d. ⊎_elim (λ e. omega (arith, e)) (λ f. k.host.bound x f) (contains_cases 1 x k.host.given d)) (contains_cases 2 x (1 ∷ k.host.given) c)

    few : out + 2 + 0 ≤ 2 * joined n.view.seen + 2
    few = let b : out + 2 ≤ 2 * joined m.view.seen + 2 = k.host.few in omega (arith, b, joins)

-- ---- place

-- the marks that were given are those of earlier viewers, of the link and of the sender
abbrev pub AreBelow : PassState → ℕ → Type 0
AreBelow m viewer = (ms : List ℕ) × (m.view.given ≡ Some ms) × ((n : ℕ) → Contains ms n → n ≤ 2 * viewer)

pub may_read : (m : PassState) (viewer n : ℕ) → AreBelow m viewer → n ≡ reader_mark viewer → MayGive (Some n) m.view
may_read m viewer n b is = (b.0, b.1, (λ e. omega (arith, e, is)), (λ c. let low = b.2 n c in omega (arith, low, is)))

pub may_write : (m mid : PassState) (viewer n k : ℕ) → AreBelow m viewer → mid.view ≡ giving (Some n) m.view → n ≡ reader_mark viewer → k ≡ writer_mark viewer → MayGive (Some k) mid.view
may_write m mid viewer n k b one is too =
    let gave : mid.view.given ≡ Some (n ∷ b.0) = ap (λ (v : View Entry). v.given) one ∙ ap (λ (g : Option (List ℕ)). more_given n g) b.1 in
    (n ∷ b.0, gave, (λ e. omega (arith, e, too)), (λ c. ⊎_elim (λ e. omega (arith, e, is, too)) (λ d. let low = b.2 k d in omega (arith, low, too)) (contains_cases n k b.0 c)))

same_marks : (xs ys : List ℕ) → Some xs ≡ Some ys → xs ≡ ys
same_marks xs ys e = let w : Some xs ≡ Some ys = e in cc

pub keeps_placed : (m mid n : PassState) (spare : Option TableId) (out viewer x y : ℕ) → KeepsHost m spare out → AreBelow m viewer → viewer ≡ joined m.view.seen → 1 ≤ viewer → out + unlinked (is_none spare) ≤ 2 * viewer
    → n.session ≡ m.session → mid.view ≡ giving (Some x) m.view → n.view ≡ giving (Some y) mid.view → x ≡ reader_mark viewer → y ≡ writer_mark viewer → KeepsHost n spare (out + 2)
keeps_placed m mid n spare out viewer x y k b last first room session one two xis yis = record {
  host = record {
    mark = ap (λ (v : View Entry). v.mark) two ∙ (ap (λ (v : View Entry). v.mark) one ∙ k.host.mark);
    given = y ∷ x ∷ k.host.given;
    gave = ap (λ (v : View Entry). v.given) two ∙ ap (λ (g : Option (List ℕ)). more_given y g) (ap (λ (v : View Entry). v.given) one ∙ ap (λ (g : Option (List ℕ)). more_given x g) k.host.gave);
    bound = λ z c. subst (λ (j : ℕ). z ≤ 2 * j + 2) (sym joins) (low z c);
    begun = subst (λ (j : ℕ). 1 ≤ j) (sym (ap (λ (v : View Entry). length v.seen) two ∙ ap (λ (v : View Entry). length v.seen) one)) k.host.begun;
    few = omega (arith, room, last, joins);
    unlinked = λ e z c. ⊎_elim (λ q. omega (arith, q, yis, first)) (λ d. ⊎_elim (λ q. omega (arith, q, xis, first)) (λ f. k.host.unlinked e z f) (contains_cases x z k.host.given d)) (contains_cases y z (x ∷ k.host.given) c);
  };
  spare = spare_at m.session n.session spare session k.spare;
}
  where
    joins : joined n.view.seen ≡ joined m.view.seen
    joins = ap (λ (v : View Entry). joined v.seen) two ∙ ap (λ (v : View Entry). joined v.seen) one

    low : (z : ℕ) → Contains (y ∷ x ∷ k.host.given) z → z ≤ 2 * joined m.view.seen + 2
    low z c = ⊎_elim (λ e. omega (arith, e, yis, last)) (λ d. ⊎_elim (λ e. omega (arith, e, xis, last)) (λ f. k.host.bound z f) (contains_cases x z k.host.given d)) (contains_cases y z (x ∷ k.host.given) c)

-- ---- join

not_joined : (o : Option JoinRefusal) (j : Joined) → option_map (λ r. joined_as (Err r)) o ≡ Some (joined_as (Ok j)) → ⊥
not_joined None j e = let w : None ≡ Some (joined_as (Ok j)) = e in cc
not_joined (Some r) j e = let w : Some (joined_as (Err r)) ≡ Some (joined_as (Ok j)) = e in cc

record JoinAdds (g : History) (j : Joined) (added : List Entry) : Type 0 where
  first : List Instr
  adds : added ≡ Joins j.viewer j.role first ∷ []
  next : j.viewer ≡ joined g + 1

join_adds : (g : History) (asked : Asked) (j : Joined) (added : List Entry) → Step g (Join asked) (joined_as (Ok j)) added → JoinAdds g j added
join_adds g asked j [] s = absurd (not_joined (join_refusal g asked) j s.1)
join_adds g asked j (e ∷ []) s =
    let is : j ≡ record { viewer = joined g + 1; role = s.1.1.0; stamp = newest g } = let w = s.1.1.4 in cc in
    record { first = s.1.1.1; adds = rw is (ap (λ (x : Entry). x ∷ []) s.1.1.5); next = ap (λ (x : Joined). x.viewer) is }
join_adds g asked j (e ∷ f ∷ es) s = absurd s.1

-- what a Join leaves of what the host has seen
pub record JoinLeaves (v w : View Entry) (j : Joined) (b0 b1 : List ℕ) : Type 0 where
  pub later : joined v.seen < j.viewer
  pub now : joined w.seen ≡ j.viewer
  pub first : List Instr
  pub before : History
  pub seen : w.seen ≡ Joins j.viewer j.role first ∷ before
  pub gained : b1 ≡ b0 ++ texts (delivered w.seen j.viewer)

pub join_leaves : (v w : View Entry) (asked : Asked) (j : Joined) (b0 b1 : List ℕ) → Gives v (Join asked) (Ok (joined_as (Ok j))) w b0 b1 → JoinLeaves v w j b0 b1
join_leaves v w asked j b0 b1 t =
    let a = join_adds t.before asked j t.added t.did_it.0 in
    let e : Entry = Joins j.viewer j.role a.first in
    let grew : joined v.seen ≤ joined t.before = omega (arith, joined_grows t.later.0 v.seen, ap joined t.later.1) in
    let none : delivered t.before j.viewer ≡ [] = (facts_of t.before t.legal_before).not_joined j.viewer (omega (arith, a.next)) in
    let seen : w.seen ≡ e ∷ t.before = seen_is v w _ t ∙ ap (λ (es : List Entry). es ++ t.before) a.adds in
    record {
      later = omega (arith, grew, a.next);
      now = ap joined seen ∙ sym a.next;
      first = a.first;
      before = t.before;
      seen = seen;
      gained = t.did_it.1 ∙ (ap (λ (es : List Entry). b0 ++ texts (handed_out t.before (Join asked) (joined_as (Ok j)) es)) a.adds
          ∙ ap (λ (is : List Instr). b0 ++ texts is) (ap (λ (is : List Instr). is ++ given t.before (delivered t.before j.viewer) j.viewer e) (sym none) ∙ ap (λ (h : History). delivered h j.viewer) (sym seen)));
    }

-- a host that has seen the Join last gives a place that is fresh
pub fresh_of : (h : HostState) (viewer : ℕ) (role : Role) (place : Place) (first : List Instr) (before : History) (text : List ℕ) → IsPlaceOf h viewer role place → h.view.seen ≡ Joins viewer role first ∷ before
    → IsSound h.view.seen → text ≡ texts (delivered h.view.seen viewer) → IsFresh place text
fresh_of h viewer role place first before text p seen sound is =
    let named : Joins viewer role first ∷ before ≡ Joins place.reader.viewer place.role first ∷ before = ap (λ (x : ℕ). Joins x role first ∷ before) (sym p.viewers.0) ∙ ap (λ (r : Role). Joins place.reader.viewer r first ∷ before) (sym p.role) in
    let read : place.reader.view.seen ≡ h.view.seen = ap (λ (v : View Entry). v.seen) p.reader in
    record {
      session = p.sessions.0 ∙ sym p.sessions.1;
      viewer = p.viewers.0 ∙ sym p.viewers.1;
      before = before;
      first = first;
      reader = read ∙ (seen ∙ named);
      writer = ap (λ (v : View Entry). v.seen) p.writer.2 ∙ (p.writer.1 ∙ (seen ∙ named));
      sound = subst IsSound (sym read) sound;
      none = (ap (λ (v : View Entry). v.mine) p.reader, ap (λ (v : View Entry). v.mine) p.writer.2);
      text = is ∙ (ap (λ (g : History). texts (delivered g viewer)) (sym read) ∙ ap (λ (x : ℕ). texts (delivered place.reader.view.seen x)) (sym p.viewers.0));
    }

pub below_at : (m : PassState) (v : View Entry) (viewer : ℕ) → m.view ≡ v → ((ms : List ℕ) × (v.given ≡ Some ms) × ((n : ℕ) → Contains ms n → n ≤ 2 * viewer)) → AreBelow m viewer
below_at m v viewer is b = (b.0, ap (λ (u : View Entry). u.given) is ∙ b.1, b.2)

-- ---- what a join of the host needs and tells

pub below_joined : (m n : PassState) (spare : Option TableId) (out : ℕ) (asked : Asked) (j : Joined) (b0 b1 : List ℕ) → KeepsHost m spare out → Gives m.view (Join asked) (Ok (joined_as (Ok j))) n.view b0 b1 → AreBelow n j.viewer
below_joined m n spare out asked j b0 b1 k t =
    let l = join_leaves m.view n.view asked j b0 b1 t in
    (k.host.given, keeps_given _ _ _ t ∙ k.host.gave, λ x c. let b = k.host.bound x c in let later = l.later in omega (arith, b, later))

pub room_joined : (m n : PassState) (spare : Option TableId) (out : ℕ) (asked : Asked) (j : Joined) (b0 b1 : List ℕ) → KeepsHost m spare out → Gives m.view (Join asked) (Ok (joined_as (Ok j))) n.view b0 b1 → out + unlinked (is_none spare) ≤ 2 * j.viewer
room_joined m n spare out asked j b0 b1 k t = let l = join_leaves m.view n.view asked j b0 b1 t in omega (arith, k.host.few, l.later)

pub join_refused : (v0 v w : View Entry) (asked : Asked) (r : JoinRefusal) (b0 b1 : List ℕ) → v ≡ v0 → Gives v (Join asked) (join_answer (Err r)) w b0 b1 → JoinEnds v0 asked (Err r) w b0 b1
join_refused v0 v w asked r b0 b1 is t = at_old _ _ _ _ is t

pub has_joined : (v0 v now : View Entry) (asked : Asked) (j : Joined) (old new : HostState) (place : Place) (b0 b1 : List ℕ) → v ≡ v0 → Gives v (Join asked) (Ok (joined_as (Ok j))) now b0 b1 → old.view ≡ now
    → IsPlaceOf old j.viewer j.role place → new.view ≡ with_place j.viewer old.view → HasJoined v0 asked place new.view b0 b1
has_joined v0 v now asked j old new place b0 b1 is t same p view =
    let l = join_leaves v now asked j b0 b1 t in
    record {
      now = now;
      answer = j;
      called = at_old _ _ _ _ is t;
      view = view ∙ ap (with_place j.viewer) same;
      viewer = p.viewers.0;
      role = p.role;
      text = texts (delivered now.seen j.viewer);
      appended = l.gained;
      fresh = fresh_of old j.viewer j.role place l.first l.before (texts (delivered now.seen j.viewer)) p (ap (λ (u : View Entry). u.seen) same ∙ l.seen) (subst (λ (u : View Entry). IsSound u.seen) (sym same) (sound_after _ _ _ t)) (ap (λ (u : View Entry). texts (delivered u.seen j.viewer)) (sym same));
    }
