-- What a turn leaves, from what the desk's call in it leaves.
use Rattle.std.proofs.Common.{◌≡◌, ◌⊎◌, ℕ, ◌≤◌, ◌<◌, ◌^◌, List, [], ◌∷◌, ◌++◌, length, Bool, true, false, inl, inr, ⊎_elim, refl, ap, sym, ◌∙◌, subst, arith}
use Rattle.std.specs.Prelude.{Option, None, Result, Ok, Err, nat_lt, take}
use Rattle.std.proofs.lemmas.Bool.{ltb-true, ltb-false}
use Rattle.std.proofs.Math.Seq.{take-append_seam, take-length}
use Rattle.gate_model.specs.declared.answer.Answer.{Answer}
use Rattle.gate_model.specs.declared.entry.Entry.{Entry}
use Rattle.gate_model.specs.declared.event.Event.{Event}
use Rattle.gate_model.specs.declared.event.Event.TheVariants.{Feed, Join, Read, Write, Resize, Take, Leave, Close}
use Rattle.gate_model.specs.declared.memory.NoMemory.{NoMemory}
use Rattle.gate_model.specs.session.Calls.{Step, Adds}
use Rattle.gate_model.specs.session.History.{History}
use Rattle.gate_model.specs.session.Laws.{EntriesAreFew}
use Rattle.gate_model.specs.session.Runs.{handed_out}
use Rattle.gate_model.specs.Sequences.{IsLater}
use Rattle.gate_model.specs.session.Steps.{Legal}
use Rattle.gate_model.specs.text.Text.{texts}
use Rattle.desk_core.specs.Calls.{Ended}
use Rattle.desk_core.specs.Desk.{DeskState, Stands}
use Rattle.desk_core.specs.Laws.{DesksAreWhole}
use Rattle.turn_lock.specs.declared.view.View.{View}
use Rattle.turn_lock.specs.Passes.{IsNext}
use Rattle.turn_lock.specs.Places.{ArePlaces}
use Rattle.turn_lock.specs.Views.{with_ticket, entered, gained, passed, HasPlaces, MayAdd, Owns}
use Rattle.shared_desk.specs.declared.held.Held.{Held}
use Rattle.shared_desk.specs.Marks.{mark_of, mark_for}
use Rattle.shared_desk.specs.Called.{after_turn, Answers, Turned}
use Rattle.shared_desk.specs.Members.{HasMark, IsSound}

-- what a desk stands for is sound
pub sound_of : DesksAreWhole → (d : DeskState) (h : History) → Stands d h → IsSound h
sound_of whole d h s = record { legal = s.legal; whole = whole d h s; frugal = s.frugal }

-- ---- what a call of the desk adds

pub mark_added : (g : History) (event : Event) (answer : Answer) (e : Entry) → Adds g event answer e → mark_of e ≡ mark_for event
mark_added g (Feed bytes now) answer e a = ap mark_of a.4
mark_added g (Join asked) answer e a = ap mark_of a.5
mark_added g (Read viewer) answer e a = ap mark_of a.3
mark_added g (Write viewer acts) answer e a = ap mark_of a.1
mark_added g (Resize viewer cols rows) answer e a = ap mark_of a.4
mark_added g (Take most) answer e a = ap mark_of a.1
mark_added g (Leave viewer) answer e a = ap mark_of a.1
mark_added g (Close cause) answer e a = ap mark_of a.1

-- one entry, of the call's mark
pub record IsOne (event : Event) (added : List Entry) : Type 0 where
  pub entry : Entry
  pub one : added ≡ entry ∷ []
  pub mark : mark_of entry ≡ mark_for event

none_or_one : (g : History) (event : Event) (answer : Answer) (added : List Entry) → Step g event answer added → (added ≡ []) ⊎ IsOne event added
none_or_one g event answer [] s = inl refl
none_or_one g event answer (e ∷ []) s = inr record { entry = e; one = refl; mark = mark_added g event answer e s.1.1 }
none_or_one g event answer (e ∷ f ∷ es) s = absurd s.1

-- what the call leaves, where the desk stood for g
pub record Leaves (event : Event) (answer : Result Answer NoMemory) (before after : List ℕ) (g : History) (new : DeskState) : Type 0 where
  pub added : List Entry
  pub answers : Answers event answer before after g added
  pub stands : Stands new (added ++ g)
  pub few : (added ≡ []) ⊎ IsOne event added

pub leaves : (event : Event) (answer : Result Answer NoMemory) (before after : List ℕ) (g : History) (old new : DeskState) → Stands old g → Ended g event answer old new before after → Leaves event answer before after g new
leaves event (Ok a) before after g old new s c = record { added = c.added; answers = (c.step, c.appended); stands = c.stands; few = none_or_one g event a c.added c.step }
leaves event (Err x) before after g old new s c =
    record { added = []; answers = (c.unstopped, refl, c.buffer); stands = subst (λ (k : DeskState). Stands k g) (sym c.desk) s; few = inl refl }

-- a buffer that gained a text begins with what it had
answers_front : (event : Event) (answer : Result Answer NoMemory) (before after : List ℕ) (g : History) (added : List Entry) → Answers event answer before after g added → take (length before) after ≡ before
answers_front event (Ok a) before after g added m = rw m.1 (take-append_seam before (texts (handed_out g event a added)))
answers_front event (Err x) before after g added m = rw m.2 (take-length before)

pub front_is : (event : Event) (answer : Result Answer NoMemory) (before after : List ℕ) (g : History) (new : DeskState) (n : ℕ) → Leaves event answer before after g new → n ≡ length before → take n after ≡ before
front_is event answer before after g new n k is = ap (λ (m : ℕ). take m after) is ∙ answers_front event answer before after g k.added k.answers

pub leaves_at : (event : Event) (answer : Result Answer NoMemory) (before other after : List ℕ) (g : History) (new : DeskState) → other ≡ before → Leaves event answer before after g new → Leaves event answer other after g new
leaves_at event answer before other after g new is k = subst (λ (b : List ℕ). Leaves event answer b after g new) (sym is) k

-- ---- whether the turn adds an entry: whether the desk has more entries after the call

-- the numbers of entries before and after the call
pub record AreCounts (old new : DeskState) (n m : ℕ) : Type 0 where
  pub before : (h : History) → Stands old h → n ≡ length h
  pub after : (h : History) → Stands new h → m ≡ length h

pub grew : (event : Event) (answer : Result Answer NoMemory) (before after : List ℕ) (g : History) (old new : DeskState) (n m : ℕ) → Stands old g → AreCounts old new n m
    → (k : Leaves event answer before after g new) → n < m → IsOne event k.added
grew event answer before after g old new n m s c k lt =
    ⊎_elim (λ none. absurd (omega (arith, lt, c.before g s, c.after (k.added ++ g) k.stands, ap (λ (es : List Entry). length (es ++ g)) none))) (λ one. one) k.few

pub stayed : (event : Event) (answer : Result Answer NoMemory) (before after : List ℕ) (g : History) (old new : DeskState) (n m : ℕ) → Stands old g → AreCounts old new n m
    → (k : Leaves event answer before after g new) → m ≤ n → k.added ≡ []
stayed event answer before after g old new n m s c k le =
    ⊎_elim (λ none. none) (λ one. absurd (omega (arith, le, c.before g s, c.after (k.added ++ g) k.stands, ap (λ (es : List Entry). length (es ++ g)) one.one))) k.few

may_add : (v : View Entry) (e : Entry) (m : Option ℕ) → mark_of e ≡ m → ((m ≡ None) ⊎ (v.mark ≡ m)) → MayAdd mark_of v e
may_add v e m is (inl none) = inl (is ∙ none)
may_add v e m is (inr own) = inr (is ∙ sym own)

-- the entry that the turn ends with
pub next_entry : (v : View Entry) (event : Event) (answer : Result Answer NoMemory) (w : Held) (before after : List ℕ) (old : DeskState) (n m : ℕ) → Stands old v.seen → AreCounts old w.desk n m
    → Leaves event answer before after v.seen w.desk → ((mark_for event ≡ None) ⊎ (v.mark ≡ mark_for event)) → nat_lt n m ≡ true
    → (e : Entry) × IsNext (λ (x : Held) h. Stands x.desk h) mark_of (λ e. Answers event answer before after v.seen (e ∷ [])) w v e
next_entry v event answer w before after old n m s c k may more =
    let one = grew event answer before after v.seen old w.desk n m s c k (ltb-true n m more) in (
      one.entry,
      record {
        named = subst (λ (es : List Entry). Answers event answer before after v.seen es) one.one k.answers;
        may = may_add v one.entry (mark_for event) one.mark may;
        stood = subst (λ (es : List Entry). Stands w.desk (es ++ v.seen)) one.one k.stands;
      },
    )

pub same_value : (event : Event) (answer : Result Answer NoMemory) (before after : List ℕ) (g : History) (old new : DeskState) (n m : ℕ) → Stands old g → AreCounts old new n m
    → Leaves event answer before after g new → nat_lt n m ≡ false → Stands new g
same_value event answer before after g old new n m s c k less = subst (λ (es : List Entry). Stands new (es ++ g)) (stayed event answer before after g old new n m s c k (ltb-false n m less)) k.stands

-- ---- the turn

-- a view that was outside a turn is so again, and the rest of it as the turn left it
outside_again : (v : View Entry) (s : History) (ps : List ℕ) → v.ticket ≡ None → v.inside ≡ false → record v { seen = s; mine = ps; ticket = None; inside = false } ≡ record v { seen = s; mine = ps }
outside_again v s ps ticket inside = ap (λ t. record v { seen = s; mine = ps; ticket = t; inside = false }) (sym ticket) ∙ ap (λ b. record v { seen = s; mine = ps; inside = b }) (sym inside)

-- what was known before a turn that found g, and how it began
pub record Begins (v u : View Entry) (g : History) : Type 0 where
  pub later : IsLater v.seen g
  pub known : v.known ≤ length g
  pub ticket : v.ticket ≡ None
  pub outside : v.inside ≡ false
  pub within : ArePlaces (length v.seen) v.mine
  pub owns : Owns mark_of g v
  pub legal : Legal g
  pub turn : ℕ
  pub entered : u ≡ entered g (with_ticket turn v)

-- how it ended, where the flag said whether an entry was added
pub record Ends (u w : View Entry) (event : Event) (answer : Result Answer NoMemory) (before after : List ℕ) (g : History) (held : Held) (appended : Bool) : Type 0 where
  pub added : appended ≡ true → (e : Entry) × IsNext (λ (x : Held) h. Stands x.desk h) mark_of (λ e. Answers event answer before after g (e ∷ [])) held u e × (w ≡ passed (gained e u))
  pub same : appended ≡ false → w ≡ passed u
  pub places : HasPlaces mark_of w
  pub sound : IsSound w.seen

turned_by : (v w u : View Entry) (g : History) (event : Event) (answer : Result Answer NoMemory) (held : Held) (before after : List ℕ) (appended : Bool) → Begins v u g → Ends u w event answer before after g held appended
    → (appended ≡ false → Answers event answer before after g []) → (b : Bool) → appended ≡ b → Turned v w (Answers event answer before after)
turned_by v w u g event answer held before after appended i o none true is =
    let y = o.added is in
    let e : Entry = y.0 in
    let next = y.1 in
    let ended : w ≡ after_turn g (e ∷ []) v = y.2 ∙ (ap (λ z. passed (gained e z)) i.entered ∙ outside_again v (e ∷ g) (length g ∷ v.mine) i.ticket i.outside) in
    record {
      before = g;
      added = e ∷ [];
      later = i.later;
      known = i.known;
      legal_before = i.legal;
      sound = subst (λ (z : View Entry). IsSound z.seen) ended o.sound;
      within = i.within;
      owns = i.owns;
      did_it = next.named;
      after = ended;
      places = o.places;
    }
turned_by v w u g event answer held before after appended i o none false is =
    let ended : w ≡ after_turn g [] v = o.same is ∙ (ap (λ z. passed z) i.entered ∙ outside_again v g v.mine i.ticket i.outside) in
    record {
      before = g;
      added = [];
      later = i.later;
      known = i.known;
      legal_before = i.legal;
      sound = subst (λ (z : View Entry). IsSound z.seen) ended o.sound;
      within = i.within;
      owns = i.owns;
      did_it = none is;
      after = ended;
      places = o.places;
    }

pub turned : (v0 v w u : View Entry) (g : History) (event : Event) (answer : Result Answer NoMemory) (held : Held) (before after : List ℕ) (old : DeskState) (n m : ℕ) → v ≡ v0 → Begins v u g → Stands old g → AreCounts old held.desk n m
    → Leaves event answer before after g held.desk → Ends u w event answer before after g held (nat_lt n m) → Turned v0 w (Answers event answer before after)
turned v0 v w u g event answer held before after old n m is i s c k o =
    subst (λ (z : View Entry). Turned z w (Answers event answer before after)) is
    (turned_by v w u g event answer held before after (nat_lt n m) i o (λ f. subst (λ (es : List Entry). Answers event answer before after g es) (stayed event answer before after g old held.desk n m s c k (ltb-false n m f)) k.answers) (nat_lt n m) refl)

-- ---- what follows of every turn

pub gave : (v w : View Entry) (event : Event) (answer : Result Answer NoMemory) (b before after : List ℕ) → b ≡ before → Turned v w (Answers event answer b after) → Turned v w (Answers event answer before after)
gave v w event answer b before after is t = subst (λ (x : List ℕ). Turned v w (Answers event answer x after)) is t

pub at_old : (v v0 w : View Entry) (did : History → List Entry → Type 0) → v ≡ v0 → Turned v w did → Turned v0 w did
at_old v v0 w did is t = subst (λ (z : View Entry). Turned z w did) is t

pub sound_after : (v w : View Entry) (did : History → List Entry → Type 0) → Turned v w did → IsSound w.seen
sound_after v w did t = subst (λ (z : View Entry). IsSound z.seen) (sym t.after) t.sound

pub keeps_mark : (v w : View Entry) (did : History → List Entry → Type 0) → Turned v w did → w.mark ≡ v.mark
keeps_mark v w did t = ap (λ (z : View Entry). z.mark) t.after

pub keeps_given : (v w : View Entry) (did : History → List Entry → Type 0) → Turned v w did → w.given ≡ v.given
keeps_given v w did t = ap (λ (z : View Entry). z.given) t.after

pub seen_is : (v w : View Entry) (did : History → List Entry → Type 0) (t : Turned v w did) → w.seen ≡ t.added ++ t.before
seen_is v w did t = ap (λ (z : View Entry). z.seen) t.after

-- ---- what is left is sound

-- since the desk stands for it, with the entry that was added or without
pub ends_sound : DesksAreWhole → (adds : Entry → Type 0) (appended : Bool) (w : Held) (v u : View Entry)
    → (appended ≡ true → (e : Entry) × IsNext (λ (x : Held) h. Stands x.desk h × (length h < 2 ^ 62)) mark_of adds w v e × (u ≡ passed (gained e v)))
    → (appended ≡ false → u ≡ passed v) → (appended ≡ false → Stands w.desk v.seen) → IsSound u.seen
ends_sound whole adds true w v u added same stays = let y = added refl in subst (λ (z : View Entry). IsSound z.seen) (sym y.2) (sound_of whole w.desk (y.0 ∷ v.seen) y.1.stood.0)
ends_sound whole adds false w v u added same stays = subst (λ (z : View Entry). IsSound z.seen) (sym (same refl)) (sound_of whole w.desk v.seen (stays refl))

-- ---- the number of entries, which is few

module _ (adds : Entry → Type 0) (w : Held) (v : View Entry) (few : EntriesAreFew) where
  pub counted_entry : ((e : Entry) × IsNext (λ (x : Held) h. Stands x.desk h) mark_of adds w v e) → (e : Entry) × IsNext (λ (x : Held) h. Stands x.desk h × (length h < 2 ^ 62)) mark_of adds w v e
  counted_entry n = (n.0, record { named = n.1.named; may = n.1.may; stood = (n.1.stood, few (n.0 ∷ v.seen) n.1.stood.legal) })

pub counted_value : (d : DeskState) (h : History) → EntriesAreFew → Stands d h → Stands d h × (length h < 2 ^ 62)
counted_value d h few s = (s, few h s.legal)

pub keeps_pass_mark : (m : ℕ) (v w : View Entry) (did : History → List Entry → Type 0) → Turned v w did → HasMark m v → HasMark m w
keeps_pass_mark m v w did t h = record { mark = keeps_mark v w did t ∙ h.mark; not_first = keeps_given v w did t ∙ h.not_first }
