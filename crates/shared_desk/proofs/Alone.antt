-- What others add changes nothing of what belongs to one pass: since every entry of its mark is its own, a turn
-- finds as it left it what entries of that mark alone change.
use Rattle.std.proofs.Common.{◌≡◌, ℕ, ◌+◌, ◌≤◌, List, [], ◌∷◌, ◌++◌, length, Bool, true, false, inl, inr, refl, ap, sym, ◌∙◌, subst, append-nil, append_assoc, arith}
use Rattle.std.specs.Prelude.{Some, None, Ok, ◌==◌, if◌then◌else◌}
use Rattle.std.proofs.lemmas.Bool.{ne_eqb}
use Rattle.gate_model.specs.declared.answer.Answer.{Answer}
use Rattle.gate_model.specs.declared.entry.Entry.{Entry}
use Rattle.gate_model.specs.declared.entry.Entry.TheVariants.{Start, Feed, Size, Join, Read, Write, Take, Leave, Close}
use Rattle.gate_model.specs.declared.cause.Cause.{Cause}
use Rattle.gate_model.specs.declared.event.Event.{Event}
use Rattle.gate_model.specs.declared.event.Event.TheVariants.{Close as Closes}
use Rattle.gate_model.specs.declared.instr.Instr.{Instr}
use Rattle.gate_model.specs.declared.sharing.Role.{Role}
use Rattle.gate_model.specs.session.Calls.{Step}
use Rattle.gate_model.specs.session.Delivered.{delivered, given, last_sync, closing, handed}
use Rattle.gate_model.specs.session.Entries.{is_join}
use Rattle.gate_model.specs.session.History.{History, bytes, joined}
use Rattle.gate_model.specs.session.Output.{out, sent, taken}
use Rattle.gate_model.specs.Sequences.{BeginsWith}
use Rattle.gate_model.specs.session.Steps.{Legal}
use Rattle.gate_model.proofs.Added.{next}
use Rattle.turn_lock.specs.declared.view.View.{View}
use Rattle.turn_lock.specs.Places.{IsAt}
use Rattle.shared_desk.specs.Called.{Answers, Turned}
use Rattle.shared_desk.specs.Marks.{mark_of, mark_for, reader_mark}
use Rattle.shared_desk.specs.Members.{IsViewers, KnowsViewer}
use Rattle.shared_desk.proofs.Turns.{keeps_pass_mark, mark_added, seen_is}

pub longer_than : (more g : History) → length g ≤ length (more ++ g)
longer_than [] g = omega arith
longer_than (e ∷ more) g = omega (arith, longer_than more g)

-- no entry past the first n has the mark
abbrev pub NoneOf : ℕ → ℕ → History → Type 0
NoneOf m n h = (p : ℕ) (e : Entry) → IsAt h p e → n ≤ p → mark_of e ≡ Some m → ⊥

-- what a turn found past what the pass had seen has no entry of the pass's mark
pub none_of : (m : ℕ) (v w : View Entry) (did : History → List Entry → Type 0) → v.mark ≡ Some m → (t : Turned v w did) → NoneOf m (length v.seen) (t.later.0 ++ v.seen)
none_of m v w did mark t = λ p e at past is.
    let own = t.owns m p e mark (subst (λ (h : History). IsAt h p e) (sym t.later.1) at) is in
    omega (arith, t.within.within p own, past)

-- what only entries of the mark change
abbrev pub Measures : {X : Type 0} → (History → X) → ℕ → Type 0
Measures {X} f m = (e : Entry) (g : History) → (mark_of e ≡ Some m → ⊥) → f (e ∷ g) ≡ f g

module _ {X : Type 0} (f : History → X) (m : ℕ) (by : Measures f m) where
  since : (more g : History) → NoneOf m (length g) (more ++ g) → f (more ++ g) ≡ f g
  since [] g none = refl
  since (e ∷ more) g none = by e (more ++ g) (λ is. none (length (more ++ g)) e (inl (refl, refl)) (longer_than more g) is) ∙ since more g (λ p x at le. none p x (inr at) le)

  pub found : (v w : View Entry) (did : History → List Entry → Type 0) → v.mark ≡ Some m → (t : Turned v w did) → f t.before ≡ f v.seen
  found v w did mark t = ap f t.later.1 ∙ since t.later.0 v.seen (none_of m v w did mark t)

  -- a call whose entry has no mark
  pub unmarked : (g : History) (event : Event) (answer : Answer) (added : List Entry) → mark_for event ≡ None → Step g event answer added → f (added ++ g) ≡ f g
  unmarked g event answer [] none s = refl
  unmarked g event answer (e ∷ []) none s = by e g (λ is. let w : None ≡ Some m = sym (mark_added g event answer e s.1.1 ∙ none) ∙ is in cc)
  unmarked g event answer (e ∷ x ∷ es) none s = absurd s.1

pub bytes_measure : Measures bytes 1
bytes_measure (Start c r m t k n s f) g apart = append-nil (bytes g)
bytes_measure (Feed b s f) g apart = absurd (apart refl)
bytes_measure (Size w c r s f) g apart = append-nil (bytes g)
bytes_measure (Join w role first) g apart = append-nil (bytes g)
bytes_measure (Read w how) g apart = append-nil (bytes g)
bytes_measure (Write w acts) g apart = append-nil (bytes g)
bytes_measure (Take n) g apart = append-nil (bytes g)
bytes_measure (Leave w) g apart = append-nil (bytes g)
bytes_measure (Close c) g apart = append-nil (bytes g)

pub taken_measure : Measures taken 2
taken_measure (Start c r m t k n s f) g apart = omega arith
taken_measure (Feed b s f) g apart = omega arith
taken_measure (Size w c r s f) g apart = omega arith
taken_measure (Join w role first) g apart = omega arith
taken_measure (Read w how) g apart = omega arith
taken_measure (Write w acts) g apart = omega arith
taken_measure (Take n) g apart = absurd (apart refl)
taken_measure (Leave w) g apart = omega arith
taken_measure (Close c) g apart = omega arith

-- ---- what was sent before is sent first

sent_first : (more g : History) → BeginsWith (out (more ++ g)) (out g)
sent_first [] g = ([], sym (append-nil (out g)))
sent_first (e ∷ more) g = let l = sent_first more g in (l.0 ++ sent (more ++ g) e, ap (λ (bs : List ℕ). bs ++ sent (more ++ g) e) l.1 ∙ append_assoc (out g) l.0 (sent (more ++ g) e))

pub sent_on : (v w : View Entry) (did : History → List Entry → Type 0) → Turned v w did → BeginsWith (out w.seen) (out v.seen)
sent_on v w did t =
    let is : w.seen ≡ (t.added ++ t.later.0) ++ v.seen = seen_is v w did t ∙ (ap (λ (h : History). t.added ++ h) t.later.1 ∙ sym (append_assoc t.added t.later.0 v.seen)) in
    subst (λ (h : History). BeginsWith (out h) (out v.seen)) (sym is) (sent_first (t.added ++ t.later.0) v.seen)

-- ---- what a viewer was given

not_same : (v w : ℕ) → (v ≡ w → ⊥) → (v == w) ≡ false
not_same v w apart = ne_eqb v w apart

-- more viewers never make fewer
joined_more : (b : Bool) (n : ℕ) → n ≤ (if b then n + 1 else n)
joined_more true n = omega arith
joined_more false n = omega arith

pub joined_grows : (more g : History) → joined g ≤ joined (more ++ g)
joined_grows [] g = omega arith
joined_grows (e ∷ more) g = omega (arith, joined_grows more g, joined_more (is_join e) (joined (more ++ g)))

-- an entry that is neither the viewer's Join nor its Read gives it nothing
gives_none : (g : History) (before : List Instr) (v : ℕ) (e : Entry) → (mark_of e ≡ Some (reader_mark v) → ⊥) → ((w : ℕ) (role : Role) (first : List Instr) → e ≡ Join w role first → (w == v) ≡ false) → given g before v e ≡ []
gives_none g before v (Start c r m t k n s f) apart new = refl
gives_none g before v (Feed b s f) apart new = refl
gives_none g before v (Size w c r s f) apart new = refl
gives_none g before v (Join w role first) apart new = ap (λ (b : Bool). (if b then first else []) ++ []) (new w role first refl)
gives_none g before v (Read w how) apart new = let no : (w == v) ≡ false = not_same w v (λ is. apart (ap (λ (n : ℕ). Some (reader_mark n)) is)) in
    ap (λ (b : Bool). (if b then handed g (last_sync before) how else []) ++ (if b then closing g else [])) no
gives_none g before v (Write w acts) apart new = refl
gives_none g before v (Take n) apart new = refl
gives_none g before v (Leave w) apart new = refl
gives_none g before v (Close c) apart new = refl

joins_later : (e : Entry) (g : History) (v : ℕ) → Legal (e ∷ g) → v ≤ joined g → (1 ≤ length g) → (w : ℕ) (role : Role) (first : List Instr) → e ≡ Join w role first → (w == v) ≡ false
joins_later e [] v legal old some w role first is = absurd (omega (arith, some))
joins_later e (f ∷ g) v legal old some w role first is =
    let joins = next (Join w role first) f g (subst (λ (x : Entry). Legal (x ∷ f ∷ g)) is legal) in
    not_same w v (λ same. omega (arith, joins.is_next, old, same))

legal_before : (e : Entry) (g : History) → 1 ≤ length g → Legal (e ∷ g) → Legal g
legal_before e [] some l = absurd (omega (arith, some))
legal_before e (f ∷ g) some l = l.0

some_before : (more g : History) → 1 ≤ length g → 1 ≤ length (more ++ g)
some_before more g some = omega (arith, longer_than more g, some)

same_given : (v : ℕ) (more g : History) → Legal (more ++ g) → 1 ≤ length g → v ≤ joined g → NoneOf (reader_mark v) (length g) (more ++ g) → delivered (more ++ g) v ≡ delivered g v
same_given v [] g legal some old none = refl
same_given v (e ∷ more) g legal some old none =
    let more_some = some_before more g some in
    let here = gives_none (more ++ g) (delivered (more ++ g) v) v e (λ m. none (length (more ++ g)) e (inl (refl, refl)) (longer_than more g) m) (joins_later e (more ++ g) v legal (omega (arith, old, joined_grows more g)) more_some) in
    ap (λ (is : List Instr). delivered (more ++ g) v ++ is) here ∙ (append-nil (delivered (more ++ g) v) ∙ same_given v more g (legal_before e (more ++ g) more_some legal) some old (λ p x at le. none p x (inr at) le))

-- a reader's turn finds its viewer as it left it
pub found_viewer : (viewer : ℕ) (v w : View Entry) (did : History → List Entry → Type 0) → IsViewers (reader_mark viewer) viewer v → (t : Turned v w did) → delivered t.before viewer ≡ delivered v.seen viewer
found_viewer viewer v w did r t =
    let more = t.later.0 in
    let is : t.before ≡ more ++ v.seen = t.later.1 in
    ap (λ (h : History). delivered h viewer) is
    ∙ same_given viewer more v.seen (subst (λ (h : History). Legal h) is t.legal_before) r.knows.begun r.knows.joined (none_of (reader_mark viewer) v w did r.mark.mark t)

-- ---- a turn takes nobody's Join away

pub joined_turn : (v w : View Entry) (did : History → List Entry → Type 0) → (t : Turned v w did) → joined v.seen ≤ joined w.seen
joined_turn v w did t =
    let a = joined_grows t.later.0 v.seen in
    let b = joined_grows t.added t.before in
    let c : joined t.before ≡ joined (t.later.0 ++ v.seen) = ap joined t.later.1 in
    let d : joined w.seen ≡ joined (t.added ++ t.before) = ap joined (seen_is v w did t) in
    omega (arith, a, b, c, d)

pub begun_turn : (v w : View Entry) (did : History → List Entry → Type 0) → (t : Turned v w did) → 1 ≤ length v.seen → 1 ≤ length w.seen
begun_turn v w did t some =
    let a = longer_than t.later.0 v.seen in
    let b = longer_than t.added t.before in
    let c : length t.before ≡ length (t.later.0 ++ v.seen) = ap length t.later.1 in
    let d : length w.seen ≡ length (t.added ++ t.before) = ap length (seen_is v w did t) in
    omega (arith, a, b, c, d, some)

pub keeps_knowing : (viewer : ℕ) (v w : View Entry) (did : History → List Entry → Type 0) → Turned v w did → KnowsViewer viewer v → KnowsViewer viewer w
keeps_knowing viewer v w did t k = record { first = k.first; joined = omega (arith, joined_turn v w did t, k.joined); begun = begun_turn v w did t k.begun }

pub keeps_viewers : (m viewer : ℕ) (v w : View Entry) (did : History → List Entry → Type 0) → Turned v w did → IsViewers m viewer v → IsViewers m viewer w
keeps_viewers m viewer v w did t h = record { mark = keeps_pass_mark m v w did t h.mark; knows = keeps_knowing viewer v w did t h.knows }

-- ---- a call whose entry has no mark leaves what only entries of one mark change

pub closed_keeps : {X : Type 0} (f : History → X) (m : ℕ) → Measures f m → (v w : View Entry) (cause : Cause) (answer : Answer) → v.mark ≡ Some m → Turned v w (Answers (Closes cause) (Ok answer) [] []) → f w.seen ≡ f v.seen
closed_keeps f m by v w cause answer mark t = ap f (seen_is v w _ t) ∙ (unmarked f m by t.before (Closes cause) answer t.added refl t.did_it.0 ∙ found f m by v w _ mark t)
