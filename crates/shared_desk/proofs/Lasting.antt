-- What the loops over passes rest on: what a call adds to a pass's own entries, why it was refused, and what stays
-- once it was seen.
use Rattle.std.proofs.Common.{◌≡◌, ◌⊎◌, ℕ, ◌+◌, ◌≤◌, List, [], ◌∷◌, ◌++◌, length, Bool, true, false, inl, inr, refl, ap, sym, ◌∙◌, subst, append_assoc, arith}
use Rattle.std.specs.Prelude.{Option, Some, None, Contains, Result, Ok, Err, not, ◌&&◌, ◌||◌, ◌==◌, nat_lt, if◌then◌else◌, take}
use Rattle.std.specs.Option.{option_map}
use Rattle.std.proofs.lemmas.Bool.{eq-eqb, leb-true, le-leb}
use Rattle.std.proofs.lemmas.Bool.Decides.{eqb_tells}
use Rattle.std.proofs.lemmas.List.Elements.{Contains-append_right}
use Rattle.gate_model.specs.declared.act.Act.{Act}
use Rattle.gate_model.specs.declared.answer.Answer.{Answer}
use Rattle.gate_model.specs.declared.answer.Answer.TheVariants.{Feed as fed, Read as was_read, Write as was_written, Resize as was_resized, Take as was_taken, Leave as was_left, Close as was_closed}
use Rattle.gate_model.specs.declared.cause.Cause.{Cause}
use Rattle.gate_model.specs.declared.closed.Closed.{Closed}
use Rattle.gate_model.specs.declared.entry.Entry.{Entry}
use Rattle.gate_model.specs.declared.entry.Entry.TheVariants.{Start, Feed, Size, Join, Read, Write, Take, Leave, Close}
use Rattle.gate_model.specs.declared.event.Event.{Event}
use Rattle.gate_model.specs.declared.event.Event.TheVariants.{Feed as feed, Read as read, Write as write, Resize as resize, Take as take_most, Leave as leave, Close as close}
use Rattle.gate_model.specs.declared.feed_refusal.FeedRefusal.{FeedRefusal}
use Rattle.gate_model.specs.declared.feed_refusal.FeedRefusal.TheVariants.{Closed as feed_closed, Worn as feed_worn, NoMemory as feed_no_memory}
use Rattle.gate_model.specs.declared.how.How.{How}
use Rattle.gate_model.specs.declared.how.How.TheVariants.{Suffix, Fresh as Picture}
use Rattle.gate_model.specs.declared.instr.Instr.{Instr}
use Rattle.gate_model.specs.declared.memory.NoMemory.{NoMemory}
use Rattle.gate_model.specs.declared.no_viewer.NoViewer.{NoViewer}
use Rattle.gate_model.specs.declared.read_answer.ReadAnswer.{ReadAnswer}
use Rattle.gate_model.specs.declared.read_answer.ReadAnswer.TheVariants.{Frames, Fresh, Ended, Empty, Hold}
use Rattle.gate_model.specs.declared.read_refusal.ReadRefusal.{ReadRefusal}
use Rattle.gate_model.specs.declared.read_refusal.ReadRefusal.TheVariants.{NoViewer as read_no_viewer, Worn as read_worn, NoMemory as read_no_memory}
use Rattle.gate_model.specs.declared.resize_refusal.ResizeRefusal.{ResizeRefusal}
use Rattle.gate_model.specs.declared.resize_refusal.ResizeRefusal.TheVariants as resize_stop
use Rattle.gate_model.specs.declared.taken.Taken.{Taken}
use Rattle.gate_model.specs.declared.write_refusal.WriteRefusal.{WriteRefusal}
use Rattle.gate_model.specs.declared.write_refusal.WriteRefusal.TheVariants.{NoViewer as write_no_viewer, Closed as write_closed, Worn as write_worn, NoMemory as write_no_memory}
use Rattle.gate_model.specs.session.Calls.{Step, lacked, stop_of, take_entry, updated_as}
use Rattle.gate_model.specs.session.History.{History, capacity, is_closed, is_full, joined, newest}
use Rattle.gate_model.specs.session.Refusals.{first_of, only_if, close_cause, has_size, feed_refusal, read_stop, write_refusal, resize_refusal, leave_refusal, close_refusal}
use Rattle.gate_model.specs.session.Rights.{is_control, is_live, role_in}
use Rattle.gate_model.specs.session.Waiting.{waiting}
use Rattle.gate_model.specs.Limits.{most_waiting}
use Rattle.gate_model.specs.session.Delivered.{closed_by, closing, ended, farewell_to, is_some_list, position}
use Rattle.gate_model.specs.session.Steps.{Legal}
use Rattle.gate_model.specs.Sequences.{IsLater}
use Rattle.gate_model.proofs.Added.{IsNext, next}
use Rattle.gate_model.proofs.Causes.{closed_with_cause}
use Rattle.desk_core.specs.Calls.{feed_answer, read_answer, resize_answer, write_answer}
use Rattle.desk_core.proofs.Adding.{take_told}
use Rattle.turn_lock.specs.declared.view.View.{View}
use Rattle.turn_lock.proofs.Elements.{contains_head, contains_tail}
use Rattle.shared_desk.specs.Called.{Answers, Turned, take_answer}
use Rattle.shared_desk.specs.Members.{IsSound, KnowsViewer}
use Rattle.shared_desk.specs.Own.{AreReads, own_entries}
use Rattle.shared_desk.proofs.Turns.{seen_is, sound_after}
use Rattle.shared_desk.proofs.Alone.{keeps_knowing, longer_than}
use Rattle.shared_desk.proofs.Derived.{AreFew, not_ok, own_turn, step_few}

-- ---- what stays once it was seen

pub turn_later : (v w : View Entry) (did : History → List Entry → Type 0) → Turned v w did → IsLater v.seen w.seen
turn_later v w did t = (t.added ++ t.later.0, seen_is v w did t ∙ (ap (λ (h : History). t.added ++ h) t.later.1 ∙ sym (append_assoc t.added t.later.0 v.seen)))

pub turn_sound : (v w : View Entry) (did : History → List Entry → Type 0) → Turned v w did → IsSound w.seen
turn_sound v w did t = sound_after v w did t

pub turn_legal : (v w : View Entry) (did : History → List Entry → Type 0) → Turned v w did → Legal w.seen
turn_legal v w did t = (turn_sound v w did t).legal

pub turn_knows : (viewer : ℕ) (v w : View Entry) (did : History → List Entry → Type 0) → Turned v w did → KnowsViewer viewer v → KnowsViewer viewer w
turn_knows viewer v w did t k = keeps_knowing viewer v w did t k

pub later_contains : (g h : History) (e : Entry) → IsLater g h → Contains g e → Contains h e
later_contains g h e l c = subst (λ (x : History). Contains x e) (sym l.1) (Contains-append_right l.0 g e c)

pub some_seen : (h : History) → Legal h → 1 ≤ length h
some_seen [] l = absurd l
some_seen (e ∷ g) l = omega arith

-- a later entry is no Start, which alone says how many entries there may be
capacity_next : (e f : Entry) (g : History) → Legal (e ∷ f ∷ g) → capacity (e ∷ f ∷ g) ≡ capacity (f ∷ g)
capacity_next (Start c r m t k n s x) f g l = absurd (next (Start c r m t k n s x) f g l)
capacity_next (Feed b s x) f g l = refl
capacity_next (Size v c r s x) f g l = refl
capacity_next (Join v r x) f g l = refl
capacity_next (Read v how) f g l = refl
capacity_next (Write v acts) f g l = refl
capacity_next (Take n) f g l = refl
capacity_next (Leave v) f g l = refl
capacity_next (Close c) f g l = refl

legal_tail : (e : Entry) (more g : History) → 1 ≤ length g → Legal (e ∷ more ++ g) → Legal (more ++ g) × (capacity (e ∷ more ++ g) ≡ capacity (more ++ g))
legal_tail e [] [] some l = absurd (omega (arith, some))
legal_tail e [] (f ∷ g) some l = (l.0, capacity_next e f g l)
legal_tail e (f ∷ more) g some l = (l.0, capacity_next e f (more ++ g) l)

same_capacity : (more g : History) → 1 ≤ length g → Legal (more ++ g) → capacity (more ++ g) ≡ capacity g
same_capacity [] g some l = refl
same_capacity (e ∷ more) g some l = let k = legal_tail e more g some l in k.1 ∙ same_capacity more g some k.0

-- a full history stays full
pub full_stays : (g h : History) → IsLater g h → 1 ≤ length g → Legal h → is_full g ≡ true → is_full h ≡ true
full_stays g h later some legal full =
    let same : capacity h ≡ capacity g = ap capacity later.1 ∙ same_capacity later.0 g some (subst (λ (x : History). Legal x) later.1 legal) in
    let long : length g ≤ length h = omega (arith, ap length later.1, longer_than later.0 g) in
    le-leb (capacity h) (length h) (omega (arith, same, long, leb-true (capacity g) (length g) full))

pub closes_seen : (g : History) (c : Cause) → close_cause g ≡ Some c → Contains g (Close c)
closes_seen [] c e = absurd (let w : None ≡ Some c = e in cc)
closes_seen (Start a b m t k n s f ∷ g) c e = contains_tail (Start a b m t k n s f) (Close c) g (closes_seen g c e)
closes_seen (Feed b s f ∷ g) c e = contains_tail (Feed b s f) (Close c) g (closes_seen g c e)
closes_seen (Size v cols rows s f ∷ g) c e = contains_tail (Size v cols rows s f) (Close c) g (closes_seen g c e)
closes_seen (Join v r f ∷ g) c e = contains_tail (Join v r f) (Close c) g (closes_seen g c e)
closes_seen (Read v how ∷ g) c e = contains_tail (Read v how) (Close c) g (closes_seen g c e)
closes_seen (Write v acts ∷ g) c e = contains_tail (Write v acts) (Close c) g (closes_seen g c e)
closes_seen (Take n ∷ g) c e = contains_tail (Take n) (Close c) g (closes_seen g c e)
closes_seen (Leave v ∷ g) c e = contains_tail (Leave v) (Close c) g (closes_seen g c e)
closes_seen (Close kept ∷ g) c e = let same : kept ≡ c = (let w : Some kept ≡ Some c = e in cc) in subst (λ (x : Cause). Contains (Close kept ∷ g) (Close x)) same (contains_head (Close kept) g)

-- ---- why a call was refused

-- memory stopped a call, and nothing else did after what its pass has seen
pub stopped_alone : (v w : View Entry) (event : Event) (refused : NoMemory) (before after : List ℕ) → Turned v w (Answers event (Err refused) before after) → stop_of w.seen event ≡ None
stopped_alone v w event refused before after t = ap (λ (h : History). stop_of h event) (seen_is v w _ t ∙ ap (λ (es : List Entry). es ++ t.before) t.did_it.1) ∙ t.did_it.0

unmapped : {E : Type 0} (f : E → Answer) → ((x y : E) → f x ≡ f y → x ≡ y) → (o : Option E) (r : E) → option_map f o ≡ Some (f r) → o ≡ Some r
unmapped {E} f same None r e = absurd (let w : None ≡ Some (f r) = e in cc)
unmapped {E} f same (Some x) r e = ap Some (same x r (let w : Some (f x) ≡ Some (f r) = e in cc))

-- a call that was refused added nothing
none_added : {E : Type 0} (f : E → Answer) (g : History) (event : Event) (r : E) (added : List Entry) → ((e : Entry) → Step g event (f r) (e ∷ []) → ⊥) → Step g event (f r) added → added ≡ []
none_added {E} f g event r [] never s = refl
none_added {E} f g event r (e ∷ []) never s = absurd (never e s)
none_added {E} f g event r (e ∷ x ∷ es) never s = absurd s.1

-- why a feed was refused
abbrev pub FeedCause : FeedRefusal → History → Type 0
FeedCause (feed_closed c) g = close_cause g ≡ Some c
FeedCause (feed_worn n) g = is_full g ≡ true
FeedCause feed_no_memory g = Unit {0}

feed_why : (o : Option Cause) (b : Bool) (n : ℕ) (r : FeedRefusal) → first_of (option_map feed_closed o ∷ only_if b (feed_worn n) ∷ []) ≡ Some r → ((c : Cause) → r ≡ feed_closed c → o ≡ Some c) × ((m : ℕ) → r ≡ feed_worn m → b ≡ true)
feed_why (Some x) b n r e =
    let w : feed_closed x ≡ r = (let z : Some (feed_closed x) ≡ Some r = e in cc) in (
      λ c is. ap Some (let z : feed_closed x ≡ feed_closed c = w ∙ is in cc),
      λ m is. absurd (let z : feed_closed x ≡ feed_worn m = w ∙ is in cc),
    )
feed_why None true n r e =
    let w : feed_worn n ≡ r = (let z : Some (feed_worn n) ≡ Some r = e in cc) in (
      λ c is. absurd (let z : feed_worn n ≡ feed_closed c = w ∙ is in cc),
      λ m is. refl,
    )
feed_why None false n r e = absurd (let z : None ≡ Some r = e in cc)

fed_inj : (x y : FeedRefusal) → fed (Err x) ≡ fed (Err y) → x ≡ y
fed_inj x y e = cc

feed_none : (g : History) (bs : List ℕ) (now : ℕ) (r : FeedRefusal) (e : Entry) → Step g (feed bs now) (fed (Err r)) (e ∷ []) → ⊥
feed_none g bs now r e s = let w = s.1.1.3 in cc

feed_stop : (g : History) (bs : List ℕ) (now : ℕ) (r : FeedRefusal) (added : List Entry) → Step g (feed bs now) (fed (Err r)) added → feed_refusal g ≡ Some r
feed_stop g bs now r [] s = unmapped (λ (x : FeedRefusal). fed (Err x)) fed_inj (feed_refusal g) r s.1
feed_stop g bs now r (e ∷ []) s = absurd (feed_none g bs now r e s)
feed_stop g bs now r (e ∷ x ∷ es) s = absurd s.1

-- a refused turn adds nothing, and finds what it leaves
stays_own : (v w : View Entry) (did : History → List Entry → Type 0) (t : Turned v w did) → t.added ≡ [] → (own_entries w ≡ own_entries v) × (t.before ≡ w.seen)
stays_own v w did t none = (
  own_turn v w did t (subst AreFew (sym none) tt) ∙ ap (λ (es : List Entry). es ++ own_entries v) none,
  sym (seen_is v w did t ∙ ap (λ (es : List Entry). es ++ t.before) none),
)

-- ---- LinkPass

pub feed_adds : (v w : View Entry) (bs : List ℕ) (now stamp : ℕ) → Turned v w (Answers (feed bs now) (feed_answer (Ok stamp)) [] []) → (s : ℕ) × (frame : List Instr) × (own_entries w ≡ Feed bs s frame ∷ own_entries v)
feed_adds v w bs now stamp t = by t.added t.did_it.0 (own_turn v w _ t (step_few t.before (feed bs now) (fed (Ok stamp)) t.added t.did_it.0))
  where
    by : (added : List Entry) → Step t.before (feed bs now) (fed (Ok stamp)) added → own_entries w ≡ added ++ own_entries v → (s : ℕ) × (frame : List Instr) × (own_entries w ≡ Feed bs s frame ∷ own_entries v)
    by [] s own = absurd (not_ok (λ (x : FeedRefusal). fed (Err x)) (λ (n : ℕ). fed (Ok n)) (feed_refusal t.before) stamp (λ x n is. cc) s.1)
    by (e ∷ []) s own = (_, s.1.1.1, own ∙ ap (λ (x : Entry). x ∷ own_entries v) s.1.1.4)
    by (e ∷ x ∷ es) s own = absurd s.1

feed_turned : (v w : View Entry) (bs : List ℕ) (now : ℕ) (r : FeedRefusal) → Turned v w (Answers (feed bs now) (Ok (fed (Err r))) [] []) → (own_entries w ≡ own_entries v) × (feed_refusal w.seen ≡ Some r)
feed_turned v w bs now r t =
    let k = stays_own v w _ t (none_added (λ (x : FeedRefusal). fed (Err x)) t.before (feed bs now) r t.added (λ e s. feed_none t.before bs now r e s) t.did_it.0) in
    (k.0, ap feed_refusal (sym k.1) ∙ feed_stop t.before bs now r t.added t.did_it.0)

pub feed_refused : (v w : View Entry) (bs : List ℕ) (now : ℕ) (r : FeedRefusal) → Turned v w (Answers (feed bs now) (feed_answer (Err r)) [] []) → (own_entries w ≡ own_entries v) × FeedCause r w.seen
feed_refused v w bs now (feed_closed c) t = let k = feed_turned v w bs now (feed_closed c) t in (k.0, (feed_why (close_cause w.seen) (is_full w.seen) (length w.seen) (feed_closed c) k.1).0 c refl)
feed_refused v w bs now (feed_worn n) t = let k = feed_turned v w bs now (feed_worn n) t in (k.0, (feed_why (close_cause w.seen) (is_full w.seen) (length w.seen) (feed_worn n) k.1).1 n refl)
feed_refused v w bs now feed_no_memory t = ((stays_own v w _ t t.did_it.1).0, tt)

-- ---- a close, by any pass

close_inj : (x y : Closed) → was_closed (Err x) ≡ was_closed (Err y) → x ≡ y
close_inj x y e = cc

mapped_closed : (o : Option Cause) (r : Closed) → option_map (λ kept. record { cause = kept }) o ≡ Some r → o ≡ Some r.cause
mapped_closed None r e = absurd (let w : None ≡ Some r = e in cc)
mapped_closed (Some x) r e = let w : record { cause = x } ≡ r = (let z : Some (record { cause = x }) ≡ Some r = e in cc) in ap (λ (k : Closed). Some k.cause) w

-- what a close leaves: the session is closed, by this call or before
pub record ClosedOn (v w : View Entry) (c : Cause) : Type 0 where
  pub closes : List Entry
  pub few : (closes ≡ []) ⊎ (closes ≡ Close c ∷ [])
  pub own : own_entries w ≡ closes ++ own_entries v
  pub closed : is_closed w.seen ≡ true

pub close_adds : (v w : View Entry) (c : Cause) (r : Result (Unit {0}) Closed) → Turned v w (Answers (close c) (Ok (was_closed r)) [] []) → ClosedOn v w c
close_adds v w c r t = by r t.added t.did_it.0 (own_turn v w _ t (step_few t.before (close c) (was_closed r) t.added t.did_it.0)) (seen_is v w _ t)
  where
    by : (r : Result (Unit {0}) Closed) (added : List Entry) → Step t.before (close c) (was_closed r) added → own_entries w ≡ added ++ own_entries v → w.seen ≡ added ++ t.before → ClosedOn v w c
    by (Ok u) [] s own seen = absurd (not_ok (λ (x : Closed). was_closed (Err x)) (λ (n : Unit {0}). was_closed (Ok n)) (close_refusal t.before) u (λ x n is. cc) s.1)
    by (Err x) [] s own seen =
        let cause = mapped_closed (close_cause t.before) x (unmapped (λ (y : Closed). was_closed (Err y)) close_inj (close_refusal t.before) x s.1) in
        record { closes = []; few = inl refl; own = own; closed = ap is_closed seen ∙ (closed_with_cause t.before x.cause cause).0 }
    by r (e ∷ []) s own seen =
        let is : e ≡ Close c = s.1.1.1 in
        record { closes = e ∷ []; few = inr (ap (λ (x : Entry). x ∷ []) is); own = own; closed = ap is_closed seen ∙ ap (λ (x : Entry). is_closed (x ∷ t.before)) is }
    by r (e ∷ x ∷ es) s own seen = absurd s.1

-- ---- SenderPass

-- what a take leaves
pub record TakenOn (v w : View Entry) (n : ℕ) (told : Bool) : Type 0 where
  pub own : own_entries w ≡ take_entry n ++ own_entries v
  pub closed : told ≡ is_closed w.seen

still_open : (n : ℕ) (g : History) → is_closed (take_entry n ++ g) ≡ is_closed g
still_open n g = by (n == 0)
  where
    by : (b : Bool) → is_closed ((if b then [] else Take n ∷ []) ++ g) ≡ is_closed g
    by true = refl
    by false = refl

pub take_adds : (v w : View Entry) (most : ℕ) (r : Taken) (into : List ℕ) → Turned v w (Answers (take_most most) (take_answer r into) [] []) → TakenOn v w (length (take r.count into)) r.closed
take_adds v w most r into t =
    let bs = take r.count into in
    let told = take_told t.before most bs r.closed t.added t.did_it.0 in
    let own = own_turn v w _ t (step_few t.before (take_most most) (was_taken bs r.closed) t.added t.did_it.0) in
    let seen : w.seen ≡ take_entry (length bs) ++ t.before = seen_is v w _ t ∙ ap (λ (es : List Entry). es ++ t.before) (sym told.adds) in
    record {
      own = own ∙ ap (λ (es : List Entry). es ++ own_entries v) (sym told.adds);
      closed = told.closes ∙ sym (ap is_closed seen ∙ still_open (length bs) t.before);
    }

-- ---- WriterPass

-- why a write was refused
abbrev pub WriteCause : WriteRefusal → ℕ → History → Type 0
WriteCause write_no_viewer viewer g = is_live g viewer ≡ false
WriteCause (write_closed c) viewer g = close_cause g ≡ Some c
WriteCause (write_worn n) viewer g = is_full g ≡ true
WriteCause write_no_memory viewer g = Unit {0}

record WriteWhy (away full : Bool) (o : Option Cause) (r : WriteRefusal) : Type 0 where
  gone : r ≡ write_no_viewer → away ≡ true
  closed : (c : Cause) → r ≡ write_closed c → o ≡ Some c
  worn : (m : ℕ) → r ≡ write_worn m → full ≡ true

write_why : (away : Bool) (o : Option Cause) (full : Bool) (n : ℕ) (r : WriteRefusal) → first_of (only_if away write_no_viewer ∷ option_map write_closed o ∷ only_if full (write_worn n) ∷ []) ≡ Some r → WriteWhy away full o r
write_why true o full n r e =
    let w : write_no_viewer ≡ r = (let z : Some write_no_viewer ≡ Some r = e in cc) in record {
      gone = λ is. refl;
      closed = λ c is. absurd (let z : write_no_viewer ≡ write_closed c = w ∙ is in cc);
      worn = λ m is. absurd (let z : write_no_viewer ≡ write_worn m = w ∙ is in cc);
    }
write_why false (Some x) full n r e =
    let w : write_closed x ≡ r = (let z : Some (write_closed x) ≡ Some r = e in cc) in record {
      gone = λ is. absurd (let z : write_closed x ≡ write_no_viewer = w ∙ is in cc);
      closed = λ c is. ap Some (let z : write_closed x ≡ write_closed c = w ∙ is in cc);
      worn = λ m is. absurd (let z : write_closed x ≡ write_worn m = w ∙ is in cc);
    }
write_why false None true n r e =
    let w : write_worn n ≡ r = (let z : Some (write_worn n) ≡ Some r = e in cc) in record {
      gone = λ is. absurd (let z : write_worn n ≡ write_no_viewer = w ∙ is in cc);
      closed = λ c is. absurd (let z : write_worn n ≡ write_closed c = w ∙ is in cc);
      worn = λ m is. refl;
    }
write_why false None false n r e = absurd (let z : None ≡ Some r = e in cc)

write_inj : (x y : WriteRefusal) → was_written (Err x) ≡ was_written (Err y) → x ≡ y
write_inj x y e = cc

write_none : (g : History) (viewer : ℕ) (acts : List Act) (r : WriteRefusal) (e : Entry) → Step g (write viewer acts) (was_written (Err r)) (e ∷ []) → ⊥
write_none g viewer acts r e s = let w = s.1.1.0 in cc

write_stop : (g : History) (viewer : ℕ) (acts : List Act) (r : WriteRefusal) (added : List Entry) → Step g (write viewer acts) (was_written (Err r)) added → write_refusal g viewer ≡ Some r
write_stop g viewer acts r [] s = unmapped (λ (x : WriteRefusal). was_written (Err x)) write_inj (write_refusal g viewer) r s.1
write_stop g viewer acts r (e ∷ []) s = absurd (write_none g viewer acts r e s)
write_stop g viewer acts r (e ∷ x ∷ es) s = absurd s.1

not_true : (b : Bool) → not b ≡ true → b ≡ false
not_true true e = absurd (let w : false ≡ true = e in cc)
not_true false e = refl

write_turned : (v w : View Entry) (viewer : ℕ) (acts : List Act) (r : WriteRefusal) → Turned v w (Answers (write viewer acts) (Ok (was_written (Err r))) [] [])
    → (own_entries w ≡ own_entries v) × WriteWhy (not (is_live w.seen viewer)) (is_full w.seen) (close_cause w.seen) r
write_turned v w viewer acts r t =
    let k = stays_own v w _ t (none_added (λ (x : WriteRefusal). was_written (Err x)) t.before (write viewer acts) r t.added (λ e s. write_none t.before viewer acts r e s) t.did_it.0) in
    let stop : write_refusal w.seen viewer ≡ Some r = ap (λ (h : History). write_refusal h viewer) (sym k.1) ∙ write_stop t.before viewer acts r t.added t.did_it.0 in
    (k.0, write_why (not (is_live w.seen viewer)) (close_cause w.seen) (is_full w.seen) (length w.seen) r stop)

pub write_refused : (v w : View Entry) (viewer : ℕ) (acts : List Act) (r : WriteRefusal) → Turned v w (Answers (write viewer acts) (write_answer (Err r)) [] []) → (own_entries w ≡ own_entries v) × WriteCause r viewer w.seen
write_refused v w viewer acts write_no_viewer t = let k = write_turned v w viewer acts write_no_viewer t in (k.0, not_true (is_live w.seen viewer) (k.1.gone refl))
write_refused v w viewer acts (write_closed c) t = let k = write_turned v w viewer acts (write_closed c) t in (k.0, k.1.closed c refl)
write_refused v w viewer acts (write_worn n) t = let k = write_turned v w viewer acts (write_worn n) t in (k.0, k.1.worn n refl)
write_refused v w viewer acts write_no_memory t = ((stays_own v w _ t t.did_it.1).0, tt)

-- why a change of size was refused
abbrev pub ResizeCause : ResizeRefusal → ℕ → ℕ → ℕ → History → Type 0
ResizeCause resize_stop.NoMemory viewer cols rows g = Unit {0}
ResizeCause r viewer cols rows g = resize_refusal g viewer cols rows ≡ Some r

resize_inj : (x y : ResizeRefusal) → was_resized (Err x) ≡ was_resized (Err y) → x ≡ y
resize_inj x y e = cc

resize_none : (g : History) (viewer cols rows : ℕ) (r : ResizeRefusal) (e : Entry) → Step g (resize viewer cols rows) (was_resized (Err r)) (e ∷ []) → ⊥
resize_none g viewer cols rows r e s = let w = s.1.1.3 in cc

resize_turned : (v w : View Entry) (viewer cols rows : ℕ) (r : ResizeRefusal) → Turned v w (Answers (resize viewer cols rows) (Ok (was_resized (Err r))) [] []) → (own_entries w ≡ own_entries v) × (resize_refusal w.seen viewer cols rows ≡ Some r)
resize_turned v w viewer cols rows r t =
    let none : t.added ≡ [] = none_added (λ (x : ResizeRefusal). was_resized (Err x)) t.before (resize viewer cols rows) r t.added (λ e s. resize_none t.before viewer cols rows r e s) t.did_it.0 in
    let k = stays_own v w _ t none in
    let stop : resize_refusal t.before viewer cols rows ≡ Some r = unmapped (λ (x : ResizeRefusal). was_resized (Err x)) resize_inj (resize_refusal t.before viewer cols rows) r (subst (λ (es : List Entry). Step t.before (resize viewer cols rows) (was_resized (Err r)) es) none t.did_it.0).1 in
    (k.0, ap (λ (h : History). resize_refusal h viewer cols rows) (sym k.1) ∙ stop)

pub resize_refused : (v w : View Entry) (viewer cols rows : ℕ) (r : ResizeRefusal) → Turned v w (Answers (resize viewer cols rows) (resize_answer (Err r)) [] []) → (own_entries w ≡ own_entries v) × ResizeCause r viewer cols rows w.seen
resize_refused v w viewer cols rows resize_stop.NoViewer t = resize_turned v w viewer cols rows resize_stop.NoViewer t
resize_refused v w viewer cols rows (resize_stop.Closed c) t = resize_turned v w viewer cols rows (resize_stop.Closed c) t
resize_refused v w viewer cols rows resize_stop.Denied t = resize_turned v w viewer cols rows resize_stop.Denied t
resize_refused v w viewer cols rows resize_stop.Same t = resize_turned v w viewer cols rows resize_stop.Same t
resize_refused v w viewer cols rows (resize_stop.Worn n) t = resize_turned v w viewer cols rows (resize_stop.Worn n) t
resize_refused v w viewer cols rows resize_stop.NoMemory t = ((stays_own v w _ t t.did_it.1).0, tt)

-- .. in words of the history: its viewer isn't there, it is closed, or it is full
record ResizeWhy (away full : Bool) (o : Option Cause) (r : ResizeRefusal) : Type 0 where
  gone : r ≡ resize_stop.NoViewer → away ≡ true
  closed : (c : Cause) → r ≡ resize_stop.Closed c → o ≡ Some c
  worn : (m : ℕ) → r ≡ resize_stop.Worn m → full ≡ true

resize_why : (away : Bool) (o : Option Cause) (denied same full : Bool) (n : ℕ) (r : ResizeRefusal)
    → first_of (only_if away resize_stop.NoViewer ∷ option_map resize_stop.Closed o ∷ only_if denied resize_stop.Denied ∷ only_if same resize_stop.Same ∷ only_if full (resize_stop.Worn n) ∷ []) ≡ Some r → ResizeWhy away full o r
resize_why true o denied same full n r e =
    let w : resize_stop.NoViewer ≡ r = (let z : Some resize_stop.NoViewer ≡ Some r = e in cc) in record {
      gone = λ is. refl;
      closed = λ c is. absurd (let z : resize_stop.NoViewer ≡ resize_stop.Closed c = w ∙ is in cc);
      worn = λ m is. absurd (let z : resize_stop.NoViewer ≡ resize_stop.Worn m = w ∙ is in cc);
    }
resize_why false (Some x) denied same full n r e =
    let w : resize_stop.Closed x ≡ r = (let z : Some (resize_stop.Closed x) ≡ Some r = e in cc) in record {
      gone = λ is. absurd (let z : resize_stop.Closed x ≡ resize_stop.NoViewer = w ∙ is in cc);
      closed = λ c is. ap Some (let z : resize_stop.Closed x ≡ resize_stop.Closed c = w ∙ is in cc);
      worn = λ m is. absurd (let z : resize_stop.Closed x ≡ resize_stop.Worn m = w ∙ is in cc);
    }
resize_why false None true same full n r e =
    let w : resize_stop.Denied ≡ r = (let z : Some resize_stop.Denied ≡ Some r = e in cc) in record {
      gone = λ is. absurd (let z : resize_stop.Denied ≡ resize_stop.NoViewer = w ∙ is in cc);
      closed = λ c is. absurd (let z : resize_stop.Denied ≡ resize_stop.Closed c = w ∙ is in cc);
      worn = λ m is. absurd (let z : resize_stop.Denied ≡ resize_stop.Worn m = w ∙ is in cc);
    }
resize_why false None false true full n r e =
    let w : resize_stop.Same ≡ r = (let z : Some resize_stop.Same ≡ Some r = e in cc) in record {
      gone = λ is. absurd (let z : resize_stop.Same ≡ resize_stop.NoViewer = w ∙ is in cc);
      closed = λ c is. absurd (let z : resize_stop.Same ≡ resize_stop.Closed c = w ∙ is in cc);
      worn = λ m is. absurd (let z : resize_stop.Same ≡ resize_stop.Worn m = w ∙ is in cc);
    }
resize_why false None false false true n r e =
    let w : resize_stop.Worn n ≡ r = (let z : Some (resize_stop.Worn n) ≡ Some r = e in cc) in record {
      gone = λ is. absurd (let z : resize_stop.Worn n ≡ resize_stop.NoViewer = w ∙ is in cc);
      closed = λ c is. absurd (let z : resize_stop.Worn n ≡ resize_stop.Closed c = w ∙ is in cc);
      worn = λ m is. refl;
    }
resize_why false None false false false n r e = absurd (let z : None ≡ Some r = e in cc)

why_refused : (g : History) (viewer cols rows : ℕ) (r : ResizeRefusal) → resize_refusal g viewer cols rows ≡ Some r → ResizeWhy (not (is_live g viewer)) (is_full g) (close_cause g) r
why_refused g viewer cols rows r e = resize_why (not (is_live g viewer)) (close_cause g) (not (is_control (role_in g viewer))) (has_size g cols rows) (is_full g) (length g) r e

pub resize_gone : (g : History) (viewer cols rows : ℕ) → resize_refusal g viewer cols rows ≡ Some resize_stop.NoViewer → is_live g viewer ≡ false
resize_gone g viewer cols rows e = not_true (is_live g viewer) ((why_refused g viewer cols rows resize_stop.NoViewer e).gone refl)

pub resize_closed : (g : History) (viewer cols rows : ℕ) (c : Cause) → resize_refusal g viewer cols rows ≡ Some (resize_stop.Closed c) → close_cause g ≡ Some c
resize_closed g viewer cols rows c e = (why_refused g viewer cols rows (resize_stop.Closed c) e).closed c refl

pub resize_worn : (g : History) (viewer cols rows n : ℕ) → resize_refusal g viewer cols rows ≡ Some (resize_stop.Worn n) → is_full g ≡ true
resize_worn g viewer cols rows n e = (why_refused g viewer cols rows (resize_stop.Worn n) e).worn n refl

-- ---- a viewer that has left

leave_inj : (x y : NoViewer) → was_left (Err x) ≡ was_left (Err y) → x ≡ y
leave_inj x y e = cc

and_no : (b c : Bool) → c ≡ true → (b && not c) ≡ false
and_no true c is = ap not is
and_no false c is = refl

left_now : (g : History) (viewer : ℕ) → is_live (Leave viewer ∷ g) viewer ≡ false
left_now g viewer = and_no (is_live g viewer) (viewer == viewer) (eq-eqb viewer viewer refl)

stopped_away : (live : Bool) (r : NoViewer) → only_if (not live) record {} ≡ Some r → live ≡ false
stopped_away true r e = absurd (let w : None ≡ Some r = e in cc)
stopped_away false r e = refl

-- after a leave the viewer isn't there
pub leave_gone : (v w : View Entry) (viewer : ℕ) (r : Result (Unit {0}) NoViewer) → Turned v w (Answers (leave viewer) (Ok (was_left r)) [] []) → is_live w.seen viewer ≡ false
leave_gone v w viewer r t = ap (λ (h : History). is_live h viewer) (seen_is v w _ t) ∙ by r t.added t.did_it.0
  where
    by : (r : Result (Unit {0}) NoViewer) (added : List Entry) → Step t.before (leave viewer) (was_left r) added → is_live (added ++ t.before) viewer ≡ false
    by (Ok u) [] s = absurd (not_ok (λ (x : NoViewer). was_left (Err x)) (λ (n : Unit {0}). was_left (Ok n)) (leave_refusal t.before viewer) u (λ x n is. cc) s.1)
    by (Err x) [] s = stopped_away (is_live t.before viewer) x (unmapped (λ (y : NoViewer). was_left (Err y)) leave_inj (leave_refusal t.before viewer) x s.1)
    by r (e ∷ []) s = ap (λ (x : Entry). is_live (x ∷ t.before) viewer) s.1.1.1 ∙ left_now t.before viewer
    by r (e ∷ x ∷ es) s = absurd s.1

and_false : (b : Bool) → (b && true) ≡ false → b ≡ false
and_false true e = e
and_false false e = refl

or_false : (a b : Bool) → (a || b) ≡ false → (a ≡ false) × (b ≡ false)
or_false true b e = absurd (let w : true ≡ false = e in cc)
or_false false b e = (refl, e)

-- a viewer that joined and isn't there has left
module _ (v : ℕ) (some : 1 ≤ v) where
  left_next : (e : Entry) (h : History) → IsNext h e → (v ≤ joined h → is_live h v ≡ false → Contains h (Leave v)) → v ≤ joined (e ∷ h) → is_live (e ∷ h) v ≡ false → Contains (e ∷ h) (Leave v)
  left_next (Start c r m t k n s f) h is ih few gone = absurd is
  left_next (Feed b s f) h is ih few gone = contains_tail (Feed b s f) (Leave v) h (ih few (and_false (is_live h v) gone))
  left_next (Size w c r s f) h is ih few gone = contains_tail (Size w c r s f) (Leave v) h (ih few (and_false (is_live h v) gone))
  left_next (Join w role first) h is ih few gone =
      let parts = or_false (w == v) (is_live h v && true) gone in
      let apart : w ≡ v → ⊥ = λ same. let z : true ≡ false = sym (eq-eqb w v same) ∙ parts.0 in cc in
      contains_tail (Join w role first) (Leave v) h (ih (less w (joined h) is.is_next apart few) (and_false (is_live h v) parts.1))
    where
      less : (w n : ℕ) → w ≡ n + 1 → (w ≡ v → ⊥) → v ≤ n + 1 → v ≤ n
      less w n next apart few = omega (arith, next, apart, few)
  left_next (Read w how) h is ih few gone = contains_tail (Read w how) (Leave v) h (ih few (and_false (is_live h v) gone))
  left_next (Write w acts) h is ih few gone = contains_tail (Write w acts) (Leave v) h (ih few (and_false (is_live h v) gone))
  left_next (Take n) h is ih few gone = contains_tail (Take n) (Leave v) h (ih few (and_false (is_live h v) gone))
  left_next (Leave w) h is ih few gone = by (w == v) (eqb_tells w v) gone
    where
      by : (b : Bool) → (((w == v) ≡ true) × (w ≡ v)) ⊎ (((w == v) ≡ false) × (w ≡ v → ⊥)) → (is_live h v && not (w == v)) ≡ false → Contains (Leave w ∷ h) (Leave v)
      by b (inl same) gone = subst (λ (n : ℕ). Contains (Leave w ∷ h) (Leave n)) same.1 (contains_head (Leave w) h)
      by b (inr apart) gone = contains_tail (Leave w) (Leave v) h (ih few (and_false (is_live h v) (ap (λ (c : Bool). is_live h v && not c) (sym apart.0) ∙ gone)))
  left_next (Close c) h is ih few gone = contains_tail (Close c) (Leave v) h (ih few (and_false (is_live h v) gone))

  pub left_seen : (h : History) → Legal h → v ≤ joined h → is_live h v ≡ false → Contains h (Leave v)
  left_seen [] l few gone = absurd l
  left_seen (e ∷ []) l few gone = absurd (let none : joined (e ∷ []) ≡ 0 = ap (λ (x : Entry). joined (x ∷ [])) l.2.4 in omega (arith, few, none, some))
  left_seen (e ∷ f ∷ g) l few gone = left_next e (f ∷ g) (next e f g l) (λ fewer away. left_seen (f ∷ g) l.0 fewer away) few gone

-- ---- ReaderPass

-- what a read's answer tells of its viewer and of the session
abbrev pub ReadCause : Result ReadAnswer ReadRefusal → ℕ → History → Type 0
ReadCause (Ok (Frames n stamp true)) viewer h = ended h viewer ≡ true
ReadCause (Ok (Frames n stamp false)) viewer h = Unit {0}
ReadCause (Ok (Fresh stamp true)) viewer h = ended h viewer ≡ true
ReadCause (Ok (Fresh stamp false)) viewer h = Unit {0}
ReadCause (Ok Ended) viewer h = ended h viewer ≡ true
ReadCause (Ok Empty) viewer h = Unit {0}
ReadCause (Ok (Hold n)) viewer h = Unit {0}
ReadCause (Err read_no_viewer) viewer h = is_live h viewer ≡ false
ReadCause (Err (read_worn n)) viewer h = is_full h ≡ true
ReadCause (Err read_no_memory) viewer h = Unit {0}

same_some : {A : Type 0} (x y : A) → Some x ≡ Some y → x ≡ y
same_some x y e = cc

read_why : (away over none held full : Bool) (m n viewer : ℕ) (h : History) (r : Result ReadAnswer ReadRefusal) → (away ≡ true → is_live h viewer ≡ false) → (over ≡ true → ended h viewer ≡ true) → (full ≡ true → is_full h ≡ true)
    → first_of (only_if away (Err read_no_viewer) ∷ only_if over (Ok Ended) ∷ only_if none (Ok Empty) ∷ only_if held (Ok (Hold m)) ∷ only_if full (Err (read_worn n)) ∷ []) ≡ Some r → ReadCause r viewer h
read_why true over none held full m n viewer h r gone told worn e = subst (λ (x : Result ReadAnswer ReadRefusal). ReadCause x viewer h) (same_some (Err read_no_viewer) r e) (gone refl)
read_why false true none held full m n viewer h r gone told worn e = subst (λ (x : Result ReadAnswer ReadRefusal). ReadCause x viewer h) (same_some (Ok Ended) r e) (told refl)
read_why false false true held full m n viewer h r gone told worn e = subst (λ (x : Result ReadAnswer ReadRefusal). ReadCause x viewer h) (same_some (Ok Empty) r e) tt
read_why false false false true full m n viewer h r gone told worn e = subst (λ (x : Result ReadAnswer ReadRefusal). ReadCause x viewer h) (same_some (Ok (Hold m)) r e) tt
read_why false false false false true m n viewer h r gone told worn e = subst (λ (x : Result ReadAnswer ReadRefusal). ReadCause x viewer h) (same_some (Err (read_worn n)) r e) (worn refl)
read_why false false false false false m n viewer h r gone told worn e = absurd (let z : None ≡ Some r = e in cc)

and_right : (a b : Bool) → (a && b) ≡ true → b ≡ true
and_right true b e = e
and_right false b e = absurd (let z : false ≡ true = e in cc)

pub read_inj : (x y : Result ReadAnswer ReadRefusal) → was_read x ≡ was_read y → x ≡ y
read_inj x y e = cc

pub mapped_read : (o : Option (Result ReadAnswer ReadRefusal)) (r : Result ReadAnswer ReadRefusal) → option_map was_read o ≡ Some (was_read r) → o ≡ Some r
mapped_read None r e = absurd (let w : None ≡ Some (was_read r) = e in cc)
mapped_read (Some x) r e = ap Some (read_inj x r (let w : Some (was_read x) ≡ Some (was_read r) = e in cc))

-- a session that is closed has a closing instruction, and no other one has
closing_as : (g : History) (closed : Bool) → is_closed g ≡ closed → is_some_list (closing g) ≡ closed
closing_as [] closed e = e
closing_as (Start c r m t k n s f ∷ g) closed e = closing_as g closed e
closing_as (Feed b s f ∷ g) closed e = closing_as g closed e
closing_as (Size w c r s f ∷ g) closed e = closing_as g closed e
closing_as (Join w role first ∷ g) closed e = closing_as g closed e
closing_as (Read w how ∷ g) closed e = closing_as g closed e
closing_as (Write w acts ∷ g) closed e = closing_as g closed e
closing_as (Take n ∷ g) closed e = closing_as g closed e
closing_as (Leave w ∷ g) closed e = closing_as g closed e
closing_as (Close c ∷ g) closed e = e

own_closing : (g : History) (viewer : ℕ) (how : How) → closed_by g viewer (Read viewer how) ≡ closing g
own_closing g viewer how = ap (λ (b : Bool). if b then closing g else []) (eq-eqb viewer viewer refl)

some_last : (xs ys : List Instr) → is_some_list ys ≡ true → is_some_list (xs ++ ys) ≡ true
some_last [] ys some = some
some_last (x ∷ xs) ys some = refl

read_ends : (g : History) (viewer : ℕ) (how : How) → is_closed g ≡ true → ended (Read viewer how ∷ g) viewer ≡ true
read_ends g viewer how closed = some_last (farewell_to g viewer) (closed_by g viewer (Read viewer how)) (ap is_some_list (own_closing g viewer how) ∙ closing_as g true closed)

not_some : (xs : List Instr) → is_some_list xs ≡ false → xs ≡ []
not_some [] e = refl
not_some (x ∷ xs) e = absurd (let z : true ≡ false = e in cc)

-- a read brings its viewer to its end exactly where the session is closed
pub ended_as : (g : History) (viewer : ℕ) (how : How) → ended g viewer ≡ false → ended (Read viewer how ∷ g) viewer ≡ is_closed g
ended_as g viewer how going =
    ap (λ (xs : List Instr). is_some_list (xs ++ closed_by g viewer (Read viewer how))) (not_some (farewell_to g viewer) going) ∙ (ap is_some_list (own_closing g viewer how) ∙ closing_as g (is_closed g) refl)

pub are_reads : (viewer : ℕ) (reads : List Entry) → (reads ≡ []) ⊎ ((how : How) × (reads ≡ Read viewer how ∷ [])) → AreReads viewer reads
are_reads viewer reads (inl none) = subst (AreReads viewer) (sym none) tt
are_reads viewer reads (inr one) = subst (AreReads viewer) (sym one.1) (refl, tt)

pub reads_more : (viewer : ℕ) (es fs : List Entry) → AreReads viewer es → AreReads viewer fs → AreReads viewer (es ++ fs)
reads_more viewer [] fs a b = b
reads_more viewer (Read v how ∷ es) fs a b = (a.0, reads_more viewer es fs a.1 b)
reads_more viewer (Start c r m t k n s f ∷ es) fs a b = absurd a
reads_more viewer (Feed bs s f ∷ es) fs a b = absurd a
reads_more viewer (Size v c r s f ∷ es) fs a b = absurd a
reads_more viewer (Join v r f ∷ es) fs a b = absurd a
reads_more viewer (Write v acts ∷ es) fs a b = absurd a
reads_more viewer (Take n ∷ es) fs a b = absurd a
reads_more viewer (Leave v ∷ es) fs a b = absurd a
reads_more viewer (Close c ∷ es) fs a b = absurd a

-- what a read leaves
pub record ReadOn (v w : View Entry) (viewer : ℕ) (r : Result ReadAnswer ReadRefusal) : Type 0 where
  pub reads : List Entry
  pub few : (reads ≡ []) ⊎ ((how : How) × (reads ≡ Read viewer how ∷ []))
  pub own : own_entries w ≡ reads ++ own_entries v
  pub cause : ReadCause r viewer w.seen

-- the answer to a read that brought its viewer up to date
updated_cause : (g : History) (viewer : ℕ) (how : How) (closed : Bool) → is_closed g ≡ closed → ReadCause (Ok (Frames (lacked g viewer) (newest g) closed)) viewer (Read viewer how ∷ g) × ReadCause (Ok (Fresh (newest g) closed)) viewer (Read viewer how ∷ g)
updated_cause g viewer how true is = (read_ends g viewer how is, read_ends g viewer how is)
updated_cause g viewer how false is = (tt, tt)

updated : (g : History) (viewer : ℕ) (how : How) → ReadCause (Ok (updated_as g viewer how)) viewer (Read viewer how ∷ g)
updated g viewer Suffix = (updated_cause g viewer Suffix (is_closed g) refl).0
updated g viewer (Picture is) = (updated_cause g viewer (Picture is) (is_closed g) refl).1

one_read : (g : History) (viewer : ℕ) (how : How) (r : Result ReadAnswer ReadRefusal) (e : Entry) → was_read r ≡ was_read (Ok (updated_as g viewer how)) → e ≡ Read viewer how → ReadCause r viewer (e ∷ g)
one_read g viewer how r e is added =
    subst (λ (x : Result ReadAnswer ReadRefusal). ReadCause x viewer (e ∷ g)) (sym (read_inj r (Ok (updated_as g viewer how)) is))
    (subst (λ (x : Entry). ReadCause (Ok (updated_as g viewer how)) viewer (x ∷ g)) (sym added) (updated g viewer how))

read_turned : (v w : View Entry) (viewer : ℕ) (r : Result ReadAnswer ReadRefusal) (before after : List ℕ) → Turned v w (Answers (read viewer) (Ok (was_read r)) before after) → ReadOn v w viewer r
read_turned v w viewer r before after t = by t.added t.did_it.0 (own_turn v w _ t (step_few t.before (read viewer) (was_read r) t.added t.did_it.0)) (seen_is v w _ t)
  where
    by : (added : List Entry) → Step t.before (read viewer) (was_read r) added → own_entries w ≡ added ++ own_entries v → w.seen ≡ added ++ t.before → ReadOn v w viewer r
    by [] s own seen =
        let g = t.before in
        let cause = read_why (not (is_live g viewer)) (ended g viewer) (not (is_closed g) && position g viewer == newest g) (not (is_closed g) && nat_lt most_waiting (waiting g viewer)) (not (is_closed g) && is_full g) (waiting g viewer) (length g) viewer g r (λ e. not_true (is_live g viewer) e) (λ e. e)
        (λ e. and_right (not (is_closed g)) (is_full g) e) (mapped_read (read_stop g viewer) r s.1) in
        record { reads = []; few = inl refl; own = own; cause = subst (λ (h : History). ReadCause r viewer h) (sym seen) cause }
    by (e ∷ []) s own seen =
        let g = t.before in
        let a = s.1.1 in
        record {
          reads = e ∷ [];
          few = inr (a.0, ap (λ (x : Entry). x ∷ []) a.3);
          own = own;
          cause = subst (λ (h : History). ReadCause r viewer h) (sym seen) (one_read g viewer a.0 r e a.2 a.3);
        }
    by (e ∷ x ∷ es) s own seen = absurd s.1

pub read_adds : (v w : View Entry) (viewer : ℕ) (r : Result ReadAnswer ReadRefusal) (before after : List ℕ) → Turned v w (Answers (read viewer) (read_answer r) before after) → ReadOn v w viewer r
read_adds v w viewer (Ok (Frames n stamp closed)) before after t = read_turned v w viewer (Ok (Frames n stamp closed)) before after t
read_adds v w viewer (Ok (Fresh stamp closed)) before after t = read_turned v w viewer (Ok (Fresh stamp closed)) before after t
read_adds v w viewer (Ok Ended) before after t = read_turned v w viewer (Ok Ended) before after t
read_adds v w viewer (Ok Empty) before after t = read_turned v w viewer (Ok Empty) before after t
read_adds v w viewer (Ok (Hold n)) before after t = read_turned v w viewer (Ok (Hold n)) before after t
read_adds v w viewer (Err read_no_viewer) before after t = read_turned v w viewer (Err read_no_viewer) before after t
read_adds v w viewer (Err (read_worn n)) before after t = read_turned v w viewer (Err (read_worn n)) before after t
read_adds v w viewer (Err read_no_memory) before after t = record { reads = []; few = inl refl; own = (stays_own v w _ t t.did_it.1).0; cause = tt }
