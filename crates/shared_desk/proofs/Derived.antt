-- What each kind of pass makes of its own part of the history.
use Rattle.std.proofs.Common.{◌≡◌, ◌⊎◌, ℕ, ◌+◌, ◌≤◌, ◌<◌, List, [], ◌∷◌, ◌++◌, length, true, false, inl, inr, refl, ap, sym, ◌∙◌, subst, append-nil, arith}
use Rattle.std.specs.Prelude.{Option, Some, None, Contains, Result, Ok, Err, is_ok, ◌==◌, if◌then◌else◌, take, drop}
use Rattle.std.specs.Option.{option_map}
use Rattle.std.proofs.lemmas.Bool.{ne_eqb, eq-eqb}
use Rattle.std.proofs.lemmas.Bool.Decides.{eqb_tells}
use Rattle.gate_model.specs.declared.act.Act.{Act}
use Rattle.gate_model.specs.declared.answer.Answer.{Answer}
use Rattle.gate_model.specs.declared.answer.Answer.TheVariants.{Feed as fed, Write as was_written, Resize as was_resized, Leave as was_left}
use Rattle.gate_model.specs.declared.entry.Entry.{Entry}
use Rattle.gate_model.specs.declared.entry.Entry.TheVariants.{Size, Write, Leave}
use Rattle.gate_model.specs.declared.event.Event.{Event}
use Rattle.gate_model.specs.declared.event.Event.TheVariants.{Feed as feed, Read as read, Write as write, Resize as resize, Take as take_most, Leave as leave}
use Rattle.gate_model.specs.declared.feed_refusal.FeedRefusal.{FeedRefusal}
use Rattle.gate_model.specs.declared.feed_refusal.FeedRefusal.TheVariants.{Closed as feed_closed, Worn as feed_worn, NoMemory as feed_no_memory}
use Rattle.gate_model.specs.declared.instr.Instr.{Instr}
use Rattle.gate_model.specs.declared.memory.NoMemory.{NoMemory}
use Rattle.gate_model.specs.declared.no_viewer.NoViewer.{NoViewer}
use Rattle.gate_model.specs.declared.resize_refusal.ResizeRefusal.{ResizeRefusal}
use Rattle.gate_model.specs.declared.resize_refusal.ResizeRefusal.TheVariants as resize_stop
use Rattle.gate_model.specs.declared.taken.Taken.{Taken}
use Rattle.gate_model.specs.declared.write_refusal.WriteRefusal.{WriteRefusal}
use Rattle.gate_model.specs.declared.write_refusal.WriteRefusal.TheVariants.{NoViewer as write_no_viewer, Closed as write_closed, Worn as write_worn, NoMemory as write_no_memory}
use Rattle.gate_model.specs.declared.written.Written.{Written}
use Rattle.gate_model.specs.session.Calls.{Adds, Step, take_entry}
use Rattle.gate_model.specs.session.Delivered.{delivered, given}
use Rattle.gate_model.specs.session.Entries as entries
use Rattle.gate_model.specs.session.History.{History, bytes, newest}
use Rattle.gate_model.specs.session.Output.{out, taken}
use Rattle.gate_model.specs.session.Refusals.{feed_refusal, write_refusal, resize_refusal, leave_refusal}
use Rattle.gate_model.specs.session.Runs.{handed_out}
use Rattle.gate_model.specs.text.Text.{texts}
use Rattle.desk_core.specs.Calls.{feed_answer, resize_answer, write_answer}
use Rattle.desk_core.proofs.Adding.{take_told}
use Rattle.turn_lock.specs.declared.view.View.{View}
use Rattle.turn_lock.proofs.Elements.{contains_head, contains_tail}
use Rattle.shared_desk.specs.Called.{after_turn, Answers, Turned, take_answer}
use Rattle.shared_desk.specs.Marks.{reader_mark}
use Rattle.shared_desk.specs.Members.{IsViewers}
use Rattle.shared_desk.specs.Own.{AreSized, is_place, entries_at, own_entries}
use Rattle.shared_desk.proofs.Turns.{seen_is}
use Rattle.shared_desk.proofs.Alone.{bytes_measure, taken_measure, found, found_viewer, longer_than}

pub not_ok : {A E : Type 0} (f : E → Answer) (g : A → Answer) (o : Option E) (a : A) → ((e : E) (a : A) → f e ≡ g a → ⊥) → option_map f o ≡ Some (g a) → ⊥
not_ok f g None a apart e = let w : None ≡ Some (g a) = e in cc
not_ok f g (Some x) a apart e = apart x a (let w : Some (f x) ≡ Some (g a) = e in cc)

-- ---- LinkPass: the bytes that were heard

fed_added : (g : History) (bs : List ℕ) (now : ℕ) (r : Result ℕ FeedRefusal) (added : List Entry) → Step g (feed bs now) (fed r) added → bytes (added ++ g) ≡ (if is_ok r then bytes g ++ bs else bytes g)
fed_added g bs now (Ok stamp) [] s = absurd (not_ok (λ (e : FeedRefusal). fed (Err e)) (λ (t : ℕ). fed (Ok t)) (feed_refusal g) stamp (λ e t is. cc) s.1)
fed_added g bs now (Ok stamp) (e ∷ []) s = ap (λ (x : Entry). bytes g ++ entries.fed x) s.1.1.4
fed_added g bs now (Err r) [] s = refl
fed_added g bs now (Err r) (e ∷ []) s = absurd (let w = s.1.1.3 in cc)
fed_added g bs now r (e ∷ x ∷ es) s = absurd s.1

pub hears : (v w : View Entry) (bs : List ℕ) (now : ℕ) (r : Result ℕ FeedRefusal) → v.mark ≡ Some 1 → Turned v w (Answers (feed bs now) (feed_answer r) [] []) → bytes w.seen ≡ (if is_ok r then bytes v.seen ++ bs else bytes v.seen)
hears v w bs now (Ok stamp) mark t = ap bytes (seen_is v w _ t) ∙ (fed_added t.before bs now (Ok stamp) t.added t.did_it.0 ∙ ap (λ (x : List ℕ). x ++ bs) (found bytes 1 bytes_measure v w _ mark t))
hears v w bs now (Err (feed_closed c)) mark t = ap bytes (seen_is v w _ t) ∙ (fed_added t.before bs now (Err (feed_closed c)) t.added t.did_it.0 ∙ found bytes 1 bytes_measure v w _ mark t)
hears v w bs now (Err (feed_worn n)) mark t = ap bytes (seen_is v w _ t) ∙ (fed_added t.before bs now (Err (feed_worn n)) t.added t.did_it.0 ∙ found bytes 1 bytes_measure v w _ mark t)
hears v w bs now (Err feed_no_memory) mark t = ap bytes (seen_is v w _ t) ∙ (ap (λ (es : List Entry). bytes (es ++ t.before)) t.did_it.1 ∙ found bytes 1 bytes_measure v w _ mark t)

-- ---- SenderPass: the bytes that were taken

taken_entry : (n : ℕ) (g : History) → (taken (take_entry n ++ g) ≡ taken g + n) × (out (take_entry n ++ g) ≡ out g)
taken_entry n g = go (eqb_tells n 0)
  where
    go : (((n == 0) ≡ true) × (n ≡ 0)) ⊎ (((n == 0) ≡ false) × (n ≡ 0 → ⊥)) → (taken (take_entry n ++ g) ≡ taken g + n) × (out (take_entry n ++ g) ≡ out g)
    go (inl q) = rw q.0 (omega (arith, q.1), refl)
    go (inr q) = rw q.0 (refl, append-nil (out g))

-- what a take leaves of what was taken and of what was sent
pub record TakesOn (v w : View Entry) (most : ℕ) (bs : List ℕ) : Type 0 where
  pub next : bs ≡ take most (drop (taken v.seen) (out w.seen))
  pub taken : taken w.seen ≡ taken v.seen + length bs

pub takes_on : (v w : View Entry) (most : ℕ) (r : Taken) (into : List ℕ) → v.mark ≡ Some 2 → Turned v w (Answers (take_most most) (take_answer r into) [] []) → TakesOn v w most (take r.count into)
takes_on v w most r into mark t =
    let bs = take r.count into in
    let told = take_told t.before most bs r.closed t.added t.did_it.0 in
    let seen : w.seen ≡ take_entry (length bs) ++ t.before = seen_is v w _ t ∙ ap (λ (es : List Entry). es ++ t.before) (sym told.adds) in
    let before : taken t.before ≡ taken v.seen = found taken 2 taken_measure v w _ mark t in
    let k = taken_entry (length bs) t.before in
    record {
      next = told.hands ∙ (ap (λ (n : ℕ). take most (drop n (out t.before))) before ∙ ap (λ (os : List ℕ). take most (drop (taken v.seen) os)) (sym (ap out seen ∙ k.1)));
      taken = ap taken seen ∙ (k.0 ∙ ap (λ (n : ℕ). n + length bs) before);
    }

-- ---- ReaderPass: what the viewer was given

abbrev pub Delivers : View Entry → View Entry → ℕ → List ℕ → List ℕ → Type 0
Delivers v w viewer before after = (more : List Instr) × (delivered w.seen viewer ≡ delivered v.seen viewer ++ more) × (after ≡ before ++ texts more)

delivers_added : (g : History) (viewer : ℕ) (a : Answer) (added : List Entry) → Step g (read viewer) a added → delivered (added ++ g) viewer ≡ delivered g viewer ++ handed_out g (read viewer) a added
delivers_added g viewer a [] s = sym (append-nil (delivered g viewer))
delivers_added g viewer a (e ∷ []) s = refl
delivers_added g viewer a (e ∷ x ∷ es) s = absurd s.1

pub delivers : (v w : View Entry) (viewer : ℕ) (answer : Result Answer NoMemory) (before after : List ℕ) → IsViewers (reader_mark viewer) viewer v → Turned v w (Answers (read viewer) answer before after) → Delivers v w viewer before after
delivers v w viewer (Ok a) before after i t = (
  handed_out t.before (read viewer) a t.added,
  ap (λ (h : History). delivered h viewer) (seen_is v w _ t)
      ∙ (delivers_added t.before viewer a t.added t.did_it.0 ∙ ap (λ (is : List Instr). is ++ handed_out t.before (read viewer) a t.added) (found_viewer viewer v w _ i t)),
  t.did_it.1,
)
delivers v w viewer (Err x) before after i t = (
  [],
  ap (λ (h : History). delivered h viewer) (seen_is v w _ t)
      ∙ (ap (λ (es : List Entry). delivered (es ++ t.before) viewer) t.did_it.1 ∙ (found_viewer viewer v w _ i t ∙ sym (append-nil (delivered v.seen viewer)))),
  t.did_it.2 ∙ sym (append-nil before),
)

left_given : (g : History) (viewer u : ℕ) (a : Answer) (added : List Entry) → Step g (leave u) a added → delivered (added ++ g) viewer ≡ delivered g viewer
left_given g viewer u a [] s = refl
left_given g viewer u a (e ∷ []) s = ap (λ (x : Entry). delivered g viewer ++ given g (delivered g viewer) viewer x) s.1.1.1 ∙ append-nil (delivered g viewer)
left_given g viewer u a (e ∷ x ∷ es) s = absurd s.1

pub keeps_given_text : (v w : View Entry) (viewer : ℕ) (a : Answer) → IsViewers (reader_mark viewer) viewer v → Turned v w (Answers (leave viewer) (Ok a) [] []) → delivered w.seen viewer ≡ delivered v.seen viewer
keeps_given_text v w viewer a i t = ap (λ (h : History). delivered h viewer) (seen_is v w _ t) ∙ (left_given t.before viewer viewer a t.added t.did_it.0 ∙ found_viewer viewer v w _ i t)

-- ---- WriterPass: the entries of its own

no_place : (ps : List ℕ) (n : ℕ) → ((p : ℕ) → Contains ps p → p < n) → is_place ps n ≡ false
no_place [] n below = refl
no_place (p ∷ ps) n below =
    let here : (p == n) ≡ false = ne_eqb p n (λ is. let b = below p (contains_head p ps) in omega (arith, b, is)) in
    rw here (no_place ps n (λ q c. below q (contains_tail p q ps c)))

-- entries past all places are none of those at them
past_places : (ps : List ℕ) (more g : History) → ((p : ℕ) → Contains ps p → p < length g) → entries_at ps (more ++ g) ≡ entries_at ps g
past_places ps [] g below = refl
past_places ps (e ∷ more) g below =
    let no : is_place ps (length (more ++ g)) ≡ false = no_place ps (length (more ++ g)) (λ p c. let b = below p c in omega (arith, b, longer_than more g)) in
    rw no (past_places ps more g below)

-- a place past a history names no entry of it
pub past_history : (n : ℕ) (ps : List ℕ) (g : History) → length g ≤ n → entries_at (n ∷ ps) g ≡ entries_at ps g
past_history n ps [] le = refl
past_history n ps (e ∷ g) le =
    let no : (n == length g) ≡ false = ne_eqb n (length g) (λ is. omega (arith, le, is)) in
    let rest = past_history n ps g (omega (arith, le)) in
    rw (no, rest) refl

-- so do places past it
pub past_all : (places mine : List ℕ) (g : History) → ((p : ℕ) → Contains places p → length g ≤ p) → entries_at (places ++ mine) g ≡ entries_at mine g
past_all [] mine g behind = refl
past_all (p ∷ places) mine g behind = past_history p (places ++ mine) g (behind p (contains_head p places)) ∙ past_all places mine g (λ q c. behind q (contains_tail p q places c))

added_place : (g : History) (ps : List ℕ) (e : Entry) → entries_at (length g ∷ ps) (e ∷ g) ≡ e ∷ entries_at ps g
added_place g ps e =
    let yes : (length g == length g) ≡ true = eq-eqb (length g) (length g) refl in
    rw yes (ap (λ (es : List Entry). e ∷ es) (past_history (length g) ps g (omega arith)))

-- none or one
abbrev pub AreFew : List Entry → Type 0
AreFew [] = Unit {0}
AreFew (e ∷ []) = Unit {0}
AreFew (e ∷ x ∷ es) = ⊥

pub step_few : (g : History) (event : Event) (a : Answer) (added : List Entry) → Step g event a added → AreFew added
step_few g event a [] s = tt
step_few g event a (e ∷ []) s = tt
step_few g event a (e ∷ x ∷ es) s = s.1

own_by : (v w : View Entry) (g : History) (added : List Entry) → entries_at v.mine g ≡ own_entries v → AreFew added → w ≡ after_turn g added v → own_entries w ≡ added ++ own_entries v
own_by v w g [] same few is = ap own_entries is ∙ same
own_by v w g (e ∷ []) same few is = ap own_entries is ∙ (added_place g v.mine e ∙ ap (λ (es : List Entry). e ∷ es) same)
own_by v w g (e ∷ x ∷ es) same few is = absurd few

-- a turn adds to a pass's own entries what it adds
pub own_turn : (v w : View Entry) (did : History → List Entry → Type 0) → (t : Turned v w did) → AreFew t.added → own_entries w ≡ t.added ++ own_entries v
own_turn v w did t few = own_by v w t.before t.added (ap (λ (h : History). entries_at v.mine h) t.later.1 ∙ past_places v.mine t.later.0 v.seen t.within.within) few t.after

wrote_added : (g : History) (viewer : ℕ) (acts : List Act) (r : Result Written WriteRefusal) (added : List Entry) → Step g (write viewer acts) (was_written r) added → added ≡ (if is_ok r then Write viewer acts ∷ [] else [])
wrote_added g viewer acts (Ok k) [] s = absurd (not_ok (λ (e : WriteRefusal). was_written (Err e)) (λ (x : Written). was_written (Ok x)) (write_refusal g viewer) k (λ e x is. cc) s.1)
wrote_added g viewer acts (Ok k) (e ∷ []) s = ap (λ (x : Entry). x ∷ []) s.1.1.1
wrote_added g viewer acts (Err r) [] s = refl
wrote_added g viewer acts (Err r) (e ∷ []) s = absurd (let w = s.1.1.0 in cc)
wrote_added g viewer acts r (e ∷ x ∷ es) s = absurd s.1

wrote_turn : (v w : View Entry) (viewer : ℕ) (acts : List Act) (r : Result Written WriteRefusal) → Turned v w (Answers (write viewer acts) (Ok (was_written r)) [] []) → own_entries w ≡ (if is_ok r then Write viewer acts ∷ [] else []) ++ own_entries v
wrote_turn v w viewer acts r t = own_turn v w _ t (step_few t.before (write viewer acts) (was_written r) t.added t.did_it.0) ∙ ap (λ (es : List Entry). es ++ own_entries v) (wrote_added t.before viewer acts r t.added t.did_it.0)

pub writes : (v w : View Entry) (viewer : ℕ) (acts : List Act) (r : Result Written WriteRefusal) → Turned v w (Answers (write viewer acts) (write_answer r) [] []) → own_entries w ≡ (if is_ok r then Write viewer acts ∷ [] else []) ++ own_entries v
writes v w viewer acts (Ok k) t = wrote_turn v w viewer acts (Ok k) t
writes v w viewer acts (Err write_no_viewer) t = wrote_turn v w viewer acts (Err write_no_viewer) t
writes v w viewer acts (Err (write_closed c)) t = wrote_turn v w viewer acts (Err (write_closed c)) t
writes v w viewer acts (Err (write_worn n)) t = wrote_turn v w viewer acts (Err (write_worn n)) t
writes v w viewer acts (Err write_no_memory) t = own_turn v w _ t (subst AreFew (sym t.did_it.1) tt) ∙ ap (λ (es : List Entry). es ++ own_entries v) t.did_it.1

-- .. and of its sizes
sized_added : (g : History) (viewer cols rows : ℕ) (r : Result ℕ ResizeRefusal) (added : List Entry) → Step g (resize viewer cols rows) (was_resized r) added → AreSized viewer cols rows r added
sized_added g viewer cols rows (Ok stamp) [] s = absurd (not_ok (λ (e : ResizeRefusal). was_resized (Err e)) (λ (t : ℕ). was_resized (Ok t)) (resize_refusal g viewer cols rows) stamp (λ e t is. cc) s.1)
sized_added g viewer cols rows (Ok stamp) (e ∷ []) s = sized_as g viewer cols rows stamp e s.1.1
  where
    sized_as : (g : History) (viewer cols rows stamp : ℕ) (e : Entry) → Adds g (resize viewer cols rows) (was_resized (Ok stamp)) e → AreSized viewer cols rows (Ok stamp) (e ∷ [])
    sized_as g viewer cols rows stamp e a =
        let same : newest g + 1 ≡ stamp = (let z = a.3 in cc) in
        (a.0, ap (λ (x : Entry). x ∷ []) (a.4 ∙ ap (λ (t : ℕ). Size viewer cols rows t a.0) same))
sized_added g viewer cols rows (Err r) [] s = refl
sized_added g viewer cols rows (Err r) (e ∷ []) s = absurd (let w = s.1.1.3 in cc)
sized_added g viewer cols rows r (e ∷ x ∷ es) s = absurd s.1

-- a change of size adds to a pass's own entries what it adds
abbrev pub SizesOwn : View Entry → View Entry → ℕ → ℕ → ℕ → Result ℕ ResizeRefusal → Type 0
SizesOwn v w viewer cols rows r = (sized : List Entry) × AreSized viewer cols rows r sized × (own_entries w ≡ sized ++ own_entries v)

sized_turn : (v w : View Entry) (viewer cols rows : ℕ) (r : Result ℕ ResizeRefusal) → Turned v w (Answers (resize viewer cols rows) (Ok (was_resized r)) [] []) → SizesOwn v w viewer cols rows r
sized_turn v w viewer cols rows r t = (t.added, sized_added t.before viewer cols rows r t.added t.did_it.0, own_turn v w _ t (step_few t.before (resize viewer cols rows) (was_resized r) t.added t.did_it.0))

pub sizes : (v w : View Entry) (viewer cols rows : ℕ) (r : Result ℕ ResizeRefusal) → Turned v w (Answers (resize viewer cols rows) (resize_answer r) [] []) → SizesOwn v w viewer cols rows r
sizes v w viewer cols rows (Ok stamp) t = sized_turn v w viewer cols rows (Ok stamp) t
sizes v w viewer cols rows (Err resize_stop.NoViewer) t = sized_turn v w viewer cols rows (Err resize_stop.NoViewer) t
sizes v w viewer cols rows (Err (resize_stop.Closed c)) t = sized_turn v w viewer cols rows (Err (resize_stop.Closed c)) t
sizes v w viewer cols rows (Err resize_stop.Denied) t = sized_turn v w viewer cols rows (Err resize_stop.Denied) t
sizes v w viewer cols rows (Err resize_stop.Same) t = sized_turn v w viewer cols rows (Err resize_stop.Same) t
sizes v w viewer cols rows (Err (resize_stop.Worn n)) t = sized_turn v w viewer cols rows (Err (resize_stop.Worn n)) t
sizes v w viewer cols rows (Err resize_stop.NoMemory) t = (t.added, t.did_it.1, own_turn v w _ t (subst AreFew (sym t.did_it.1) tt))

left_added : (g : History) (viewer : ℕ) (r : Result (Unit {0}) NoViewer) (added : List Entry) → Step g (leave viewer) (was_left r) added → added ≡ (if is_ok r then Leave viewer ∷ [] else [])
left_added g viewer (Ok u) [] s = absurd (not_ok (λ (e : NoViewer). was_left (Err e)) (λ (x : Unit {0}). was_left (Ok x)) (leave_refusal g viewer) u (λ e x is. cc) s.1)
left_added g viewer (Ok u) (e ∷ []) s = ap (λ (x : Entry). x ∷ []) s.1.1.1
left_added g viewer (Err r) [] s = refl
left_added g viewer (Err r) (e ∷ []) s = absurd (let w = s.1.1.0 in cc)
left_added g viewer r (e ∷ x ∷ es) s = absurd s.1

pub leaves_own : (v w : View Entry) (viewer : ℕ) (r : Result (Unit {0}) NoViewer) → Turned v w (Answers (leave viewer) (Ok (was_left r)) [] []) → own_entries w ≡ (if is_ok r then Leave viewer ∷ [] else []) ++ own_entries v
leaves_own v w viewer r t = own_turn v w _ t (step_few t.before (leave viewer) (was_left r) t.added t.did_it.0) ∙ ap (λ (es : List Entry). es ++ own_entries v) (left_added t.before viewer r t.added t.did_it.0)
