-- The entries that a call adds, by its answer.
use Rattle.std.proofs.Common.{◌≡◌, ℕ, ◌+◌, List, [], ◌∷◌, length, take, Bool, true, false, not, ◌&&◌, refl, ap, sym, ◌∙◌, subst, arith}
use Rattle.std.specs.Prelude.{Result, Ok, Err, Option, Some, None, ◌==◌, nat_lt}
use Rattle.std.specs.Option.{option_map}
use Rattle.std.proofs.lemmas.Bool.Decides.{nat_tests}
use Rattle.gate_model.specs.declared.act.Act.{Act}
use Rattle.gate_model.specs.declared.answer.Answer.{Answer}
use Rattle.gate_model.specs.declared.answer.Answer.TheVariants.{Feed as fed, Join as joined_as, Read as was_read, Write as was_written, Resize as was_resized, Take as was_taken, Leave as was_left, Close as was_closed}
use Rattle.gate_model.specs.declared.cause.Cause.{Cause}
use Rattle.gate_model.specs.declared.closed.Closed.{Closed}
use Rattle.gate_model.specs.declared.entry.Entry.{Entry}
use Rattle.gate_model.specs.declared.entry.Entry.TheVariants.{Feed, Size, Join, Read, Write, Take, Leave, Close}
use Rattle.gate_model.specs.declared.event.Event.{Event}
use Rattle.gate_model.specs.declared.event.Event.TheVariants.{Feed as feed, Join as join_in, Read as read_as, Write as write_acts, Resize as resize_to, Take as take_most, Leave as leave_as, Close as close_for}
use Rattle.gate_model.specs.declared.feed_refusal.FeedRefusal.{FeedRefusal}
use Rattle.gate_model.specs.declared.how.How.{How}
use Rattle.gate_model.specs.declared.how.How.TheVariants.{Suffix, Fresh as Picture}
use Rattle.gate_model.specs.declared.instr.Instr.{Instr}
use Rattle.gate_model.specs.declared.join_refusal.JoinRefusal.{JoinRefusal}
use Rattle.gate_model.specs.declared.joined.Joined.{Joined}
use Rattle.gate_model.specs.declared.no_viewer.NoViewer.{NoViewer}
use Rattle.gate_model.specs.declared.read_answer.ReadAnswer.{ReadAnswer}
use Rattle.gate_model.specs.declared.read_answer.ReadAnswer.TheVariants.{Frames, Fresh, Ended, Empty, Hold}
use Rattle.gate_model.specs.declared.read_refusal.ReadRefusal.{ReadRefusal}
use Rattle.gate_model.specs.declared.read_refusal.ReadRefusal.TheVariants.{NoViewer as read_no_viewer, Worn as read_worn}
use Rattle.gate_model.specs.declared.resize_refusal.ResizeRefusal.{ResizeRefusal}
use Rattle.gate_model.specs.declared.sharing.Asked.{Asked}
use Rattle.gate_model.specs.declared.write_refusal.WriteRefusal.{WriteRefusal}
use Rattle.gate_model.specs.declared.written.Written.{Written}
use Rattle.gate_model.specs.session.Calls.{Adds, Step, stop_of, take_entry, updated_as}
use Rattle.gate_model.specs.session.Delivered.{position, ended}
use Rattle.gate_model.specs.session.History.{History, newest, next_stamp, joined, is_closed, is_full}
use Rattle.gate_model.specs.session.Output.{untaken}
use Rattle.gate_model.specs.session.Refusals.{only_if, first_of, feed_refusal, join_refusal, write_refusal, resize_refusal, leave_refusal, close_refusal}
use Rattle.gate_model.specs.session.Rights.{is_live}
use Rattle.gate_model.specs.session.Waiting.{waiting}
use Rattle.gate_model.specs.Limits.{most_waiting}

-- ---- in general

-- a call whose answer no entry has adds none
pub stopped : (h : History) (event : Event) (answer : Answer) (added : List Entry) → ((e : Entry) → Adds h event answer e → ⊥) → Step h event answer added → added ≡ []
stopped h event answer [] none s = refl
stopped h event answer (e ∷ []) none s = absurd (none e s.1.1)
stopped h event answer (e ∷ f ∷ es) none s = absurd s.1

-- a call whose answer stops none adds an entry
pub adding : (h : History) (event : Event) (answer : Answer) (added : List Entry) → (stop_of h event ≡ Some answer → ⊥) → Step h event answer added → (e : Entry) × Adds h event answer e × (added ≡ e ∷ [])
adding h event answer [] some s = absurd (some s.1)
adding h event answer (e ∷ []) some s = (e, s.1.1, refl)
adding h event answer (e ∷ f ∷ es) some s = absurd s.1

-- ---- calls that add an entry

pub feed_adds : (h : History) (bytes : List ℕ) (now stamp : ℕ) (added : List Entry) → Step h (feed bytes now) (fed (Ok stamp)) added → (frame : List Instr) × (added ≡ Feed bytes stamp frame ∷ [])
feed_adds h bytes now stamp added s =
    let one = adding h (feed bytes now) (fed (Ok stamp)) added (no_stop (feed_refusal h)) s in
    let same : stamp ≡ next_stamp (newest h) now = (let told : fed (Ok stamp) ≡ fed (Ok (next_stamp (newest h) now)) = one.1.3 in cc) in
    (one.1.1, one.2 ∙ ap (λ (e : Entry). e ∷ []) (one.1.4 ∙ ap (λ (t : ℕ). Feed bytes t one.1.1) (sym same)))
  where
    no_stop : (o : Option FeedRefusal) → option_map (λ (r : FeedRefusal). fed (Err r)) o ≡ Some (fed (Ok stamp)) → ⊥
    no_stop None e = let w : None ≡ Some (fed (Ok stamp)) = e in cc
    no_stop (Some r) e = let w : Some (fed (Err r)) ≡ Some (fed (Ok stamp)) = e in cc

pub record JoinAdds (h : History) (given : Joined) (added : List Entry) : Type 0 where
  pub first : List Instr
  pub is_next : given.viewer ≡ joined h + 1
  pub adds : added ≡ Join given.viewer given.role first ∷ []

pub join_adds : (h : History) (asked : Asked) (given : Joined) (added : List Entry) → Step h (join_in asked) (joined_as (Ok given)) added → JoinAdds h given added
join_adds h asked given added s =
    let one = adding h (join_in asked) (joined_as (Ok given)) added (no_stop (join_refusal h asked)) s in
    let same : given ≡ record { viewer = joined h + 1; role = one.1.0; stamp = newest h } = is_of (record { viewer = joined h + 1; role = one.1.0; stamp = newest h }) one.1.4 in
    record {
      first = one.1.1;
      is_next = ap (λ (g : Joined). g.viewer) same;
      adds = one.2 ∙ ap (λ (e : Entry). e ∷ []) (one.1.5 ∙ ap (λ (g : Joined). Join g.viewer g.role one.1.1) (sym same));
    }
  where
    is_of : (other : Joined) → joined_as (Ok given) ≡ joined_as (Ok other) → given ≡ other
    is_of other e = cc

    no_stop : (o : Option JoinRefusal) → option_map (λ (r : JoinRefusal). joined_as (Err r)) o ≡ Some (joined_as (Ok given)) → ⊥
    no_stop None e = let w : None ≡ Some (joined_as (Ok given)) = e in cc
    no_stop (Some r) e = let w : Some (joined_as (Err r)) ≡ Some (joined_as (Ok given)) = e in cc

pub write_adds : (h : History) (viewer : ℕ) (acts : List Act) (counts : Written) (added : List Entry) → Step h (write_acts viewer acts) (was_written (Ok counts)) added → added ≡ Write viewer acts ∷ []
write_adds h viewer acts counts added s =
    let one = adding h (write_acts viewer acts) (was_written (Ok counts)) added (no_stop (write_refusal h viewer)) s in
    one.2 ∙ ap (λ (e : Entry). e ∷ []) one.1.1
  where
    no_stop : (o : Option WriteRefusal) → option_map (λ (r : WriteRefusal). was_written (Err r)) o ≡ Some (was_written (Ok counts)) → ⊥
    no_stop None e = let w : None ≡ Some (was_written (Ok counts)) = e in cc
    no_stop (Some r) e = let w : Some (was_written (Err r)) ≡ Some (was_written (Ok counts)) = e in cc

pub resize_adds : (h : History) (viewer cols rows stamp : ℕ) (added : List Entry) → Step h (resize_to viewer cols rows) (was_resized (Ok stamp)) added → (frame : List Instr) × (added ≡ Size viewer cols rows stamp frame ∷ [])
resize_adds h viewer cols rows stamp added s =
    let one = adding h (resize_to viewer cols rows) (was_resized (Ok stamp)) added (no_stop (resize_refusal h viewer cols rows)) s in
    let same : stamp ≡ newest h + 1 = (let told : was_resized (Ok stamp) ≡ was_resized (Ok (newest h + 1)) = one.1.3 in cc) in
    (one.1.0, one.2 ∙ ap (λ (e : Entry). e ∷ []) (one.1.4 ∙ ap (λ (t : ℕ). Size viewer cols rows t one.1.0) (sym same)))
  where
    no_stop : (o : Option ResizeRefusal) → option_map (λ (r : ResizeRefusal). was_resized (Err r)) o ≡ Some (was_resized (Ok stamp)) → ⊥
    no_stop None e = let w : None ≡ Some (was_resized (Ok stamp)) = e in cc
    no_stop (Some r) e = let w : Some (was_resized (Err r)) ≡ Some (was_resized (Ok stamp)) = e in cc

pub leave_adds : (h : History) (viewer : ℕ) (u : Unit {0}) (added : List Entry) → Step h (leave_as viewer) (was_left (Ok u)) added → added ≡ Leave viewer ∷ []
leave_adds h viewer u added s =
    let one = adding h (leave_as viewer) (was_left (Ok u)) added (no_stop (leave_refusal h viewer)) s in
    one.2 ∙ ap (λ (e : Entry). e ∷ []) one.1.1
  where
    no_stop : (o : Option NoViewer) → option_map (λ (r : NoViewer). was_left (Err r)) o ≡ Some (was_left (Ok u)) → ⊥
    no_stop None e = let w : None ≡ Some (was_left (Ok u)) = e in cc
    no_stop (Some r) e = let w : Some (was_left (Err r)) ≡ Some (was_left (Ok u)) = e in cc

pub close_adds : (h : History) (cause : Cause) (u : Unit {0}) (added : List Entry) → Step h (close_for cause) (was_closed (Ok u)) added → added ≡ Close cause ∷ []
close_adds h cause u added s =
    let one = adding h (close_for cause) (was_closed (Ok u)) added (no_stop (close_refusal h)) s in
    one.2 ∙ ap (λ (e : Entry). e ∷ []) one.1.1
  where
    no_stop : (o : Option Closed) → option_map (λ (r : Closed). was_closed (Err r)) o ≡ Some (was_closed (Ok u)) → ⊥
    no_stop None e = let w : None ≡ Some (was_closed (Ok u)) = e in cc
    no_stop (Some r) e = let w : Some (was_closed (Err r)) ≡ Some (was_closed (Ok u)) = e in cc

-- a read that gave something
abbrev pub Gave : ReadAnswer → Type 0
Gave (Frames count stamp closed) = Unit {0}
Gave (Fresh stamp closed) = Unit {0}
Gave answer = ⊥

-- what stops a read gives nothing
read_stops : (h : History) (viewer : ℕ) (answer : ReadAnswer) → stop_of h (read_as viewer) ≡ Some (was_read (Ok answer)) → Gave answer → ⊥
read_stops h viewer answer e gave = cases (is_live h viewer) (ended h viewer) (not (is_closed h) && position h viewer == newest h) (not (is_closed h) && nat_lt most_waiting (waiting h viewer)) (not (is_closed h) && is_full h) e
  where
    none : (x : ReadAnswer) → (Gave x → ⊥) → Some (was_read (Ok x)) ≡ Some (was_read (Ok answer)) → ⊥
    none x nothing q =
        let same : answer ≡ x = (let w : Some (was_read (Ok x)) ≡ Some (was_read (Ok answer)) = q in cc) in
        nothing (subst Gave same gave)

    cases : (there over one two three : Bool)
        → option_map was_read (first_of (only_if (not there) (Err read_no_viewer) ∷ only_if over (Ok Ended) ∷ only_if one (Ok Empty) ∷ only_if two (Ok (Hold (waiting h viewer))) ∷ only_if three (Err (read_worn (length h))) ∷ [])) ≡ Some (was_read (Ok answer)) → ⊥
    cases false over one two three q = let w : Some (was_read (Err read_no_viewer)) ≡ Some (was_read (Ok answer)) = q in cc
    cases true true one two three q = none Ended (λ g. g) q
    cases true false true two three q = none Empty (λ g. g) q
    cases true false false true three q = none (Hold (waiting h viewer)) (λ g. g) q
    cases true false false false true q = let w : Some (was_read (Err (read_worn (length h)))) ≡ Some (was_read (Ok answer)) = q in cc
    cases true false false false false q = let w : None ≡ Some (was_read (Ok answer)) = q in cc

-- a read that gave something adds a Read, by the frames or by a picture
pub read_adds : (h : History) (viewer : ℕ) (answer : ReadAnswer) (added : List Entry) → Gave answer → Step h (read_as viewer) (was_read (Ok answer)) added → (how : How) × (added ≡ Read viewer how ∷ [])
read_adds h viewer answer added gave s =
    let one = adding h (read_as viewer) (was_read (Ok answer)) added (λ e. read_stops h viewer answer e gave) s in
    (one.1.0, one.2 ∙ ap (λ (e : Entry). e ∷ []) one.1.3)

-- ---- calls that add nothing

pub feed_stopped : (h : History) (bytes : List ℕ) (now : ℕ) (r : FeedRefusal) (added : List Entry) → Step h (feed bytes now) (fed (Err r)) added → added ≡ []
feed_stopped h bytes now r added s = stopped h (feed bytes now) (fed (Err r)) added (λ e a. no (next_stamp (newest h) now) a.3) s
  where
    no : (stamp : ℕ) → fed (Err r) ≡ fed (Ok stamp) → ⊥
    no stamp e = cc

pub join_stopped : (h : History) (asked : Asked) (r : JoinRefusal) (added : List Entry) → Step h (join_in asked) (joined_as (Err r)) added → added ≡ []
join_stopped h asked r added s = stopped h (join_in asked) (joined_as (Err r)) added (λ e a. no _ a.4) s
  where
    no : (given : Joined) → joined_as (Err r) ≡ joined_as (Ok given) → ⊥
    no given e = cc

-- a read that gave something
abbrev pub IsGiven : Result ReadAnswer ReadRefusal → Type 0
IsGiven (Ok answer) = Gave answer
IsGiven (Err refusal) = ⊥

pub read_stopped : (h : History) (viewer : ℕ) (r : Result ReadAnswer ReadRefusal) (added : List Entry) → (IsGiven r → ⊥) → Step h (read_as viewer) (was_read r) added → added ≡ []
read_stopped h viewer r added other s =
    stopped h (read_as viewer) (was_read r) added (λ e a. other (subst IsGiven (sym (same (Ok (updated_as h viewer a.0)) a.2)) (gives a.0))) s
  where
    same : (q : Result ReadAnswer ReadRefusal) → was_read r ≡ was_read q → r ≡ q
    same q e = cc

    gives : (how : How) → Gave (updated_as h viewer how)
    gives Suffix = tt
    gives (Picture is) = tt

pub write_stopped : (h : History) (viewer : ℕ) (acts : List Act) (r : WriteRefusal) (added : List Entry) → Step h (write_acts viewer acts) (was_written (Err r)) added → added ≡ []
write_stopped h viewer acts r added s = stopped h (write_acts viewer acts) (was_written (Err r)) added (λ e a. no _ a.0) s
  where
    no : (counts : Written) → was_written (Err r) ≡ was_written (Ok counts) → ⊥
    no counts e = cc

pub resize_stopped : (h : History) (viewer cols rows : ℕ) (r : ResizeRefusal) (added : List Entry) → Step h (resize_to viewer cols rows) (was_resized (Err r)) added → added ≡ []
resize_stopped h viewer cols rows r added s = stopped h (resize_to viewer cols rows) (was_resized (Err r)) added (λ e a. no (newest h + 1) a.3) s
  where
    no : (stamp : ℕ) → was_resized (Err r) ≡ was_resized (Ok stamp) → ⊥
    no stamp e = cc

pub leave_stopped : (h : History) (viewer : ℕ) (r : NoViewer) (added : List Entry) → Step h (leave_as viewer) (was_left (Err r)) added → added ≡ []
leave_stopped h viewer r added s = stopped h (leave_as viewer) (was_left (Err r)) added (λ e a. no a.0) s
  where
    no : was_left (Err r) ≡ was_left (Ok tt) → ⊥
    no e = cc

pub close_stopped : (h : History) (cause : Cause) (r : Closed) (added : List Entry) → Step h (close_for cause) (was_closed (Err r)) added → added ≡ []
close_stopped h cause r added s = stopped h (close_for cause) (was_closed (Err r)) added (λ e a. no a.0) s
  where
    no : was_closed (Err r) ≡ was_closed (Ok tt) → ⊥
    no e = cc

-- ---- a take

-- it hands out the next bytes, and adds an entry where there are some
pub record TakeIs (h : History) (most : ℕ) (answer : Answer) (added : List Entry) : Type 0 where
  pub told : answer ≡ was_taken (take most (untaken h)) (is_closed h)
  pub adds : added ≡ take_entry (length (take most (untaken h)))

pub take_is : (h : History) (most : ℕ) (answer : Answer) (added : List Entry) → Step h (take_most most) answer added → TakeIs h most answer added
take_is h most answer added s = by added s
  where
    some_test : (b : ℕ) (bs : List ℕ) → (length (b ∷ bs) == 0) ≡ false
    some_test b bs = grind (arith, nat_tests)

    none : (xs : List ℕ) (shut : Bool) → only_if (length xs == 0) (was_taken [] shut) ≡ Some answer → (answer ≡ was_taken xs shut) × ([] ≡ take_entry (length xs))
    none [] shut e = (let w : Some (was_taken [] shut) ≡ Some answer = e in cc, refl)
    none (x ∷ xs) shut e = absurd (let w : None ≡ Some answer = sym (ap (λ (t : Bool). only_if t (was_taken [] shut)) (some_test x xs)) ∙ e in cc)

    some : (xs : List ℕ) (shut : Bool) → only_if (length xs == 0) (was_taken [] shut) ≡ None → Take (length xs) ∷ [] ≡ take_entry (length xs)
    some [] shut e = absurd (let w : Some (was_taken [] shut) ≡ None = e in cc)
    some (x ∷ xs) shut e = rw (some_test x xs) refl

    by : (es : List Entry) → Step h (take_most most) answer es → TakeIs h most answer es
    by [] s = let n = none (take most (untaken h)) (is_closed h) s.1 in record { told = n.0; adds = n.1 }
    by (e ∷ []) s = record { told = s.1.1.0; adds = ap (λ (x : Entry). x ∷ []) s.1.1.1 ∙ some (take most (untaken h)) (is_closed h) s.1.0 }
    by (e ∷ f ∷ es) s = absurd s.1
