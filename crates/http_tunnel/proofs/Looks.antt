-- What one look of a reader's pass comes to, and two of them.
use Rattle.std.proofs.Common.{◌≡◌, ◌⊎◌, ℕ, ◌+◌, ◌≤◌, List, [], ◌∷◌, ◌++◌, length, Bool, true, false, inl, inr, refl, ap, sym, ◌∙◌, subst, append-nil, append_assoc, length-append, arith}
use Rattle.std.specs.Prelude.{Option, Some, None, Result, Ok, Err, Contains, not, ◌&&◌, ◌||◌, ◌==◌, nat_lt, if◌then◌else◌}
use Rattle.std.specs.Option.{option_map}
use Rattle.std.proofs.lemmas.Bool.{eq-eqb, eqb-true}
use Rattle.turn_lock.proofs.Elements.{contains_head, contains_tail, later_trans}
use Rattle.gate_model.specs.declared.answer.Answer.TheVariants.{Read as was_read}
use Rattle.gate_model.specs.declared.entry.Entry.{Entry}
use Rattle.gate_model.specs.declared.entry.Entry.TheVariants.{Read}
use Rattle.gate_model.specs.declared.event.Event.TheVariants.{Read as read}
use Rattle.gate_model.specs.declared.how.How.{How}
use Rattle.gate_model.specs.declared.how.How.TheVariants.{Suffix, Fresh as Picture}
use Rattle.gate_model.specs.declared.instr.Instr.{Instr}
use Rattle.gate_model.specs.declared.read_answer.ReadAnswer.{ReadAnswer}
use Rattle.gate_model.specs.declared.read_answer.ReadAnswer.TheVariants.{Frames, Fresh, Ended as read_ended, Empty, Hold}
use Rattle.gate_model.specs.declared.read_refusal.ReadRefusal.{ReadRefusal}
use Rattle.gate_model.specs.declared.read_refusal.ReadRefusal.TheVariants.{NoViewer as read_no_viewer, Worn as read_worn, NoMemory as read_no_memory}
use Rattle.gate_model.specs.session.Calls.{Step, Updates, stop_of, updated_as}
use Rattle.gate_model.specs.session.Runs.{handed_out}
use Rattle.gate_model.specs.session.Delivered.{delivered, ended, given, last_sync, position}
use Rattle.gate_model.specs.session.History.{History, is_closed, is_full, newest}
use Rattle.gate_model.specs.session.Refusals.{first_of, only_if, read_stop}
use Rattle.gate_model.specs.session.Rights.{is_live}
use Rattle.gate_model.specs.session.Waiting.{waiting}
use Rattle.gate_model.specs.Limits.{most_waiting}
use Rattle.gate_model.specs.session.Steps.{Legal}
use Rattle.gate_model.specs.text.Text.{text, texts}
use Rattle.gate_model.specs.Sequences.{IsLater}
use Rattle.gate_model.proofs.Truth.{facts_of, read_position}
use Rattle.desk_core.specs.Calls.{read_answer}
use Rattle.desk_core.proofs.FrameTexts.{texts-append}
use Rattle.turn_lock.specs.declared.view.View.{View}
use Rattle.shared_desk.specs.Called.{Answers, Gives, Turned, after_turn}
use Rattle.shared_desk.specs.Own.{entries_at, is_place, own_entries}
use Rattle.shared_desk.proofs.Lasting.{ReadOn, ended_as, mapped_read, read_adds, read_inj, turn_later, turn_sound}
use Rattle.http_tunnel.specs.Reads.{EndCause, GivesNothing, HasLooked, HasRead, IsOneRead, IsWanting, LookCause, LooksNothing, TunnelCause, end_of, look_of, second}
use Rattle.http_tunnel.specs.declared.reading.TunnelEnd.{TunnelEnd}
use Rattle.http_tunnel.specs.declared.reading.TunnelEnd.TheVariants.{Open, Ended}
use Rattle.http_tunnel.specs.declared.reading.TunnelRefusal.{TunnelRefusal}
use Rattle.http_tunnel.specs.declared.reading.TunnelRefusal.TheVariants.{NoViewer, Worn, NoMemory}

-- ---- lists

no_length : {A : Type 0} (xs : List A) → length xs ≡ 0 → xs ≡ []
no_length {A} [] e = refl
no_length {A} (x ∷ xs) e = absurd (omega (arith, e))

right_none : {A : Type 0} (xs ys : List A) → xs ++ ys ≡ xs → ys ≡ []
right_none {A} xs ys e = no_length ys (omega (arith, length-append xs ys, ap length e))

both_none : {A : Type 0} (xs ys : List A) → xs ++ ys ≡ [] → ys ≡ []
both_none {A} xs ys e = no_length ys (omega (arith, length-append xs ys, ap length e))

-- what a viewer was given begins what it was given later
later_given : (added g : History) (v : ℕ) → (m : List Instr) × (delivered (added ++ g) v ≡ delivered g v ++ m)
later_given [] g v = ([], sym (append-nil (delivered g v)))
later_given (e ∷ added) g v =
    let k = later_given added g v in
    let more = given (added ++ g) (delivered (added ++ g) v) v e in
    (k.0 ++ more, ap (λ (xs : List Instr). xs ++ more) k.1 ∙ append_assoc (delivered g v) k.0 more)

-- ---- why a read adds nothing

same_some : {A : Type 0} (x y : A) → Some x ≡ Some y → x ≡ y
same_some x y e = cc

abbrev pub chain : (away over none held full : Bool) (m n : ℕ) → Option (Result ReadAnswer ReadRefusal)
chain away over none held full m n = first_of (only_if away (Err read_no_viewer) ∷ only_if over (Ok read_ended) ∷ only_if none (Ok Empty) ∷ only_if held (Ok (Hold m)) ∷ only_if full (Err (read_worn n)) ∷ [])

-- what may stop the viewer's read after the history
abbrev pub stops_after : History → ℕ → Option (Result ReadAnswer ReadRefusal)
stops_after h viewer = chain (not (is_live h viewer)) (ended h viewer) (not (is_closed h) && position h viewer == newest h) (not (is_closed h) && nat_lt most_waiting (waiting h viewer)) (not (is_closed h) && is_full h) (waiting h viewer) (length h)

-- what a stopped read's answer says of its viewer's end
abbrev Said : Bool → Result ReadAnswer ReadRefusal → Type 0
Said over (Ok (Frames n stamp closed)) = ⊥
Said over (Ok (Fresh stamp closed)) = ⊥
Said over (Ok read_ended) = over ≡ true
Said over (Ok Empty) = over ≡ false
Said over (Ok (Hold n)) = over ≡ false
Said over (Err read_no_viewer) = Unit {0}
Said over (Err (read_worn n)) = Unit {0}
Said over (Err read_no_memory) = ⊥

said : (away over none held full : Bool) (m n : ℕ) (r : Result ReadAnswer ReadRefusal) → chain away over none held full m n ≡ Some r → Said over r
said true over none held full m n r e = subst (λ (x : Result ReadAnswer ReadRefusal). Said over x) (same_some (Err read_no_viewer) r e) tt
said false true none held full m n r e = subst (λ (x : Result ReadAnswer ReadRefusal). Said true x) (same_some (Ok read_ended) r e) refl
said false false true held full m n r e = subst (λ (x : Result ReadAnswer ReadRefusal). Said false x) (same_some (Ok Empty) r e) refl
said false false false true full m n r e = subst (λ (x : Result ReadAnswer ReadRefusal). Said false x) (same_some (Ok (Hold m)) r e) refl
said false false false false true m n r e = subst (λ (x : Result ReadAnswer ReadRefusal). Said false x) (same_some (Err (read_worn n)) r e) tt
said false false false false false m n r e = absurd (let z : None ≡ Some r = e in cc)

said_after : (h : History) (viewer : ℕ) (r : Result ReadAnswer ReadRefusal) → stops_after h viewer ≡ Some r → Said (ended h viewer) r
said_after h viewer r e = said (not (is_live h viewer)) (ended h viewer) (not (is_closed h) && position h viewer == newest h) (not (is_closed h) && nat_lt most_waiting (waiting h viewer)) (not (is_closed h) && is_full h) (waiting h viewer) (length h) r e

-- a read that nothing stops: its viewer isn't at its end, and lacks something where the session is open
unstopped : (away over none held full : Bool) (m n : ℕ) → chain away over none held full m n ≡ None → (over ≡ false) × (none ≡ false)
unstopped true over none held full m n e = absurd (let z : Some (Err read_no_viewer) ≡ None = e in cc)
unstopped false true none held full m n e = absurd (let z : Some (Ok read_ended) ≡ None = e in cc)
unstopped false false true held full m n e = absurd (let z : Some (Ok Empty) ≡ None = e in cc)
unstopped false false false held full m n e = (refl, refl)

unstopped_after : (h : History) (viewer : ℕ) → stops_after h viewer ≡ None → (ended h viewer ≡ false) × ((not (is_closed h) && position h viewer == newest h) ≡ false)
unstopped_after h viewer e = unstopped (not (is_live h viewer)) (ended h viewer) (not (is_closed h) && position h viewer == newest h) (not (is_closed h) && nat_lt most_waiting (waiting h viewer)) (not (is_closed h) && is_full h) (waiting h viewer) (length h) e

mapped_none : (o : Option (Result ReadAnswer ReadRefusal)) → option_map was_read o ≡ None → o ≡ None
mapped_none None e = refl
mapped_none (Some x) e = absurd (let w : Some (was_read x) ≡ None = e in cc)

stopped_cause : (h : History) (viewer : ℕ) (more : List Instr) (r : Result ReadAnswer ReadRefusal) → stop_of h (read viewer) ≡ Some (was_read r) → Said (ended h viewer) r → LookCause (look_of r) viewer h more []
stopped_cause h viewer more (Ok (Frames n stamp closed)) stop s = absurd s
stopped_cause h viewer more (Ok (Fresh stamp closed)) stop s = absurd s
stopped_cause h viewer more (Ok read_ended) stop s = s
stopped_cause h viewer more (Ok Empty) stop s = (refl, s, inl stop)
stopped_cause h viewer more (Ok (Hold n)) stop s = (refl, s, inr (n, stop))
stopped_cause h viewer more (Err read_no_viewer) stop s = stop
stopped_cause h viewer more (Err (read_worn n)) stop s = stop
stopped_cause h viewer more (Err read_no_memory) stop s = absurd s

-- .. and gives nothing
stopped_nothing : (r : Result ReadAnswer ReadRefusal) (xs : List ℕ) → xs ≡ [] → LooksNothing (look_of r) [] xs
stopped_nothing (Ok (Frames n stamp closed)) xs e = tt
stopped_nothing (Ok (Fresh stamp closed)) xs e = tt
stopped_nothing (Ok read_ended) xs e = tt
stopped_nothing (Ok Empty) xs e = (refl, e)
stopped_nothing (Ok (Hold n)) xs e = (refl, e)
stopped_nothing (Err read_no_viewer) xs e = (refl, e)
stopped_nothing (Err (read_worn n)) xs e = (refl, e)
stopped_nothing (Err read_no_memory) xs e = tt

-- ---- a read that adds its entry

module _ (g : History) (viewer : ℕ) (how : How) where
  -- it gives something where the session is open and the viewer lacked something
  gave : Legal g → Updates g (position g viewer) how → (not (is_closed g) && position g viewer == newest g) ≡ false → is_closed g ≡ false → delivered (Read viewer how ∷ g) viewer ≡ delivered g viewer → ⊥
  gave legal updates lacks shut same =
      let at : position g viewer ≡ newest g = sym (ap (λ (xs : List Instr). last_sync xs) same) ∙ read_position g viewer how (facts_of g legal) updates in
      let is : (not (is_closed g) && position g viewer == newest g) ≡ true = ap (λ (b : Bool). not b && position g viewer == newest g) shut ∙ eq-eqb (position g viewer) (newest g) at in
      let z : false ≡ true = sym lacks ∙ is in cc

  added_cause : (first : History) → IsLater first g → Legal g → Updates g (position g viewer) how → stop_of g (read viewer) ≡ None → (more : List Instr) → delivered (Read viewer how ∷ g) viewer ≡ delivered first viewer ++ more
      → (closed : Bool) → is_closed g ≡ closed → TunnelCause (Ok (if closed then Ended else Open)) viewer (Read viewer how ∷ g) more
  added_cause first later legal updates stop more is true closed =
      ended_as g viewer how (unstopped_after g viewer (mapped_none (read_stop g viewer) stop)).0 ∙ closed
  added_cause first later legal updates stop more is false closed =
      let free = unstopped_after g viewer (mapped_none (read_stop g viewer) stop) in
      let k = later_given later.0 first viewer in
      let found : delivered g viewer ≡ delivered first viewer ++ k.0 = ap (λ (h : History). delivered h viewer) later.1 ∙ k.1 in
      let own = given g (delivered g viewer) viewer (Read viewer how) in
      let all : delivered (Read viewer how ∷ g) viewer ≡ delivered first viewer ++ (k.0 ++ own) = ap (λ (xs : List Instr). xs ++ own) found ∙ append_assoc (delivered first viewer) k.0 own in
      let nothing : more ≡ [] → own ≡ [] = λ none. both_none k.0 own (right_none (delivered first viewer) (k.0 ++ own) (sym all ∙ (is ∙ (ap (λ (xs : List Instr). delivered first viewer ++ xs) none ∙ append-nil (delivered first viewer))))) in
      (ended_as g viewer how free.0 ∙ closed, λ none. absurd (gave legal updates free.1 closed (ap (λ (xs : List Instr). delivered g viewer ++ xs) (nothing none) ∙ append-nil (delivered g viewer))))

ended_or_open : (g : History) (viewer : ℕ) (how : How) → end_of (updated_as g viewer how) ≡ Some (if is_closed g then Ended else Open)
ended_or_open g viewer Suffix = refl
ended_or_open g viewer (Picture is) = refl

-- ---- one look

seen_is : (v w : View Entry) (did : History → List Entry → Type 0) (t : Turned v w did) → w.seen ≡ t.added ++ t.before
seen_is v w did t = ap (λ (x : View Entry). View.seen x) t.after

-- at its end a turn has seen as much as its pass knew
known_now : (v w : View Entry) (did : History → List Entry → Type 0) (t : Turned v w did) → v.known ≤ length w.seen
known_now v w did t = omega (arith, t.known, ap length (seen_is v w did t), length-append t.added t.before)

-- entries that come later stand at none of the pass's own places
none_of : (b c : Bool) → (b ≡ true → ⊥) → c ≡ false → (b || c) ≡ false
none_of true c isnt e = absurd (isnt refl)
none_of false c isnt e = e

no_place : (ps : List ℕ) (b n : ℕ) → b ≤ n → ((p : ℕ) → Contains ps p → p + 1 ≤ b) → is_place ps n ≡ false
no_place [] b n few all = refl
no_place (p ∷ ps) b n few all =
    none_of (p == n) (is_place ps n) (λ e. absurd (omega (arith, few, all p (contains_head p ps), eqb-true p n e))) (no_place ps b n few (λ q c. all q (contains_tail p q ps c)))

later_own : (ps : List ℕ) (more g : History) → ((p : ℕ) → Contains ps p → p + 1 ≤ length g) → entries_at ps (more ++ g) ≡ entries_at ps g
later_own ps [] g all = refl
later_own ps (e ∷ more) g all =
    ap (λ (b : Bool). if b then e ∷ entries_at ps (more ++ g) else entries_at ps (more ++ g)) (no_place ps (length g) (length (more ++ g)) (omega (arith, length-append more g)) all) ∙ later_own ps more g all

-- a turn that added nothing
own_same : (v w : View Entry) (did : History → List Entry → Type 0) (t : Turned v w did) → t.added ≡ [] → own_entries w ≡ own_entries v
own_same v w did t none =
    ap (λ (x : View Entry). own_entries x) (t.after ∙ ap (λ (es : List Entry). after_turn t.before es v) none)
    ∙ (ap (λ (h : History). entries_at v.mine h) t.later.1 ∙ later_own v.mine t.later.0 v.seen (λ p c. let few = t.within.within p c in omega (arith, few)))

module _ (v w : View Entry) (viewer : ℕ) (more : List Instr) (given_more : delivered w.seen viewer ≡ delivered v.seen viewer ++ more) where
  -- what a look adds to its pass, and why it is answered so
  record Adds (r : Result (Option TunnelEnd) TunnelRefusal) : Type 0 where
    reads : List Entry
    few : IsOneRead viewer reads
    own : own_entries w ≡ reads ++ own_entries v
    cause : LookCause r viewer w.seen more reads
    nothing : LooksNothing r reads (texts more)

  look_adds : (r : Result ReadAnswer ReadRefusal) (before after : List ℕ) (t : Turned v w (Answers (read viewer) (Ok (was_read r)) before after)) → ReadOn v w viewer r → after ≡ before ++ texts more → Adds (look_of r)
  look_adds r before after t on wrote = by t.added refl t.did_it.0 (seen_is v w _ t)
    where
      by : (added : List Entry) → t.added ≡ added → Step t.before (read viewer) (was_read r) added → w.seen ≡ added ++ t.before → Adds (look_of r)
      by [] none s seen = record {
        reads = [];
        few = inl refl;
        own = own_same v w _ t none;
        cause = subst (λ (h : History). LookCause (look_of r) viewer h more []) (sym seen) (stopped_cause t.before viewer more r s.1 (said_after t.before viewer r (mapped_read (read_stop t.before viewer) r s.1)));
        nothing = stopped_nothing r (texts more) (right_none before (texts more) (sym wrote ∙ (t.did_it.1 ∙ (ap (λ (es : List Entry). before ++ texts (handed_out t.before (read viewer) (was_read r) es)) none ∙ append-nil before))));
      }
      by (e ∷ []) is s seen =
          let g = t.before in
          let a = s.1.1 in
          let there : w.seen ≡ Read viewer a.0 ∷ g = seen ∙ ap (λ (x : Entry). x ∷ g) a.3 in
          let cause = added_cause g viewer a.0 v.seen t.later t.legal_before a.1 s.1.0 more (ap (λ (h : History). delivered h viewer) (sym there) ∙ given_more) (is_closed g) refl in
          let told : Ok (end_of (updated_as g viewer a.0)) ≡ look_of r = ap look_of (sym (read_inj r (Ok (updated_as g viewer a.0)) a.2)) in record {
            reads = on.reads;
            few = on.few;
            own = on.own;
            cause = subst (λ (x : Result (Option TunnelEnd) TunnelRefusal). LookCause x viewer w.seen more on.reads) (ap Ok (sym (ended_or_open g viewer a.0)) ∙ told)
                (subst (λ (h : History). TunnelCause (Ok (if is_closed g then Ended else Open)) viewer h more) (sym there) cause);
            nothing = subst (λ (x : Result (Option TunnelEnd) TunnelRefusal). LooksNothing x on.reads (texts more)) (ap Ok (sym (ended_or_open g viewer a.0)) ∙ told) tt;
          }
      by (e ∷ x ∷ es) is s seen = absurd s.1

  has_looked : {did : History → List Entry → Type 0} (t : Turned v w did) (result : Result (Option TunnelEnd) TunnelRefusal) → Adds result → HasLooked viewer v w (texts more) result
  has_looked {did} t result k = record {
    later = turn_later v w did t;
    known = known_now v w did t;
    same_known = ap (λ (x : View Entry). View.known x) t.after;
    reads = k.reads;
    few = k.few;
    own = k.own;
    more = more;
    given = given_more;
    wrote = refl;
    cause = k.cause;
    nothing = k.nothing;
    sound = turn_sound v w did t;
  }

  answered : (r : Result ReadAnswer ReadRefusal) (before after : List ℕ) → Turned v w (Answers (read viewer) (Ok (was_read r)) before after) → ReadOn v w viewer r → after ≡ before ++ texts more → HasLooked viewer v w (texts more) (look_of r)
  answered r before after t on wrote = has_looked t (look_of r) (look_adds r before after t on wrote)

  unanswered : (before after : List ℕ) → Turned v w (Answers (read viewer) (Err record {}) before after) → after ≡ before ++ texts more → HasLooked viewer v w (texts more) (Err NoMemory)
  unanswered before after t wrote =
      let found : w.seen ≡ t.before = seen_is v w _ t ∙ ap (λ (es : List Entry). es ++ t.before) t.did_it.1 in
      has_looked t (Err NoMemory) record {
        reads = [];
        few = inl refl;
        own = own_same v w _ t t.did_it.1;
        cause = inl (right_none before (texts more) (sym wrote ∙ t.did_it.2), ap (λ (h : History). stop_of h (read viewer)) found ∙ t.did_it.0);
        nothing = tt;
      }

  pub looked : (r : Result ReadAnswer ReadRefusal) (before after : List ℕ) → Gives v (read viewer) (read_answer r) w before after → after ≡ before ++ texts more → HasLooked viewer v w (texts more) (look_of r)
  looked (Ok (Frames n stamp closed)) before after t wrote = answered (Ok (Frames n stamp closed)) before after t (read_adds v w viewer (Ok (Frames n stamp closed)) before after t) wrote
  looked (Ok (Fresh stamp closed)) before after t wrote = answered (Ok (Fresh stamp closed)) before after t (read_adds v w viewer (Ok (Fresh stamp closed)) before after t) wrote
  looked (Ok read_ended) before after t wrote = answered (Ok read_ended) before after t (read_adds v w viewer (Ok read_ended) before after t) wrote
  looked (Ok Empty) before after t wrote = answered (Ok Empty) before after t (read_adds v w viewer (Ok Empty) before after t) wrote
  looked (Ok (Hold n)) before after t wrote = answered (Ok (Hold n)) before after t (read_adds v w viewer (Ok (Hold n)) before after t) wrote
  looked (Err read_no_viewer) before after t wrote = answered (Err read_no_viewer) before after t (read_adds v w viewer (Err read_no_viewer) before after t) wrote
  looked (Err (read_worn n)) before after t wrote = answered (Err (read_worn n)) before after t (read_adds v w viewer (Err (read_worn n)) before after t) wrote
  looked (Err read_no_memory) before after t wrote = unanswered before after t wrote

-- .. told by its equal
pub looked_as : (v w : View Entry) (viewer : ℕ) (more : List Instr) → delivered w.seen viewer ≡ delivered v.seen viewer ++ more → (r : Result ReadAnswer ReadRefusal) (before after : List ℕ) → Gives v (read viewer) (read_answer r) w before after → after ≡ before ++ texts more
    → (told : Result (Option TunnelEnd) TunnelRefusal) → look_of r ≡ told → HasLooked viewer v w (texts more) told
looked_as v w viewer more is r before after t wrote told same = subst (λ (x : Result (Option TunnelEnd) TunnelRefusal). HasLooked viewer v w (texts more) x) same (looked v w viewer more is r before after t wrote)

-- ---- two looks

-- the first look gave something, or was refused
module _ (viewer : ℕ) (v w : View Entry) (text : List ℕ) where
  pub read_first : (end : TunnelEnd) → HasLooked viewer v w text (Ok (Some end)) → HasRead viewer v w text (Ok end)
  read_first end k = record { later = k.later; known = k.known; reads = k.reads; few = k.few; own = k.own; more = k.more; given = k.given; wrote = k.wrote; cause = k.cause; refused = tt; sound = k.sound }

  pub read_refused : (refused : TunnelRefusal) → HasLooked viewer v w text (Err refused) → HasRead viewer v w text (Err refused)
  read_refused refused k = record { later = k.later; known = k.known; reads = k.reads; few = k.few; own = k.own; more = k.more; given = k.given; wrote = k.wrote; cause = k.cause; refused = k.nothing; sound = k.sound }

  -- want of memory comes with any text
  pub read_unmarked : (end : TunnelEnd) → HasRead viewer v w text (Ok end) → HasRead viewer v w text (Err NoMemory)
  read_unmarked end k = record { later = k.later; known = k.known; reads = k.reads; few = k.few; own = k.own; more = k.more; given = k.given; wrote = k.wrote; cause = inr (end, k.cause); refused = tt; sound = k.sound }

-- the first look gave nothing
module _ (viewer : ℕ) (seen : History) (first more : List Instr) (none_first : texts first ≡ []) where
  second_end : (end : TunnelEnd) → EndCause end viewer seen more → EndCause end viewer seen (first ++ more)
  second_end Ended c = c
  second_end Open c = (c.0, λ none. c.1 (both_none first more none))

  second_wanting : IsWanting viewer seen more → IsWanting viewer seen (first ++ more)
  second_wanting (inl k) = inl (texts-append first more ∙ (ap (λ (bs : List ℕ). bs ++ texts more) none_first ∙ k.0), k.1)
  second_wanting (inr k) = inr (k.0, second_end k.0 k.1)

  second_cause : (r : Result (Option TunnelEnd) TunnelRefusal) (reads : List Entry) → LookCause r viewer seen more reads → TunnelCause (second r) viewer seen (first ++ more)
  second_cause (Ok None) reads c = (c.1, λ none. c.2)
  second_cause (Ok (Some end)) reads c = second_end end c
  second_cause (Err NoViewer) reads c = c
  second_cause (Err (Worn n)) reads c = c
  second_cause (Err NoMemory) reads c = second_wanting c

second_nothing : (r : Result (Option TunnelEnd) TunnelRefusal) (first more : List ℕ) (reads : List Entry) → first ≡ [] → LooksNothing r reads more → GivesNothing (second r) reads (first ++ more)
second_nothing (Ok None) first more reads e k = tt
second_nothing (Ok (Some end)) first more reads e k = tt
second_nothing (Err NoViewer) first more reads e k = (k.0, ap (λ (xs : List ℕ). xs ++ more) e ∙ k.1)
second_nothing (Err (Worn n)) first more reads e k = (k.0, ap (λ (xs : List ℕ). xs ++ more) e ∙ k.1)
second_nothing (Err NoMemory) first more reads e k = tt

-- nothing was there at the first look
pub read_second : (viewer other : ℕ) (v u w : View Entry) (first more : List ℕ) (r : Result (Option TunnelEnd) TunnelRefusal) → other ≡ viewer → HasLooked viewer v u first (Ok None) → HasLooked other u w more r → HasRead viewer v w (first ++ more) (second r)
read_second viewer other v u w first more r same a given_b =
    let b : HasLooked viewer u w more r = subst (λ (n : ℕ). HasLooked n u w more r) same given_b in record {
      later = later_trans v.seen u.seen w.seen a.later b.later;
      known = omega (arith, a.same_known, b.known);
      reads = b.reads;
      few = b.few;
      own = b.own ∙ ap (λ (es : List Entry). b.reads ++ es) (a.own ∙ ap (λ (es : List Entry). es ++ own_entries v) a.cause.0);
      more = a.more ++ b.more;
      given = b.given ∙ (ap (λ (xs : List Instr). xs ++ b.more) a.given ∙ append_assoc (delivered v.seen viewer) a.more b.more);
      wrote = ap (λ (bs : List ℕ). bs ++ more) a.wrote ∙ (ap (λ (bs : List ℕ). texts a.more ++ bs) b.wrote ∙ sym (texts-append a.more b.more));
      cause = second_cause viewer w.seen a.more b.more (sym a.wrote ∙ a.nothing.1) r b.reads b.cause;
      refused = second_nothing r first more b.reads a.nothing.1 b.nothing;
      sound = b.sound;
    }

-- .. told by its equal
pub read_as : (viewer : ℕ) (v w : View Entry) (text : List ℕ) (r told : Result TunnelEnd TunnelRefusal) → told ≡ r → HasRead viewer v w text r → HasRead viewer v w text told
read_as viewer v w text r told same k = subst (λ (x : Result TunnelEnd TunnelRefusal). HasRead viewer v w text x) (sym same) k

pub read_second_as : (viewer other : ℕ) (v u w : View Entry) (first more : List ℕ) (o : Option TunnelEnd) (r : Result (Option TunnelEnd) TunnelRefusal) (told : Result TunnelEnd TunnelRefusal) → o ≡ None → told ≡ second r → other ≡ viewer → HasLooked viewer v u first (Ok o) → HasLooked other u w more r → HasRead viewer v w (first ++ more) told
read_second_as viewer other v u w first more o r told none is same a b =
    read_as viewer v w (first ++ more) (second r) told is (read_second viewer other v u w first more r same (subst (λ (x : Option TunnelEnd). HasLooked viewer v u first (Ok x)) none a) b)

pub read_first_as : (viewer : ℕ) (v w : View Entry) (text : List ℕ) (o : Option TunnelEnd) (end : TunnelEnd) → o ≡ Some end → HasLooked viewer v w text (Ok o) → HasRead viewer v w text (Ok end)
read_first_as viewer v w text o end is k = read_first viewer v w text end (subst (λ (x : Option TunnelEnd). HasLooked viewer v w text (Ok x)) is k)

-- the mark was put behind it, or memory was wanting
pub read_marked : (viewer : ℕ) (v w : View Entry) (text : List ℕ) (end : TunnelEnd) (told : Result TunnelEnd TunnelRefusal) → (told ≡ Ok end) ⊎ (told ≡ Err NoMemory) → HasRead viewer v w text (Ok end) → HasRead viewer v w text told
read_marked viewer v w text end told (inl is) k = read_as viewer v w text (Ok end) told is k
read_marked viewer v w text end told (inr is) k = read_as viewer v w text (Err NoMemory) told is (read_unmarked viewer v w text end k)
