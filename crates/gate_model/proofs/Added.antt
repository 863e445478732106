-- What a call that nothing stops tells of the entry that it adds, by the kind of the entry.
use Rattle.std.proofs.Common.{◌≡◌, ℕ, ◌+◌, ◌<◌, ◌≤◌, List, [], ◌∷◌, length, take, Bool, true, false, not, ◌&&◌, ◌||◌, ◌⊎◌, inl, inr, refl, sym, ◌∙◌, subst, arith, length-take, length-drop}
use Rattle.std.specs.Prelude.{Option, Some, None, Result, Ok, Err, ◌==◌, nat_le, nat_lt}
use Rattle.std.specs.Option.{option_map}
use Rattle.std.proofs.lemmas.Bool.{leb-false}
use Rattle.std.proofs.lemmas.Bool.Decides.{eqb_tells}
use Rattle.gate_model.specs.declared.act.Act.{Act}
use Rattle.gate_model.specs.declared.closed.Closed.{Closed}
use Rattle.gate_model.specs.declared.cause.Cause.{Cause}
use Rattle.gate_model.specs.declared.how.How.{How}
use Rattle.gate_model.specs.declared.instr.Instr.{Instr}
use Rattle.gate_model.specs.declared.sharing.Role.{Role}
use Rattle.gate_model.specs.declared.sharing.Asked.{Asked}
use Rattle.gate_model.specs.declared.entry.Entry.{Entry}
use Rattle.gate_model.specs.declared.entry.Entry.TheVariants.{Start, Feed, Size, Join, Read, Write, Take, Leave, Close}
use Rattle.gate_model.specs.declared.event.Event.{Event}
use Rattle.gate_model.specs.declared.event.Event.TheVariants.{Feed as feed, Join as join, Read as read, Write as write, Resize as resize, Take as take_most, Leave as leave, Close as close}
use Rattle.gate_model.specs.declared.answer.Answer.{Answer}
use Rattle.gate_model.specs.declared.answer.Answer.TheVariants.{Feed as fed, Join as joined_as, Read as was_read, Write as was_written, Resize as was_resized, Take as was_taken, Leave as was_left, Close as was_closed}
use Rattle.gate_model.specs.declared.feed_refusal.FeedRefusal.{FeedRefusal}
use Rattle.gate_model.specs.declared.feed_refusal.FeedRefusal.TheVariants.{Closed as feed_closed, Worn as feed_worn}
use Rattle.gate_model.specs.declared.join_refusal.JoinRefusal.{JoinRefusal}
use Rattle.gate_model.specs.declared.join_refusal.JoinRefusal.TheVariants.{Closed as join_closed, Forbidden as join_forbidden, TooMany as join_too_many, Worn as join_worn}
use Rattle.gate_model.specs.declared.write_refusal.WriteRefusal.{WriteRefusal}
use Rattle.gate_model.specs.declared.write_refusal.WriteRefusal.TheVariants.{NoViewer as write_no_viewer, Closed as write_closed, Worn as write_worn}
use Rattle.gate_model.specs.declared.read_answer.ReadAnswer.{ReadAnswer}
use Rattle.gate_model.specs.declared.read_answer.ReadAnswer.TheVariants.{Ended, Empty, Hold}
use Rattle.gate_model.specs.declared.read_refusal.ReadRefusal.{ReadRefusal}
use Rattle.gate_model.specs.declared.read_refusal.ReadRefusal.TheVariants.{NoViewer as read_no_viewer, Worn as read_worn}
use Rattle.gate_model.specs.Limits.{most_piece, most_acts, most_live, most_joined, most_waiting}
use Rattle.gate_model.specs.declared.resize_refusal.ResizeRefusal.{ResizeRefusal}
use Rattle.gate_model.specs.declared.resize_refusal.ResizeRefusal.TheVariants.{NoViewer as resize_no_viewer, Closed as resize_closed, Denied, Same, Worn as resize_worn}
use Rattle.gate_model.specs.picture.Shape.{Shape, OpensScreen}
use Rattle.gate_model.specs.terminal.Sizes.{IsScreenSize}
use Rattle.gate_model.specs.session.History.{History, next_stamp, size_now, newest, columns, rows, terminal_type, joined, share_mode, is_closed, is_full}
use Rattle.gate_model.specs.session.Delivered.{position, ended}
use Rattle.gate_model.specs.session.Output.{out, taken, untaken}
use Rattle.gate_model.specs.session.Rights.{is_live, live_count, role_in, is_control}
use Rattle.gate_model.specs.session.Waiting.{waiting}
use Rattle.gate_model.specs.session.Roles.{grant_of}
use Rattle.gate_model.specs.session.Refusals.{first_of, only_if, close_cause, is_crowded, is_forbidden, feed_refusal, join_refusal, read_stop, write_refusal, has_size, resize_refusal, leave_refusal, close_refusal}
use Rattle.gate_model.specs.session.Calls.{AreBytes, ShowsNewest, Updates, Step}
use Rattle.gate_model.specs.session.Steps.{Legal}
use Rattle.gate_model.proofs.Causes.{open_without_cause}

-- a session that is open and isn't full
pub record IsOpen (g : History) : Type 0 where
  pub not_closed : is_closed g ≡ false
  pub not_full : is_full g ≡ false

pub record Feeds (g : History) (bytes : List ℕ) (stamp : ℕ) (frame : List Instr) : Type 0 where
  pub now : ℕ
  pub is_open : IsOpen g
  pub some_bytes : 1 ≤ length bytes
  pub few_bytes : length bytes ≤ most_piece
  pub octets : AreBytes bytes
  pub is_next : stamp ≡ next_stamp (newest g) now
  pub shape : Shape (size_now g).columns (size_now g).rows frame stamp

pub record Resizes (g : History) (viewer cols lines stamp : ℕ) (frame : List Instr) : Type 0 where
  pub live : is_live g viewer ≡ true
  pub is_open : IsOpen g
  pub controls : is_control (role_in g viewer) ≡ true
  pub differs : has_size g cols lines ≡ false
  pub size : IsScreenSize cols lines
  pub is_next : stamp ≡ newest g + 1
  pub shape : Shape cols lines frame stamp
  pub opens : OpensScreen frame

pub record Joins (g : History) (viewer : ℕ) (role : Role) (first : List Instr) : Type 0 where
  pub is_open : IsOpen g
  pub is_next : viewer ≡ joined g + 1
  pub few_live : live_count g < most_live
  pub few_joined : joined g < most_joined
  pub asked : Asked
  pub granted : grant_of (share_mode g) asked ≡ Ok role
  pub shape : ShowsNewest g first

-- in an open session the viewer lacks some frames, and the session isn't full; in a closed one it wasn't given the
-- closing instruction yet
pub record Reads (g : History) (viewer : ℕ) (how : How) : Type 0 where
  pub live : is_live g viewer ≡ true
  pub not_ended : ended g viewer ≡ false
  pub behind : is_closed g ≡ false → (position g viewer == newest g) ≡ false
  pub not_full : is_closed g ≡ false → is_full g ≡ false
  pub updates : Updates g (position g viewer) how

pub record Writes (g : History) (viewer : ℕ) (acts : List Act) : Type 0 where
  pub live : is_live g viewer ≡ true
  pub is_open : IsOpen g
  pub few : length acts ≤ most_acts

pub record Takes (g : History) (count : ℕ) : Type 0 where
  pub some : 1 ≤ count
  pub there : taken g + count ≤ length (out g)

abbrev pub IsNext : History → Entry → Type 0
IsNext g (Feed bytes stamp frame) = Feeds g bytes stamp frame
IsNext g (Size viewer cols lines stamp frame) = Resizes g viewer cols lines stamp frame
IsNext g (Join viewer role first) = Joins g viewer role first
IsNext g (Read viewer how) = Reads g viewer how
IsNext g (Write viewer acts) = Writes g viewer acts
IsNext g (Take count) = Takes g count
IsNext g (Leave viewer) = is_live g viewer ≡ true
IsNext g (Close cause) = is_closed g ≡ false
IsNext g (Start cols lines mode term faces entries stamp frame) = ⊥

-- ---- of conditions in their order, none holds

pub unmapped : {A B : Type 0} (f : A → B) (o : Option A) → option_map f o ≡ None → o ≡ None
unmapped f None e = refl
unmapped f (Some a) e = absurd (let w : Some (f a) ≡ None = e in cc)

none_first : {A : Type 0} (o : Option A) (os : List (Option A)) → first_of (o ∷ os) ≡ None → (o ≡ None) × (first_of os ≡ None)
none_first None os e = (refl, e)
none_first (Some a) os e = absurd (let w : Some a ≡ None = e in cc)

pub not_there : {A : Type 0} (b : Bool) (a : A) → only_if b a ≡ None → b ≡ false
not_there true a e = absurd (let w : Some a ≡ None = e in cc)
not_there false a e = refl

holds : (b : Bool) → not b ≡ false → b ≡ true
holds true e = refl
holds false e = absurd (let w : true ≡ false = e in cc)

neither : (a b : Bool) → (a || b) ≡ false → (a ≡ false) × (b ≡ false)
neither true b e = absurd (let w : true ≡ false = e in cc)
neither false b e = (refl, e)

feed_free : (h : History) → feed_refusal h ≡ None → IsOpen h
feed_free h e =
    let p = none_first (option_map feed_closed (close_cause h)) (only_if (is_full h) (feed_worn (length h)) ∷ []) e in
    let q = none_first (only_if (is_full h) (feed_worn (length h))) [] p.1 in
    record { not_closed = open_without_cause h (unmapped feed_closed (close_cause h) p.0); not_full = not_there (is_full h) (feed_worn (length h)) q.0 }

record JoinFree (h : History) : Type 0 where
  is_open : IsOpen h
  few_live : live_count h < most_live
  few_joined : joined h < most_joined

join_free : (h : History) (asked : Asked) → join_refusal h asked ≡ None → JoinFree h
join_free h asked e =
    let many : Option JoinRefusal = only_if (is_crowded h) (join_too_many (live_count h) (joined h)) in
    let worn : Option JoinRefusal = only_if (is_full h) (join_worn (length h)) in
    let forbidden : Option JoinRefusal = only_if (is_forbidden (share_mode h) asked) join_forbidden in
    let p = none_first (option_map join_closed (close_cause h)) (forbidden ∷ many ∷ worn ∷ []) e in
    let q = none_first forbidden (many ∷ worn ∷ []) p.1 in
    let r = none_first many (worn ∷ []) q.1 in
    let s = none_first worn [] r.1 in
    let few = neither (nat_le most_live (live_count h)) (nat_le most_joined (joined h)) (not_there (is_crowded h) (join_too_many (live_count h) (joined h)) r.0) in
    record {
      is_open = record { not_closed = open_without_cause h (unmapped join_closed (close_cause h) p.0); not_full = not_there (is_full h) (join_worn (length h)) s.0 };
      few_live = leb-false most_live (live_count h) few.0;
      few_joined = leb-false most_joined (joined h) few.1;
    }

read_free : (h : History) (viewer : ℕ) (how : How) → read_stop h viewer ≡ None → Updates h (position h viewer) how → Reads h viewer how
read_free h viewer how e updates =
    let away : Option (Result ReadAnswer ReadRefusal) = only_if (not (is_live h viewer)) (Err read_no_viewer) in
    let over : Option (Result ReadAnswer ReadRefusal) = only_if (ended h viewer) (Ok Ended) in
    let empty : Option (Result ReadAnswer ReadRefusal) = only_if (not (is_closed h) && position h viewer == newest h) (Ok Empty) in
    let worn : Option (Result ReadAnswer ReadRefusal) = only_if (not (is_closed h) && is_full h) (Err (read_worn (length h))) in
    let held : Option (Result ReadAnswer ReadRefusal) = only_if (not (is_closed h) && nat_lt most_waiting (waiting h viewer)) (Ok (Hold (waiting h viewer))) in
    let p = none_first away (over ∷ empty ∷ held ∷ worn ∷ []) e in
    let q = none_first over (empty ∷ held ∷ worn ∷ []) p.1 in
    let r = none_first empty (held ∷ worn ∷ []) q.1 in
    let w = none_first held (worn ∷ []) r.1 in
    let s = none_first worn [] w.1 in
    record {
      live = holds (is_live h viewer) (not_there (not (is_live h viewer)) (Err read_no_viewer) p.0);
      not_ended = not_there (ended h viewer) (Ok Ended) q.0;
      behind = λ o. when_open (is_closed h) (position h viewer == newest h) (not_there (not (is_closed h) && position h viewer == newest h) (Ok Empty) r.0) o;
      not_full = λ o. when_open (is_closed h) (is_full h) (not_there (not (is_closed h) && is_full h) (Err (read_worn (length h))) s.0) o;
      updates = updates;
    }
  where
    when_open : (a b : Bool) → (not a && b) ≡ false → a ≡ false → b ≡ false
    when_open false b f o = f
    when_open true b f o = absurd (let w : true ≡ false = o in cc)

write_free : (h : History) (viewer : ℕ) → write_refusal h viewer ≡ None → (is_live h viewer ≡ true) × IsOpen h
write_free h viewer e =
    let away : Option WriteRefusal = only_if (not (is_live h viewer)) write_no_viewer in
    let worn : Option WriteRefusal = only_if (is_full h) (write_worn (length h)) in
    let p = none_first away (option_map write_closed (close_cause h) ∷ worn ∷ []) e in
    let q = none_first (option_map write_closed (close_cause h)) (worn ∷ []) p.1 in
    let r = none_first worn [] q.1 in (
      holds (is_live h viewer) (not_there (not (is_live h viewer)) write_no_viewer p.0),
      record { not_closed = open_without_cause h (unmapped write_closed (close_cause h) q.0); not_full = not_there (is_full h) (write_worn (length h)) r.0 },
    )

record ResizeFree (h : History) (viewer cols rows : ℕ) : Type 0 where
  live : is_live h viewer ≡ true
  is_open : IsOpen h
  controls : is_control (role_in h viewer) ≡ true
  differs : has_size h cols rows ≡ false

resize_free : (h : History) (viewer cols rows : ℕ) → resize_refusal h viewer cols rows ≡ None → ResizeFree h viewer cols rows
resize_free h viewer cols rows e =
    let away : Option ResizeRefusal = only_if (not (is_live h viewer)) resize_no_viewer in
    let denied : Option ResizeRefusal = only_if (not (is_control (role_in h viewer))) Denied in
    let same : Option ResizeRefusal = only_if (has_size h cols rows) Same in
    let worn : Option ResizeRefusal = only_if (is_full h) (resize_worn (length h)) in
    let p = none_first away (option_map resize_closed (close_cause h) ∷ denied ∷ same ∷ worn ∷ []) e in
    let q = none_first (option_map resize_closed (close_cause h)) (denied ∷ same ∷ worn ∷ []) p.1 in
    let r = none_first denied (same ∷ worn ∷ []) q.1 in
    let t = none_first same (worn ∷ []) r.1 in
    let u = none_first worn [] t.1 in
    record {
      live = holds (is_live h viewer) (not_there (not (is_live h viewer)) resize_no_viewer p.0);
      is_open = record { not_closed = open_without_cause h (unmapped resize_closed (close_cause h) q.0); not_full = not_there (is_full h) (resize_worn (length h)) u.0 };
      controls = holds (is_control (role_in h viewer)) (not_there (not (is_control (role_in h viewer))) Denied r.0);
      differs = not_there (has_size h cols rows) Same t.0;
    }

-- ---- the entry

pub added : (h : History) (event : Event) (answer : Answer) (e : Entry) → Step h event answer (e ∷ []) → IsNext h e
added h (feed bytes now) answer e s =
    let a = s.1.1 in
    let free = feed_free h (unmapped (λ (r : FeedRefusal). fed (Err r)) (feed_refusal h) s.1.0) in
    subst (IsNext h) (sym a.4) record { now = now; is_open = free; some_bytes = s.0.some; few_bytes = s.0.few; octets = a.0; is_next = refl; shape = a.2 }
added h (join asked) answer e s =
    let a = s.1.1 in
    let free = join_free h asked (unmapped (λ (r : JoinRefusal). joined_as (Err r)) (join_refusal h asked) s.1.0) in
    subst (IsNext h) (sym a.5) record { is_open = free.is_open; is_next = refl; few_live = free.few_live; few_joined = free.few_joined; asked = asked; granted = a.2; shape = a.3 }
added h (read viewer) answer e s =
    let a = s.1.1 in
    subst (IsNext h) (sym a.3) (read_free h viewer a.0 (unmapped was_read (read_stop h viewer) s.1.0) a.1)
added h (write viewer acts) answer e s =
    let free = write_free h viewer (unmapped (λ (r : WriteRefusal). was_written (Err r)) (write_refusal h viewer) s.1.0) in
    subst (IsNext h) (sym s.1.1.1) record { live = free.0; is_open = free.1; few = s.0.few }
added h (resize viewer cols rows) answer e s =
    let a = s.1.1 in
    let free = resize_free h viewer cols rows (unmapped (λ (r : ResizeRefusal). was_resized (Err r)) (resize_refusal h viewer cols rows) s.1.0) in
    subst (IsNext h) (sym a.4) record { live = free.live; is_open = free.is_open; controls = free.controls; differs = free.differs; size = s.0; is_next = refl; shape = a.1; opens = a.2 }
added h (take_most most) answer e s =
    let some : (length (take most (untaken h)) == 0) ≡ false = not_there (length (take most (untaken h)) == 0) (was_taken [] (is_closed h)) s.1.0 in
    subst (IsNext h) (sym s.1.1.1) (takes some (eqb_tells (length (take most (untaken h))) 0))
  where
    takes : (length (take most (untaken h)) == 0) ≡ false
        → (((length (take most (untaken h)) == 0) ≡ true) × (length (take most (untaken h)) ≡ 0)) ⊎ (((length (take most (untaken h)) == 0) ≡ false) × (length (take most (untaken h)) ≡ 0 → ⊥)) → Takes h (length (take most (untaken h)))
    takes f (inl q) = absurd (let w : false ≡ true = sym f ∙ q.0 in cc)
    takes f (inr q) =
        let one : 1 ≤ length (take most (untaken h)) = omega (arith, q.1) in
        record { some = one; there = omega (arith, one, length-take most (untaken h), length-drop (taken h) (out h)) }
added h (leave viewer) answer e s =
    let free : leave_refusal h viewer ≡ None = unmapped (λ r. was_left (Err r)) (leave_refusal h viewer) s.1.0 in
    subst (IsNext h) (sym s.1.1.1) (holds (is_live h viewer) (not_there (not (is_live h viewer)) record {} free))
added h (close cause) answer e s =
    let free : close_refusal h ≡ None = unmapped (λ r. was_closed (Err r)) (close_refusal h) s.1.0 in
    subst (IsNext h) (sym s.1.1.1) (open_without_cause h (unmapped {A = Cause} {B = Closed} (λ kept. record { cause = kept }) (close_cause h) free))

-- an entry of a legal history that isn't the first
pub next : (e f : Entry) (g : History) → Legal (e ∷ f ∷ g) → IsNext (f ∷ g) e
next e f g l = added (f ∷ g) l.1 l.2 e l.3

-- .. it is no Start, and what Start says stays
pub record StaysStarted (h : History) (e : Entry) : Type 0 where
  pub cols : columns (e ∷ h) ≡ columns h
  pub rows : rows (e ∷ h) ≡ rows h
  pub term : terminal_type (e ∷ h) ≡ terminal_type h

pub stays_started : (h : History) (e : Entry) → IsNext h e → StaysStarted h e
stays_started h (Feed bytes stamp frame) n = record { cols = refl; rows = refl; term = refl }
stays_started h (Size viewer cols lines stamp frame) n = record { cols = refl; rows = refl; term = refl }
stays_started h (Join viewer role first) n = record { cols = refl; rows = refl; term = refl }
stays_started h (Read viewer how) n = record { cols = refl; rows = refl; term = refl }
stays_started h (Write viewer acts) n = record { cols = refl; rows = refl; term = refl }
stays_started h (Take count) n = record { cols = refl; rows = refl; term = refl }
stays_started h (Leave viewer) n = record { cols = refl; rows = refl; term = refl }
stays_started h (Close cause) n = record { cols = refl; rows = refl; term = refl }
stays_started h (Start cols lines mode term faces entries stamp frame) n = absurd n
