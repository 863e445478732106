-- What the parts of a desk tell of its history, and what follows where no rule stops a call.
use Rattle.std.proofs.Common.{◌≡◌, ℕ, ◌+◌, ◌-◌, ◌<◌, ◌≤◌, ◌^◌, [], ◌∷◌, length, Bool, true, false, not, ◌&&◌, ◌||◌, ◌⊎◌, inl, inr, refl, ap, sym, ◌∙◌, lt-ltb, le-ltb, ltb-false, arith}
use Rattle.std.specs.Prelude.{Option, Some, None, is_some, Result, Ok, Err, ◌==◌, nat_le, nat_lt}
use Rattle.std.specs.Option.{option_map}
use Rattle.std.proofs.lemmas.Bool.{eq-eqb}
use Rattle.std.proofs.lemmas.Bool.Decides.{eqb_tells, leb_tells}
use Rattle.gate_model.specs.declared.cause.Cause.{Cause}
use Rattle.gate_model.specs.declared.mods.Mods.{Mods}
use Rattle.gate_model.specs.declared.sharing.Asked.{Asked}
use Rattle.gate_model.specs.declared.sharing.Role.{Role}
use Rattle.gate_model.specs.declared.feed_refusal.FeedRefusal.TheVariants.{Closed as feed_closed, Worn as feed_worn}
use Rattle.gate_model.specs.declared.join_refusal.JoinRefusal.TheVariants.{Closed as join_closed, Forbidden as join_forbidden, TooMany as join_too_many, Worn as join_worn}
use Rattle.gate_model.specs.declared.read_answer.ReadAnswer.TheVariants.{Ended, Empty, Hold}
use Rattle.gate_model.specs.declared.read_answer.ReadAnswer.{ReadAnswer}
use Rattle.gate_model.specs.declared.read_refusal.ReadRefusal.{ReadRefusal}
use Rattle.gate_model.specs.declared.read_refusal.ReadRefusal.TheVariants.{NoViewer as read_no_viewer, Worn as read_worn}
use Rattle.gate_model.specs.declared.resize_refusal.ResizeRefusal.TheVariants.{NoViewer as resize_no_viewer, Closed as resize_closed, Denied, Same, Worn as resize_worn}
use Rattle.gate_model.specs.declared.write_refusal.WriteRefusal.TheVariants.{NoViewer as write_no_viewer, Closed as write_closed, Worn as write_worn}
use Rattle.gate_model.specs.Limits.{most_live, most_joined, most_waiting}
use Rattle.gate_model.specs.session.History.{History, newest, capacity, joined, is_closed, is_full, share_mode}
use Rattle.gate_model.specs.session.Delivered.{closing, farewell, position, ended}
use Rattle.gate_model.specs.session.Rights.{is_live, live_count, role_in, is_control, may, mods}
use Rattle.gate_model.specs.session.Waiting.{waiting}
use Rattle.gate_model.specs.session.Refusals.{first_of, only_if, close_cause, is_forbidden, feed_refusal, join_refusal, read_stop, write_refusal, has_size, resize_refusal}
use Rattle.gate_model.specs.session.Laws.{EntriesAreFew}
use Rattle.gate_model.proofs.Facts.{Facts}
use Rattle.gate_model.proofs.Truth.{facts_of}
use Rattle.gate_model.proofs.Bounds.{bounds_of}
use Rattle.gate_model.proofs.Causes.{open_without_cause, closed_with_cause}
use Rattle.viewer_book.specs.declared.viewer.Viewer.{Viewer}
use Rattle.viewer_book.specs.Book as book
use Rattle.viewer_book.specs.Book.{viewer_at}
use Rattle.desk_core.specs.Desk.{DeskState, Stands}
use Rattle.desk_core.specs.Farewell.{farewell_of}
use Rattle.desk_core.proofs.Seating.{SeatOf, seat_of, told}

-- ---- the parts

-- the numbers that a desk keeps are small
pub record IsSmall (d : DeskState) : Type 0 where
  pub room : d.setup.entries ≤ 2 ^ 40
  pub stamp : d.frames.stamp ≤ 2 ^ 53 + 2 ^ 40

pub small : (d : DeskState) (h : History) → Stands d h → IsSmall d
small d h s =
    let b = bounds_of h s.legal in
    record {
      room = omega (arith, s.setup.entries, b.room);
      stamp = omega (arith, s.frames.stamp, b.stamps, b.few_frames, b.room);
    }

-- the session is open
pub no_cause : (d : DeskState) (h : History) → Stands d h → d.cause ≡ None → close_cause h ≡ None
no_cause d h s none = sym s.cause ∙ none

pub stays_open : (d : DeskState) (h : History) → Stands d h → d.cause ≡ None → is_closed h ≡ false
stays_open d h s none = open_without_cause h (no_cause d h s none)

is_shut : (d : DeskState) (h : History) (c : Cause) → Stands d h → d.cause ≡ Some c → is_closed h ≡ true
is_shut d h c s some = (closed_with_cause h c (sym s.cause ∙ some)).0

-- whether it is closed
pub shut_is : (d : DeskState) (h : History) → Stands d h → is_some d.cause ≡ is_closed h
shut_is d h s = cases d.cause refl
  where
    cases : (o : Option Cause) → d.cause ≡ o → is_some o ≡ is_closed h
    cases None is = sym (stays_open d h s is)
    cases (Some c) is = sym (is_shut d h c s is)

-- what a closed session says last
pub closing_is : (d : DeskState) (h : History) → Stands d h → closing h ≡ farewell_of d.cause
closing_is d h s = cases d.cause refl (facts_of h s.legal)
  where
    cases : (o : Option Cause) → d.cause ≡ o → Facts h → closing h ≡ farewell_of o
    cases None is f = open_closing is f.closed
      where
        open_closing : d.cause ≡ None → ((is_closed h ≡ false) × (closing h ≡ [])) ⊎ ((is_closed h ≡ true) × ((c : Cause) × (closing h ≡ farewell c ∷ []))) → closing h ≡ []
        open_closing is (inl p) = p.1
        open_closing is (inr p) = absurd (let w : false ≡ true = sym (stays_open d h s is) ∙ p.0 in cc)
    cases (Some c) is f = (closed_with_cause h c (sym s.cause ∙ is)).1

-- one entry more can be counted
pub counts_on : (d : DeskState) (h : History) → Stands d h → EntriesAreFew → d.entries < 2 ^ 64 - 1
counts_on d h s few = omega (arith, s.entries, few h s.legal)

-- ---- what follows where nothing stops a call

below : (a b : ℕ) → nat_le a b ≡ false → b < a
below a b less = elim (leb_tells a b) [ inl p ↦ absurd (let z : true ≡ false = sym p.0 ∙ less in cc) | inr p ↦ p.1 ]

pub below_capacity : (h : History) → is_full h ≡ false → length h < capacity h
below_capacity h room = below (capacity h) (length h) room

-- a session that is open, and has room
pub record Goes (h : History) : Type 0 where
  pub cause : close_cause h ≡ None
  pub room : is_full h ≡ false

pub is_open : (h : History) → Goes h → is_closed h ≡ false
is_open h g = open_without_cause h g.cause

-- such a session has at most 2^40 entries with one more
pub stays_few : (d : DeskState) (h : History) → Stands d h → Goes h → d.entries < 2 ^ 40
stays_few d h s g = omega (arith, s.entries, s.setup.entries, (small d h s).room, below_capacity h g.room)

pub feed_goes : (h : History) → feed_refusal h ≡ None → Goes h
feed_goes h e = cases (close_cause h) (is_full h) refl refl e
  where
    cases : (o : Option Cause) (b : Bool) → close_cause h ≡ o → is_full h ≡ b → first_of (option_map feed_closed o ∷ only_if b (feed_worn (length h)) ∷ []) ≡ None → Goes h
    cases (Some c) b x y q = absurd (let w : Some (feed_closed c) ≡ None = q in cc)
    cases None true x y q = absurd (let w : Some (feed_worn (length h)) ≡ None = q in cc)
    cases None false x y q = record { cause = x; room = y }

pub record JoinGoes (h : History) : Type 0 where
  pub goes : Goes h
  pub live : live_count h < most_live
  pub number : joined h < most_joined

pub join_goes : (h : History) (asked : Asked) → join_refusal h asked ≡ None → JoinGoes h
join_goes h asked e = cases (close_cause h) (is_forbidden (share_mode h) asked) (is_full h) (live_count h) (joined h) refl refl refl refl e
  where
    cases : (o : Option Cause) (b full : Bool) (live number : ℕ) → close_cause h ≡ o → is_full h ≡ full → live_count h ≡ live → joined h ≡ number
        → first_of (option_map join_closed o ∷ only_if b join_forbidden ∷ only_if (nat_le most_live live || nat_le most_joined number) (join_too_many live number) ∷ only_if full (join_worn (length h)) ∷ []) ≡ None → JoinGoes h
    cases (Some c) b full live number o f l n q = absurd (let w : Some (join_closed c) ≡ None = q in cc)
    cases None true full live number o f l n q = absurd (let w : Some join_forbidden ≡ None = q in cc)
    cases None false full live number o f l n q = crowd (nat_le most_live live) (nat_le most_joined number) full refl refl f q
      where
        crowd : (x y full : Bool) → nat_le most_live live ≡ x → nat_le most_joined number ≡ y → is_full h ≡ full → first_of (only_if (x || y) (join_too_many live number) ∷ only_if full (join_worn (length h)) ∷ []) ≡ None → JoinGoes h
        crowd true y full a b f q = absurd (let w : Some (join_too_many live number) ≡ None = q in cc)
        crowd false true full a b f q = absurd (let w : Some (join_too_many live number) ≡ None = q in cc)
        crowd false false true a b f q = absurd (let w : Some (join_worn (length h)) ≡ None = q in cc)
        crowd false false false a b f q = record { goes = record { cause = o; room = f }; live = omega (arith, l, below most_live live a); number = omega (arith, n, below most_joined number b) }

pub record WriteGoes (h : History) (v : ℕ) : Type 0 where
  pub live : is_live h v ≡ true
  pub goes : Goes h

pub write_goes : (h : History) (v : ℕ) → write_refusal h v ≡ None → WriteGoes h v
write_goes h v e = cases (is_live h v) (close_cause h) (is_full h) refl refl refl e
  where
    cases : (a : Bool) (o : Option Cause) (b : Bool) → is_live h v ≡ a → close_cause h ≡ o → is_full h ≡ b → first_of (only_if (not a) write_no_viewer ∷ option_map write_closed o ∷ only_if b (write_worn (length h)) ∷ []) ≡ None → WriteGoes h v
    cases false o b x y z q = absurd (let w : Some write_no_viewer ≡ None = q in cc)
    cases true (Some c) b x y z q = absurd (let w : Some (write_closed c) ≡ None = q in cc)
    cases true None true x y z q = absurd (let w : Some (write_worn (length h)) ≡ None = q in cc)
    cases true None false x y z q = record { live = x; goes = record { cause = y; room = z } }

pub resize_goes : (h : History) (v c r : ℕ) → resize_refusal h v c r ≡ None → Goes h
resize_goes h v c r e = cases (is_live h v) (close_cause h) (is_control (role_in h v)) (has_size h c r) (is_full h) refl refl e
  where
    cases : (a : Bool) (o : Option Cause) (b d f : Bool) → close_cause h ≡ o → is_full h ≡ f
        → first_of (only_if (not a) resize_no_viewer ∷ option_map resize_closed o ∷ only_if (not b) Denied ∷ only_if d Same ∷ only_if f (resize_worn (length h)) ∷ []) ≡ None → Goes h
    cases false o b d f x y q = absurd (let w : Some resize_no_viewer ≡ None = q in cc)
    cases true (Some c) b d f x y q = absurd (let w : Some (resize_closed c) ≡ None = q in cc)
    cases true None false d f x y q = absurd (let w : Some Denied ≡ None = q in cc)
    cases true None true true f x y q = absurd (let w : Some Same ≡ None = q in cc)
    cases true None true false true x y q = absurd (let w : Some (resize_worn (length h)) ≡ None = q in cc)
    cases true None true false false x y q = record { cause = x; room = y }

-- ---- a viewer that is there

-- whether the viewer may type
pub may_is : (d : DeskState) (h : History) (v : ℕ) → Stands d h → book.is_live d.book v ≡ true → is_closed h ≡ false → (role : Role) (b : Bool) → role_in h v ≡ Some role → b ≡ is_control (Some role) → b ≡ may h v
may_is d h v s there stays role b r is =
    let here : is_live h v ≡ true = sym (s.book.here v) ∙ there in
    is ∙ sym (rw (here, r, stays) (and_true (is_control (Some role))))
  where
    and_true : (x : Bool) → ((true && x) && not false) ≡ x
    and_true true = refl
    and_true false = refl

-- a read that nothing stops
pub record Reading (d : DeskState) (h : History) (v : ℕ) : Type 0 where
  pub there : book.is_live d.book v ≡ true
  pub live : is_live h v ≡ true
  pub more : ended h v ≡ false
  pub behind : is_closed h ≡ false → (position h v == newest h) ≡ false
  pub few : is_closed h ≡ false → waiting h v ≤ most_waiting
  pub room : is_closed h ≡ false → is_full h ≡ false

record Unstopped (live over shut same held full : Bool) : Type 0 where
  there : live ≡ true
  more : over ≡ false
  behind : shut ≡ false → same ≡ false
  few : shut ≡ false → held ≡ false
  room : shut ≡ false → full ≡ false

unstopped : (h : History) (v : ℕ) → read_stop h v ≡ None → Unstopped (is_live h v) (ended h v) (is_closed h) (position h v == newest h) (nat_lt most_waiting (waiting h v)) (is_full h)
unstopped h v e = cases (is_live h v) (ended h v) (is_closed h) (position h v == newest h) (nat_lt most_waiting (waiting h v)) (is_full h) e
  where
    never : {A : Type 0} (x : Result ReadAnswer ReadRefusal) → Some x ≡ None → A
    never x q = absurd (let w : None ≡ Some x = sym q in cc)

    isnt : {A : Type 0} → true ≡ false → A
    isnt z = absurd (let w : false ≡ true = sym z in cc)

    cases : (a b c d k f : Bool) → first_of (only_if (not a) (Err read_no_viewer) ∷ only_if b (Ok Ended) ∷ only_if (not c && d) (Ok Empty) ∷ only_if (not c && k) (Ok (Hold (waiting h v))) ∷ only_if (not c && f) (Err (read_worn (length h))) ∷ []) ≡ None → Unstopped a b c d k f
    cases false b c d k f q = never (Err read_no_viewer) q
    cases true true c d k f q = never (Ok Ended) q
    cases true false true d k f q = record { there = refl; more = refl; behind = isnt; few = isnt; room = isnt }
    cases true false false true k f q = never (Ok Empty) q
    cases true false false false true f q = never (Ok (Hold (waiting h v))) q
    cases true false false false false true q = never (Err (read_worn (length h))) q
    cases true false false false false false q = record { there = refl; more = refl; behind = λ z. refl; few = λ z. refl; room = λ z. refl }

pub reading : (d : DeskState) (h : History) (v : ℕ) → Stands d h → read_stop h v ≡ None → Reading d h v
reading d h v s free =
    let u = unstopped h v free in
    let there : book.is_live d.book v ≡ true = s.book.here v ∙ u.there in
    record {
      there = there;
      live = u.there;
      more = u.more;
      behind = u.behind;
      few = λ stays. ltb-false most_waiting (waiting h v) (u.few stays);
      room = u.room;
    }

-- the viewer's position is below the newest stamp, or at it in a closed session
pub not_above : (d : DeskState) (h : History) (v : ℕ) (w : Viewer) → Stands d h → viewer_at d.book v ≡ Some w → w.position ≤ d.frames.stamp
not_above d h v w s found = omega (arith, (s.book.seated v w found).position, (facts_of h s.legal).within v, s.frames.stamp)

pub is_below : (d : DeskState) (h : History) (v : ℕ) (w : Viewer) → Stands d h → viewer_at d.book v ≡ Some w → (position h v == newest h) ≡ false → w.position < d.frames.stamp
is_below d h v w s found differs = cases (eqb_tells (position h v) (newest h))
  where
    cases : (((position h v == newest h) ≡ true) × (position h v ≡ newest h)) ⊎ (((position h v == newest h) ≡ false) × (position h v ≡ newest h → ⊥)) → w.position < d.frames.stamp
    cases (inl q) = absurd (let z : false ≡ true = sym differs ∙ q.0 in cc)
    cases (inr q) = omega (arith, not_above d h v w s found, (s.book.seated v w found).position, s.frames.stamp, q.1)

-- ---- what the book tells of a viewer that is there

module _ (d : DeskState) (h : History) (v : ℕ) (s : Stands d h) (there : book.is_live d.book v ≡ true) where
  pub is_there : is_live h v ≡ true
  is_there = sym (s.book.here v) ∙ there

  seat : SeatOf d.book h v
  seat = seat_of d.book h v s.book there

  pub role_is : (role : Role) → option_map (λ (w : Viewer). w.role) (viewer_at d.book v) ≡ Some role → role_in h v ≡ Some role
  role_is role is = seat.seated.role ∙ ap Some (sym (told (λ (w : Viewer). w.role) (viewer_at d.book v) seat.viewer role seat.found is))

  pub ended_is : (over : Bool) → option_map (λ (w : Viewer). w.ended) (viewer_at d.book v) ≡ Some over → ended h v ≡ over
  ended_is over is = sym (told (λ (w : Viewer). w.ended) (viewer_at d.book v) seat.viewer over seat.found is ∙ seat.seated.ended)

  pub position_is : (stamp : ℕ) → option_map (λ (w : Viewer). w.position) (viewer_at d.book v) ≡ Some stamp → position h v ≡ stamp
  position_is stamp is = sym (told (λ (w : Viewer). w.position) (viewer_at d.book v) seat.viewer stamp seat.found is ∙ seat.seated.position)

  pub mods_is : (held : Mods) → option_map (λ (w : Viewer). w.mods) (viewer_at d.book v) ≡ Some held → held ≡ mods h v
  mods_is held is = told (λ (w : Viewer). w.mods) (viewer_at d.book v) seat.viewer held seat.found is ∙ seat.seated.mods

  -- why a read gives it nothing
  pub read_is_over : ended h v ≡ true → read_stop h v ≡ Some (Ok Ended)
  read_is_over over = rw (is_there, over) refl

  pub read_is_last : ended h v ≡ false → is_some d.cause ≡ true → read_stop h v ≡ None
  read_is_last more shut = let q : is_closed h ≡ true = sym (shut_is d h s) ∙ shut in rw (is_there, more, q) refl

  pub read_is_empty : ended h v ≡ false → is_some d.cause ≡ false → position h v ≡ d.frames.stamp → read_stop h v ≡ Some (Ok Empty)
  read_is_empty more stays same =
      let q : is_closed h ≡ false = sym (shut_is d h s) ∙ stays in
      let equal : (position h v == newest h) ≡ true = eq-eqb (position h v) (newest h) (same ∙ s.frames.stamp) in
      rw (is_there, more, q, equal) refl

  behind : (position h v ≡ d.frames.stamp → ⊥) → (position h v == newest h) ≡ false
  behind differs = elim (eqb_tells (position h v) (newest h)) [ inl q ↦ absurd (differs (q.1 ∙ sym s.frames.stamp)) | inr q ↦ q.0 ]

  pub waiting_is : (count : ℕ) → option_map (λ (w : Viewer). length w.waiting) (viewer_at d.book v) ≡ Some count → waiting h v ≡ count
  waiting_is count is = sym (told (λ (w : Viewer). length w.waiting) (viewer_at d.book v) seat.viewer count seat.found is ∙ ap length seat.seated.waiting)

  pub read_is_held : ended h v ≡ false → is_some d.cause ≡ false → (position h v ≡ d.frames.stamp → ⊥) → most_waiting < waiting h v → read_stop h v ≡ Some (Ok (Hold (waiting h v)))
  read_is_held more stays differs many =
      let q : is_closed h ≡ false = sym (shut_is d h s) ∙ stays in
      let held : nat_lt most_waiting (waiting h v) ≡ true = lt-ltb most_waiting (waiting h v) many in
      rw (is_there, more, q, behind differs, held) refl

  -- .. nor is it held
  not_held : waiting h v ≤ most_waiting → nat_lt most_waiting (waiting h v) ≡ false
  not_held few = le-ltb most_waiting (waiting h v) few

  pub read_is_worn : ended h v ≡ false → is_some d.cause ≡ false → (position h v ≡ d.frames.stamp → ⊥) → waiting h v ≤ most_waiting → nat_le d.setup.entries d.entries ≡ true → read_stop h v ≡ Some (Err (read_worn d.entries))
  read_is_worn more stays differs few full =
      let q : is_closed h ≡ false = sym (shut_is d h s) ∙ stays in
      let f : is_full h ≡ true = rw (sym s.setup.entries, sym s.entries) full in
      rw (is_there, more, q, behind differs, not_held few, f, s.entries) refl

  pub read_is_allowed : ended h v ≡ false → is_some d.cause ≡ false → (position h v ≡ d.frames.stamp → ⊥) → waiting h v ≤ most_waiting → nat_le d.setup.entries d.entries ≡ false → read_stop h v ≡ None
  read_is_allowed more stays differs few room =
      let q : is_closed h ≡ false = sym (shut_is d h s) ∙ stays in
      let f : is_full h ≡ false = rw (sym s.setup.entries, sym s.entries) room in
      rw (is_there, more, q, behind differs, not_held few, f) refl
