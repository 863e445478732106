-- What holds of every legal history: its stamps rise, and every viewer stands at one of them.
use Rattle.std.proofs.Common.{◌≡◌, ℕ, ◌<◌, ◌≤◌, List, [], ◌∷◌, ◌++◌, Bool, true, false, not, ◌&&◌, ◌||◌, ◌⊎◌, inl, inr, refl, ap, sym, ◌∙◌, subst, append_assoc, append-nil, arith}
use Rattle.gate_model.specs.declared.instr.Instr.{Instr}
use Rattle.gate_model.specs.declared.entry.Entry.{Entry}
use Rattle.gate_model.specs.session.Entries.{is_join, is_close, joins, leaves}
use Rattle.gate_model.specs.session.History.{History, newest, joined, is_closed}
use Rattle.gate_model.specs.session.Delivered.{last_sync_from, last_sync, delivered, position, closing, farewell, shown_by, closed_by, shown_to, farewell_to}
use Rattle.gate_model.specs.declared.cause.Cause.{Cause}
use Rattle.gate_model.specs.declared.cause.Cause.TheVariants.{ServerEnd, LinkFault, Stopped, Worn}
use Rattle.gate_model.specs.session.Rights.{is_live}
use Rattle.gate_model.proofs.Syncs.{last_sync-append}
use Rattle.gate_model.proofs.Stamps.{IsStamp, Stamps, AddsFrame as AddsStamp, AddsNoFrame, no_stamps, frame_stamps, kept_stamp, plain_stamps, stays_stamp, same_newest}

-- the session is open and has no closing instruction, or it is closed and has one
abbrev pub Closing : History → Type 0
Closing h = ((is_closed h ≡ false) × (closing h ≡ [])) ⊎ ((is_closed h ≡ true) × ((cause : Cause) × (closing h ≡ farewell cause ∷ [])))

-- the viewer wasn't given the closing instruction, or it was
abbrev pub Farewell : History → ℕ → Type 0
Farewell h v = (farewell_to h v ≡ []) ⊎ ((is_closed h ≡ true) × (farewell_to h v ≡ closing h))

pub record Facts (h : History) : Type 0 where
  pub stamps : Stamps h
  pub live_joined : (v : ℕ) → is_live h v ≡ true → v ≤ joined h
  pub not_joined : (v : ℕ) → joined h < v → delivered h v ≡ []
  pub split : (v : ℕ) → delivered h v ≡ shown_to h v ++ farewell_to h v
  pub place : (v : ℕ) → position h v ≡ last_sync (shown_to h v)
  -- a position is a stamp, and no newer one than the newest
  pub stand : (v : ℕ) → IsStamp h (position h v)
  pub within : (v : ℕ) → position h v ≤ newest h
  pub closed : Closing h
  pub farewells : (v : ℕ) → Farewell h v

pub no_facts : Facts []
no_facts = record {
  stamps = no_stamps;
  live_joined = λ v e. absurd (let f : false ≡ true = e in cc);
  not_joined = λ v lt. refl;
  split = λ v. refl;
  place = λ v. refl;
  stand = λ v. inl refl;
  within = λ v. omega arith;
  closed = inl (refl, refl);
  farewells = λ v. inl refl;
}

-- a closing instruction is no sync
farewell_is_no_sync : (cause : Cause) (s : ℕ) → last_sync_from s (farewell cause ∷ []) ≡ s
farewell_is_no_sync ServerEnd s = refl
farewell_is_no_sync LinkFault s = refl
farewell_is_no_sync Stopped s = refl
farewell_is_no_sync Worn s = refl

pub closing_stays : (h : History) → Closing h → (s : ℕ) → last_sync_from s (closing h) ≡ s
closing_stays h (inl p) s = ap (last_sync_from s) p.1
closing_stays h (inr p) s = ap (last_sync_from s) p.1.1 ∙ farewell_is_no_sync p.1.0 s

-- the closing instruction moves no position
pub bye_is_no_sync : (h : History) (v : ℕ) → Closing h → Farewell h v → (s : ℕ) → last_sync_from s (farewell_to h v) ≡ s
bye_is_no_sync h v c (inl none) s = ap (last_sync_from s) none
bye_is_no_sync h v (inl o) (inr p) s = absurd (let w : false ≡ true = sym o.0 ∙ p.0 in cc)
bye_is_no_sync h v (inr k) (inr p) s = ap (last_sync_from s) (p.1 ∙ k.1.1) ∙ farewell_is_no_sync k.1.0 s

-- what was given, but for the closing instruction, tells the position
place_of : (h : History) (v : ℕ) → delivered h v ≡ shown_to h v ++ farewell_to h v → Closing h → Farewell h v → position h v ≡ last_sync (shown_to h v)
place_of h v split c b = ap last_sync split ∙ (last_sync-append 0 (shown_to h v) (farewell_to h v) ∙ bye_is_no_sync h v c b (last_sync (shown_to h v)))

-- what an entry with a frame adds
pub record AddsFrame (g : History) (e : Entry) (cols rows t : ℕ) (frame : List Instr) : Type 0 where
  pub frame_adds : AddsStamp g e cols rows t frame
  pub shows_none : (u v : ℕ) → shown_by g u v e ≡ []
  pub bids_none : (v : ℕ) → closed_by g v e ≡ []
  pub no_join : is_join e ≡ false
  pub joins_none : (v : ℕ) → joins v e ≡ false
  pub leaves_none : (v : ℕ) → leaves v e ≡ false
  pub closes_not : closing (e ∷ g) ≡ closing g
  pub no_close : is_close e ≡ false

and_true : (b : Bool) → (false || (b && not false)) ≡ b
and_true true = refl
and_true false = refl

module _ (g : History) (e : Entry) (cols rows t : ℕ) (frame : List Instr) (f : Facts g) (a : AddsFrame g e cols rows t frame) where
  newest_is : newest (e ∷ g) ≡ t
  newest_is = rw a.frame_adds.stamp_is refl

  same_delivered : (v : ℕ) → delivered (e ∷ g) v ≡ delivered g v
  same_delivered v = rw (a.shows_none (position g v) v, a.bids_none v) (append-nil (delivered g v))

  same_shown : (v : ℕ) → shown_to (e ∷ g) v ≡ shown_to g v
  same_shown v = rw (a.shows_none (position g v) v) (append-nil (shown_to g v))

  same_farewell : (v : ℕ) → farewell_to (e ∷ g) v ≡ farewell_to g v
  same_farewell v = rw (a.bids_none v) (append-nil (farewell_to g v))

  same_closed : is_closed (e ∷ g) ≡ is_closed g
  same_closed = rw a.no_close refl

  closed_is : Closing (e ∷ g)
  closed_is = rw (same_closed, a.closes_not) f.closed

  farewell_is : (v : ℕ) → Farewell (e ∷ g) v
  farewell_is v = rw (same_farewell v, same_closed, a.closes_not) (f.farewells v)

  split_is : (v : ℕ) → delivered (e ∷ g) v ≡ shown_to (e ∷ g) v ++ farewell_to (e ∷ g) v
  split_is v = same_delivered v ∙ (f.split v ∙ (ap (λ (xs : List Instr). xs ++ farewell_to g v) (sym (same_shown v)) ∙ ap (λ (xs : List Instr). shown_to (e ∷ g) v ++ xs) (sym (same_farewell v))))

  joined_is : joined (e ∷ g) ≡ joined g
  joined_is = rw a.no_join refl

  live_is : (v : ℕ) → is_live (e ∷ g) v ≡ is_live g v
  live_is v = rw (a.joins_none v, a.leaves_none v) (and_true (is_live g v))

  same_position : (v : ℕ) → position (e ∷ g) v ≡ position g v
  same_position v = ap last_sync (same_delivered v)

  pub frame_facts : Facts (e ∷ g)
  frame_facts = record {
    stamps = frame_stamps g e cols rows t frame f.stamps a.frame_adds;
    live_joined = λ v q. rw joined_is (f.live_joined v (sym (live_is v) ∙ q));
    not_joined = λ v lt. same_delivered v ∙ f.not_joined v (subst (λ (n : ℕ). n < v) joined_is lt);
    split = split_is;
    place = λ v. place_of (e ∷ g) v (split_is v) closed_is (farewell_is v);
    stand = λ v. subst (λ (s : ℕ). IsStamp (e ∷ g) s) (sym (same_position v)) (kept_stamp g e cols rows t frame f.stamps a.frame_adds (position g v) (f.stand v));
    within = λ v. rw (same_position v, newest_is) (omega (arith, f.within v, a.frame_adds.rises));
    closed = closed_is;
    farewells = farewell_is;
  }

-- an entry gives a viewer nothing
pub record GivesNothing (g : History) (v : ℕ) (e : Entry) : Type 0 where
  pub shown : shown_by g (position g v) v e ≡ []
  pub bids : closed_by g v e ≡ []

-- .. or brings it to the newest stamp, and gives it the closing instruction of a closed session
pub record GivesNewest (g : History) (v : ℕ) (e : Entry) : Type 0 where
  pub before : farewell_to g v ≡ []
  pub syncs : last_sync_from (position g v) (shown_by g (position g v) v e) ≡ newest g
  pub bids : (closed_by g v e ≡ []) ⊎ (closed_by g v e ≡ closing g)

abbrev pub Gives : History → ℕ → Entry → Type 0
Gives g v e = GivesNothing g v e ⊎ GivesNewest g v e

-- what an entry without a frame adds
pub record AddsPlain (g : History) (e : Entry) : Type 0 where
  pub plain_adds : AddsNoFrame e
  pub gives : (v : ℕ) → Gives g v e
  pub gives_none : (v : ℕ) → joined (e ∷ g) < v → GivesNothing g v e
  pub joins_more : joined g ≤ joined (e ∷ g)
  pub live : (v : ℕ) → is_live (e ∷ g) v ≡ true → v ≤ joined (e ∷ g)
  -- the session stays as it is, or it closes and nobody has the closing instruction yet
  pub closes : ((is_closed (e ∷ g) ≡ is_closed g) × (closing (e ∷ g) ≡ closing g)) ⊎ ((is_closed g ≡ false) × Closing (e ∷ g))

module _ (g : History) (e : Entry) (f : Facts g) (a : AddsPlain g e) where
  now_newest : newest (e ∷ g) ≡ newest g
  now_newest = same_newest g e a.plain_adds

  closed_now : Closing (e ∷ g)
  closed_now = elim a.closes as (λ _. Closing (e ∷ g)) [ inl p ↦ rw (p.0, p.1) f.closed | inr p ↦ p.1 ]

  -- nothing more to a viewer that has the closing instruction, or hasn't
  still_farewell : (v : ℕ) → Farewell g v → Farewell (e ∷ g) v ⊎ (farewell_to g v ≡ []) → Farewell (e ∷ g) v
  still_farewell v b (inl q) = q
  still_farewell v b (inr none) = b-none v none
    where
      b-none : (v : ℕ) → farewell_to g v ≡ [] → Farewell (e ∷ g) v
      b-none v none = elim (a.gives v) as (λ _. Farewell (e ∷ g) v) [
        | inl n ↦ inl (rw (n.bids) (append-nil (farewell_to g v) ∙ none))
        | inr k ↦ bids v none k.bids
      ]
        where
          bids : (v : ℕ) → farewell_to g v ≡ [] → (closed_by g v e ≡ []) ⊎ (closed_by g v e ≡ closing g) → Farewell (e ∷ g) v
          bids v none (inl q) = inl (rw (none, q) refl)
          bids v none (inr q) = elim a.closes as (λ _. Farewell (e ∷ g) v) [
            | inl p ↦ by_state v none q p f.closed
            | inr p ↦ inl (rw (none, q) (closing_of_open p.0 f.closed))
          ]
            where
              closing_of_open : is_closed g ≡ false → Closing g → closing g ≡ []
              closing_of_open o (inl k) = k.1
              closing_of_open o (inr k) = absurd (let w : false ≡ true = sym o ∙ k.0 in cc)

              by_state : (v : ℕ) → farewell_to g v ≡ [] → closed_by g v e ≡ closing g → (is_closed (e ∷ g) ≡ is_closed g) × (closing (e ∷ g) ≡ closing g) → Closing g → Farewell (e ∷ g) v
              by_state v none q p (inl k) = inl (rw (none, q) k.1)
              by_state v none q p (inr k) = inr (p.0 ∙ k.0, rw (none, q) (sym p.1))

  farewell_now : (v : ℕ) → Farewell (e ∷ g) v
  farewell_now v = elim (f.farewells v) as (λ _. Farewell (e ∷ g) v) [
    | inl none ↦ still_farewell v (inl none) (inr none)
    | inr p ↦ keeps v p (a.gives v)
  ]
    where
      keeps : (v : ℕ) → (is_closed g ≡ true) × (farewell_to g v ≡ closing g) → Gives g v e → Farewell (e ∷ g) v
      keeps v p (inr k) = still_farewell v (inl k.before) (inr k.before)
      keeps v p (inl n) = elim a.closes as (λ _. Farewell (e ∷ g) v) [
        | inl q ↦ inr (q.0 ∙ p.0, rw (n.bids) (append-nil (farewell_to g v) ∙ (p.1 ∙ sym q.1)))
        | inr q ↦ absurd (let w : false ≡ true = sym q.0 ∙ p.0 in cc)
      ]

  split_now : (v : ℕ) → Gives g v e → delivered (e ∷ g) v ≡ shown_to (e ∷ g) v ++ farewell_to (e ∷ g) v
  split_now v (inl n) = rw (n.shown, n.bids) (append-nil (delivered g v) ∙ (f.split v ∙ (ap (λ (xs : List Instr). xs ++ farewell_to g v) (sym (append-nil (shown_to g v))) ∙ ap (λ (xs : List Instr). (shown_to g v ++ []) ++ xs) (sym (append-nil (farewell_to g v))))))
  split_now v (inr k) =
      let s : List Instr = shown_by g (position g v) v e in
      let c : List Instr = closed_by g v e in
      let plain : delivered g v ≡ shown_to g v = f.split v ∙ (ap (λ (xs : List Instr). shown_to g v ++ xs) k.before ∙ append-nil (shown_to g v)) in
      ap (λ (xs : List Instr). xs ++ (s ++ c)) plain ∙ (sym (append_assoc (shown_to g v) s c) ∙ ap (λ (xs : List Instr). (shown_to g v ++ s) ++ (xs ++ c)) (sym k.before))

  place_now : (v : ℕ) → position (e ∷ g) v ≡ last_sync (shown_to (e ∷ g) v)
  place_now v = place_of (e ∷ g) v (split_now v (a.gives v)) closed_now (farewell_now v)

  stand_now : (v : ℕ) → Gives g v e → IsStamp (e ∷ g) (position (e ∷ g) v) × (position (e ∷ g) v ≤ newest g)
  stand_now v (inl n) =
      let shown : shown_to (e ∷ g) v ≡ shown_to g v = rw (n.shown) (append-nil (shown_to g v)) in
      let same : position (e ∷ g) v ≡ position g v = place_now v ∙ (ap last_sync shown ∙ sym (f.place v)) in
      (subst (λ (s : ℕ). IsStamp (e ∷ g) s) (sym same) (stays_stamp g e a.plain_adds (position g v) (f.stand v)), omega (arith, same, f.within v))
  stand_now v (inr k) =
      let same : position (e ∷ g) v ≡ newest g = place_now v ∙ (last_sync-append 0 (shown_to g v) (shown_by g (position g v) v e) ∙ (ap (λ (s : ℕ). last_sync_from s (shown_by g (position g v) v e)) (sym (f.place v)) ∙ k.syncs)) in
      (subst (λ (s : ℕ). IsStamp (e ∷ g) s) (sym same) (stays_stamp g e a.plain_adds (newest g) f.stamps.newly), omega (arith, same))

  pub plain_facts : Facts (e ∷ g)
  plain_facts = record {
    stamps = plain_stamps g e a.plain_adds f.stamps;
    live_joined = a.live;
    not_joined = λ v lt. let n = a.gives_none v lt in rw (n.shown, n.bids) (append-nil (delivered g v) ∙ f.not_joined v (omega (arith, a.joins_more, lt)));
    split = λ v. split_now v (a.gives v);
    place = place_now;
    stand = λ v. (stand_now v (a.gives v)).0;
    within = λ v. rw now_newest (stand_now v (a.gives v)).1;
    closed = closed_now;
    farewells = farewell_now;
  }
