-- A legal history whose joins and own reads restore, and whose layers keep their sizes, is whole to every viewer.
use Rattle.std.proofs.Common.{◌≡◌, ℕ, List, [], ◌∷◌, ◌++◌, Bool, true, false, ◌||◌, ◌⊎◌, inl, inr, refl, ap, sym, ◌∙◌, subst, append_assoc, append-nil, arith}
use Rattle.std.specs.Prelude.{None, ◌==◌}
use Rattle.std.proofs.lemmas.Grind.{flat_map-append}
use Rattle.std.proofs.lemmas.Bool.{eq-eqb}
use Rattle.std.proofs.lemmas.Bool.Decides.{eqb_tells}
use Rattle.gate_model.specs.declared.cause.Cause.{Cause}
use Rattle.gate_model.specs.declared.cause.Cause.TheVariants.{ServerEnd, LinkFault, Stopped, Worn}
use Rattle.gate_model.specs.declared.how.How.{How}
use Rattle.gate_model.specs.declared.how.How.TheVariants.{Suffix, Fresh}
use Rattle.gate_model.specs.declared.instr.Instr.{Instr}
use Rattle.gate_model.specs.declared.instr.Instr.TheVariants.{Sync}
use Rattle.gate_model.specs.declared.entry.Entry.{Entry}
use Rattle.gate_model.specs.declared.entry.Entry.TheVariants.{Start, Feed, Size, Join, Read, Write, Take, Leave, Close}
use Rattle.gate_model.specs.Sequences.{BeginsWith}
use Rattle.gate_model.specs.picture.KeyGrid.{KeyGrid}
use Rattle.gate_model.specs.picture.Layers.{Layer, Layers, HasNoPaths, IsAlike, Same, ShowsPicture, draw, nothing, visible}
use Rattle.gate_model.specs.picture.Buffers.{IsWithin}
use Rattle.gate_model.specs.terminal.Screens.{shown}
use Rattle.gate_model.specs.picture.Shape.{Shape}
use Rattle.gate_model.specs.session.Entries.{framed, stamp_of}
use Rattle.gate_model.specs.session.History.{History, at, frames, frames_after, instructions, all_frames, newest, next_stamp, upto, has_stamp, has_entry_at}
use Rattle.gate_model.specs.session.Delivered.{last_sync_from, last_sync, delivered, position, closing, farewell, given}
use Rattle.gate_model.specs.declared.setup.Setup.{Setup}
use Rattle.gate_model.specs.session.Calls.{Updates}
use Rattle.gate_model.specs.session.Steps.{StartStep, Legal}
use Rattle.gate_model.proofs.Added.{Joins, Reads, IsNext, next}
use Rattle.gate_model.specs.session.Truth.{AllDrawn, Faithful, all_layers}
use Rattle.gate_model.specs.session.Whole.{Restores, AllRestoring, IsRestoring, AllGrowing, IsWholeAt, Whole}
use Rattle.gate_model.proofs.Drawing.{draw-append}
use Rattle.gate_model.proofs.Fronts.{front_cases}
use Rattle.gate_model.proofs.Syncs.{last_sync-body, last_sync-append, sync_is_last}
use Rattle.gate_model.proofs.Alike.{AreEven, AreShaped, even-frame, even-frames, even-front, even-nothing, shaped-after}
use Rattle.gate_model.proofs.Stamps.{Stamps, AddsFrame, AddsNoFrame, kept_upto, kept_entry, rest_syncs, same_entry_at, same_upto}
use Rattle.gate_model.proofs.Facts.{Facts, no_facts}
use Rattle.gate_model.proofs.Truth.{facts_of}

-- nothing, or a closing instruction
abbrev IsQuiet : List Instr → Type 0
IsQuiet cs = (cs ≡ []) ⊎ ((cause : Cause) × (cs ≡ farewell cause ∷ []))

farewell_draws : (m : Layers) (cause : Cause) → draw m (farewell cause ∷ []) ≡ m
farewell_draws m ServerEnd = refl
farewell_draws m LinkFault = refl
farewell_draws m Stopped = refl
farewell_draws m Worn = refl

farewell_syncs : (s : ℕ) (cause : Cause) → last_sync_from s (farewell cause ∷ []) ≡ s
farewell_syncs s ServerEnd = refl
farewell_syncs s LinkFault = refl
farewell_syncs s Stopped = refl
farewell_syncs s Worn = refl

quiet_draws : (m : Layers) (cs : List Instr) → IsQuiet cs → draw m cs ≡ m
quiet_draws m cs (inl e) = ap (draw m) e
quiet_draws m cs (inr q) = ap (draw m) q.1 ∙ farewell_draws m q.0

quiet_syncs : (s : ℕ) (cs : List Instr) → IsQuiet cs → last_sync_from s cs ≡ s
quiet_syncs s cs (inl e) = ap (last_sync_from s) e
quiet_syncs s cs (inr q) = ap (last_sync_from s) q.1 ∙ farewell_syncs s q.0

nothing_begins : (t : ℕ) (front rest : List Instr) → [] ≡ (front ++ Sync t ∷ []) ++ rest → ⊥
nothing_begins t [] rest e = cc
nothing_begins t (x ∷ front) rest e = cc

farewell_begins : (cause : Cause) (t : ℕ) (front rest : List Instr) → farewell cause ∷ [] ≡ (front ++ Sync t ∷ []) ++ rest → ⊥
farewell_begins ServerEnd t [] rest e = cc
farewell_begins LinkFault t [] rest e = cc
farewell_begins Stopped t [] rest e = cc
farewell_begins Worn t [] rest e = cc
farewell_begins cause t (x ∷ front) rest e = nothing_begins t front rest (let w : farewell cause ∷ [] ≡ x ∷ ((front ++ Sync t ∷ []) ++ rest) = e in cc)

quiet_begins : (cs front : List Instr) (t : ℕ) → IsQuiet cs → BeginsWith cs (front ++ Sync t ∷ []) → ⊥
quiet_begins cs front t (inl e) b = nothing_begins t front b.0 (sym e ∙ b.1)
quiet_begins cs front t (inr q) b = farewell_begins q.0 t front b.0 (sym q.1 ∙ b.1)

closing_is_quiet : (h : History) → IsQuiet (closing h)
closing_is_quiet [] = inl refl
closing_is_quiet (Start cols rows mode term faces entries stamp frame ∷ g) = closing_is_quiet g
closing_is_quiet (Feed bytes stamp frame ∷ g) = closing_is_quiet g
closing_is_quiet (Size viewer cols rows stamp frame ∷ g) = closing_is_quiet g
closing_is_quiet (Join viewer role first ∷ g) = closing_is_quiet g
closing_is_quiet (Read viewer how ∷ g) = closing_is_quiet g
closing_is_quiet (Write viewer acts ∷ g) = closing_is_quiet g
closing_is_quiet (Take count ∷ g) = closing_is_quiet g
closing_is_quiet (Leave viewer ∷ g) = closing_is_quiet g
closing_is_quiet (Close cause ∷ g) = inr (cause, refl)

-- growth: the layers up to a stamp have only sizes that the later ones have
within_upto : (h : History) (t : ℕ) → AllGrowing h → IsWithin (all_layers (upto h t)) (all_layers h)
within_upto [] t d = λ k w y. (w, y)
within_upto (e ∷ g) t d = cases (has_stamp t (stamp_of e)) refl (within_upto g t d.0)
  where
    cases : (b : Bool) → has_stamp t (stamp_of e) ≡ b → IsWithin (all_layers (upto g t)) (all_layers g) → IsWithin (all_layers (upto (e ∷ g) t)) (all_layers (e ∷ g))
    cases true is older = let whole : upto (e ∷ g) t ≡ e ∷ g = rw is refl in subst (λ (h : History). IsWithin (all_layers h) (all_layers (e ∷ g))) (sym whole) (λ k w y. (w, y))
    cases false is older =
        let part : upto (e ∷ g) t ≡ upto g t = rw is refl in
        subst (λ (h : History). IsWithin (all_layers h) (all_layers (e ∷ g))) (sym part) (λ k w y. let n = d.1 k w y in older k n.0 n.1)

-- each viewer's fronts are whole
abbrev pub AllGiven : History → Type 0
AllGiven h = (v t : ℕ) (front : List Instr) → BeginsWith (delivered h v) (front ++ Sync t ∷ []) → IsWholeAt h front t

-- what holds of every viewer of a history
pub record Course (h : History) : Type 0 where
  pub facts : Facts h
  pub even : (v : ℕ) → AreEven (draw nothing (delivered h v)) (all_layers (upto h (position h v)))
  pub given : AllGiven h

no_course : Course []
no_course = record {
  facts = no_facts;
  even = λ v. even-nothing;
  given = λ v t front b. absurd (nothing_begins t front b.0 b.1);
}

-- all frames leave no path open
all_shut : (h : History) → Stamps h → HasNoPaths (all_layers h)
all_shut h f = (even-frames (frames h) f.shaped nothing nothing even-nothing).first_shut

-- an entry with a frame
module _ (g : History) (e : Entry) (cols rows t : ℕ) (frame : List Instr) (c : Course g) (a : AddsFrame g e cols rows t frame) (f : Facts (e ∷ g)) (none : (v : ℕ) → given g (delivered g v) v e ≡ []) where
  same_given : (v : ℕ) → delivered (e ∷ g) v ≡ delivered g v
  same_given v = ap (λ (xs : List Instr). delivered g v ++ xs) (none v) ∙ append-nil (delivered g v)

  same_place : (v : ℕ) → position (e ∷ g) v ≡ position g v
  same_place v = ap last_sync (same_given v)

  frame_even : (v : ℕ) → AreEven (draw nothing (delivered (e ∷ g) v)) (all_layers (upto (e ∷ g) (position (e ∷ g) v)))
  frame_even v =
      let place : upto (e ∷ g) (position (e ∷ g) v) ≡ upto g (position g v) = ap (upto (e ∷ g)) (same_place v) ∙ kept_upto g e cols rows t frame c.facts.stamps a (position g v) (c.facts.stand v) in
      subst (λ (h : History). AreEven (draw nothing (delivered (e ∷ g) v)) (all_layers h)) (sym place) (subst (λ (xs : List Instr). AreEven (draw nothing xs) (all_layers (upto g (position g v)))) (sym (same_given v)) (c.even v))

  frame_whole : AllGiven (e ∷ g)
  frame_whole v s front b =
      let old = c.given v s front (subst (λ (xs : List Instr). BeginsWith xs (front ++ Sync s ∷ [])) (same_given v) b) in
      record {
        stamped = kept_entry g e cols rows t frame c.facts.stamps a s old.stamped;
        same = subst (λ (h : History). Same (draw nothing (front ++ Sync s ∷ [])) (all_layers h)) (sym (kept_upto g e cols rows t frame c.facts.stamps a s (inr old.stamped))) old.same;
      }

  frame_course : Course (e ∷ g)
  frame_course = record {
    facts = f;
    even = frame_even;
    given = frame_whole;
  }

-- an entry gives a viewer a list that restores ..
record GivesWhole (g : History) (v : ℕ) (e : Entry) : Type 0 where
  cols : ℕ
  rows : ℕ
  is : List Instr
  quiet : List Instr
  given_is : given g (delivered g v) v e ≡ is ++ quiet
  is_quiet : IsQuiet quiet
  shape : Shape cols rows is (newest g)
  restores : Restores g is

-- .. or the frames that it lacks
record GivesRest (g : History) (v : ℕ) (e : Entry) : Type 0 where
  quiet : List Instr
  given_is : given g (delivered g v) v e ≡ instructions (frames_after (position g v) (frames g)) ++ quiet
  is_quiet : IsQuiet quiet

abbrev Gives : History → ℕ → Entry → Type 0
Gives g v e = (given g (delivered g v) v e ≡ []) ⊎ (GivesWhole g v e ⊎ GivesRest g v e)

-- what one viewer has of Course after the entry
record Follows (g : History) (e : Entry) (v : ℕ) : Type 0 where
  even : AreEven (draw nothing (delivered (e ∷ g) v)) (all_layers (upto (e ∷ g) (position (e ∷ g) v)))
  whole : (t : ℕ) (front : List Instr) → BeginsWith (delivered (e ∷ g) v) (front ++ Sync t ∷ []) → IsWholeAt (e ∷ g) front t

-- an entry without a frame
module _ (g : History) (e : Entry) (c : Course g) (a : AddsNoFrame e) (f : Facts (e ∷ g)) (growing : AllGrowing g) (some : has_entry_at g (newest g) ≡ true) where
  all_newest : all_frames (upto g (newest g)) ≡ all_frames g
  all_newest =
      let none : frames_after (newest g) (frames g) ≡ [] = c.facts.stamps.none_after (newest g) (omega arith) in
      let parts : frames g ≡ frames (upto g (newest g)) ++ frames_after (newest g) (frames g) = c.facts.stamps.since (newest g) (inr some) in
      ap instructions (sym (append-nil (frames (upto g (newest g)))) ∙ (ap (λ (xs : List (ℕ × List Instr)). frames (upto g (newest g)) ++ xs) (sym none) ∙ sym parts))

  whole_now : (front : List Instr) (t : ℕ) → IsWholeAt g front t → IsWholeAt (e ∷ g) front t
  whole_now front t w = record {
    stamped = same_entry_at g e a t ∙ w.stamped;
    same = subst (λ (h : History). Same (draw nothing (front ++ Sync t ∷ [])) (all_layers h)) (sym (same_upto g e a t)) w.same;
  }

  -- the place after the entry is the newest stamp
  newest_layers : (v : ℕ) → position (e ∷ g) v ≡ newest g → all_layers (upto (e ∷ g) (position (e ∷ g) v)) ≡ all_layers g
  newest_layers v at_newest = ap (λ (s : ℕ). all_layers (upto (e ∷ g) s)) at_newest ∙ (ap all_layers (same_upto g e a (newest g)) ∙ ap (draw nothing) all_newest)

  gives_nothing : (v : ℕ) → given g (delivered g v) v e ≡ [] → Follows g e v
  gives_nothing v none =
      let same : delivered (e ∷ g) v ≡ delivered g v = ap (λ (xs : List Instr). delivered g v ++ xs) none ∙ append-nil (delivered g v) in
      let place : position (e ∷ g) v ≡ position g v = ap last_sync same in
      let entries : upto (e ∷ g) (position (e ∷ g) v) ≡ upto g (position g v) = ap (upto (e ∷ g)) place ∙ same_upto g e a (position g v) in
      record {
        even = subst (λ (h : History). AreEven (draw nothing (delivered (e ∷ g) v)) (all_layers h)) (sym entries) (subst (λ (xs : List Instr). AreEven (draw nothing xs) (all_layers (upto g (position g v)))) (sym same) (c.even v));
        whole = λ t front b. whole_now front t (c.given v t front (subst (λ (xs : List Instr). BeginsWith xs (front ++ Sync t ∷ [])) same b));
      }

  -- a front of what was given before, of the new list, or of nothing
  fronts : (v : ℕ) (is quiet : List Instr) → given g (delivered g v) v e ≡ is ++ quiet → IsQuiet quiet
      → ((t : ℕ) (more : List Instr) → BeginsWith is (more ++ Sync t ∷ []) → IsWholeAt (e ∷ g) (delivered g v ++ more) t)
      → (t : ℕ) (front : List Instr) → BeginsWith (delivered (e ∷ g) v) (front ++ Sync t ∷ []) → IsWholeAt (e ∷ g) front t
  fronts v is quiet given_is is_quiet news t front b =
      let parts : delivered (e ∷ g) v ≡ delivered g v ++ (is ++ quiet) = ap (λ (xs : List Instr). delivered g v ++ xs) given_is in
      elim (front_cases (delivered g v) (is ++ quiet) front (Sync t) (b.0, sym parts ∙ b.1)) as (λ _. IsWholeAt (e ∷ g) front t) [
        | inl p ↦ whole_now front t (c.given v t front p)
        | inr p ↦ subst (λ (xs : List Instr). IsWholeAt (e ∷ g) xs t) (sym p.1) (new_front p.0 p.2)
      ]
    where
      new_front : (more : List Instr) → BeginsWith (is ++ quiet) (more ++ Sync t ∷ []) → IsWholeAt (e ∷ g) (delivered g v ++ more) t
      new_front more q = elim (front_cases is quiet more (Sync t) q) as (λ _. IsWholeAt (e ∷ g) (delivered g v ++ more) t) [
        | inl r ↦ news t more r
        | inr r ↦ absurd (quiet_begins quiet r.0 t is_quiet r.2)
      ]

  -- what was given and then a list and a closing instruction draw
  draws_on : (v : ℕ) (is quiet : List Instr) → given g (delivered g v) v e ≡ is ++ quiet → IsQuiet quiet → draw nothing (delivered (e ∷ g) v) ≡ draw (draw nothing (delivered g v)) is
  draws_on v is quiet given_is is_quiet =
      ap (λ (xs : List Instr). draw nothing (delivered g v ++ xs)) given_is
      ∙ (draw-append nothing (delivered g v) (is ++ quiet)
      ∙ (draw-append (draw nothing (delivered g v)) is quiet
      ∙ quiet_draws (draw (draw nothing (delivered g v)) is) quiet is_quiet))

  syncs_on : (v : ℕ) (is quiet : List Instr) → given g (delivered g v) v e ≡ is ++ quiet → IsQuiet quiet → position (e ∷ g) v ≡ last_sync_from (position g v) is
  syncs_on v is quiet given_is is_quiet =
      ap (λ (xs : List Instr). last_sync (delivered g v ++ xs)) given_is
      ∙ (last_sync-append 0 (delivered g v) (is ++ quiet)
      ∙ (last_sync-append (position g v) is quiet
      ∙ quiet_syncs (last_sync_from (position g v) is) quiet is_quiet))

  gives_whole : (v : ℕ) → GivesWhole g v e → Follows g e v
  gives_whole v w =
      let m : Layers = draw nothing (delivered g v) in
      let sizes : IsWithin m (all_layers g) = λ k x y. let l = (c.even v).same k in let n = within_upto g (position g v) growing k x y in (l.width ∙ n.0, l.height ∙ n.1) in
      let same : Same (draw m w.is) (all_layers g) = w.restores m (c.even v).first_shut sizes in
      let shut : HasNoPaths (draw m w.is) = (even-frame w.cols w.rows (newest g) w.is m m w.shape record { same = λ k. record { width = refl; height = refl; pixels = λ x y low high. refl }; first_shut = (c.even v).first_shut; second_shut = (c.even v).first_shut }).first_shut in
      let at_newest : position (e ∷ g) v ≡ newest g = syncs_on v w.is w.quiet w.given_is w.is_quiet ∙ (ap (last_sync_from (position g v)) w.shape.ends ∙ last_sync-body w.cols w.rows [] w.shape.body (newest g) (position g v) w.shape.body_draws) in
      let level : AreEven (draw m w.is) (all_layers g) = record { same = same; first_shut = shut; second_shut = all_shut g c.facts.stamps } in
      record {
        even = subst (λ (n : Layers). AreEven (draw nothing (delivered (e ∷ g) v)) n) (sym (newest_layers v at_newest)) (subst (λ (l : Layers). AreEven l (all_layers g)) (sym (draws_on v w.is w.quiet w.given_is w.is_quiet)) level);
        whole = fronts v w.is w.quiet w.given_is w.is_quiet (λ t more b. news same t more b);
      }
    where
      news : Same (draw (draw nothing (delivered g v)) w.is) (all_layers g) → (t : ℕ) (more : List Instr) → BeginsWith w.is (more ++ Sync t ∷ []) → IsWholeAt (e ∷ g) (delivered g v ++ more) t
      news same t more b =
          let q = sync_is_last w.cols w.rows [] w.shape.body more t (newest g) w.shape.body_draws (b.0, sym w.shape.ends ∙ b.1) in
          let all : more ++ Sync t ∷ [] ≡ w.is = ap (λ (xs : List Instr). xs ++ Sync t ∷ []) q.0 ∙ (ap (λ (u : ℕ). w.shape.body ++ Sync u ∷ []) q.1 ∙ sym w.shape.ends) in
          let drawn : draw nothing ((delivered g v ++ more) ++ Sync t ∷ []) ≡ draw (draw nothing (delivered g v)) w.is = ap (draw nothing) (append_assoc (delivered g v) more (Sync t ∷ [])) ∙ (draw-append nothing (delivered g v) (more ++ Sync t ∷ []) ∙ ap (draw (draw nothing (delivered g v))) all) in
          let there : has_entry_at g t ≡ true = subst (λ (s : ℕ). has_entry_at g s ≡ true) (sym q.1) some in
          let layers : all_layers (upto g t) ≡ all_layers g = ap (λ (s : ℕ). all_layers (upto g s)) q.1 ∙ ap (draw nothing) all_newest in
          whole_now (delivered g v ++ more) t record {
            stamped = there;
            same = subst (λ (n : Layers). Same (draw nothing ((delivered g v ++ more) ++ Sync t ∷ [])) n) (sym layers) (subst (λ (l : Layers). Same l (all_layers g)) (sym drawn) same);
          }

  gives_rest : (v : ℕ) → GivesRest g v e → Follows g e v
  gives_rest v w =
      let parts : all_frames g ≡ all_frames (upto g (position g v)) ++ instructions (frames_after (position g v) (frames g)) = ap instructions (c.facts.stamps.since (position g v) (c.facts.stand v)) ∙ flat_map-append (λ (p : ℕ × List Instr). p.1) (frames (upto g (position g v))) (frames_after (position g v) (frames g)) in
      let shaped : AreShaped (frames_after (position g v) (frames g)) = shaped-after (position g v) (frames g) c.facts.stamps.shaped in
      let at_newest : position (e ∷ g) v ≡ newest g = syncs_on v (instructions (frames_after (position g v) (frames g))) w.quiet w.given_is w.is_quiet ∙ rest_syncs g c.facts.stamps (position g v) (c.facts.stand v) in
      let level : AreEven (draw (draw nothing (delivered g v)) (instructions (frames_after (position g v) (frames g)))) (draw (all_layers (upto g (position g v))) (instructions (frames_after (position g v) (frames g)))) = even-frames (frames_after (position g v) (frames g)) shaped (draw nothing (delivered g v)) (all_layers (upto g (position g v))) (c.even v) in
      let all : draw (all_layers (upto g (position g v))) (instructions (frames_after (position g v) (frames g))) ≡ all_layers g = sym (draw-append nothing (all_frames (upto g (position g v))) (instructions (frames_after (position g v) (frames g)))) ∙ ap (draw nothing) (sym parts) in
      record {
        even = subst (λ (n : Layers). AreEven (draw nothing (delivered (e ∷ g) v)) n) (all ∙ sym (newest_layers v at_newest)) (subst (λ (l : Layers). AreEven l (draw (all_layers (upto g (position g v))) (instructions (frames_after (position g v) (frames g))))) (sym (draws_on v (instructions (frames_after (position g v) (frames g))) w.quiet w.given_is w.is_quiet)) level);
        whole = fronts v (instructions (frames_after (position g v) (frames g))) w.quiet w.given_is w.is_quiet (λ t more b. news parts shaped t more b);
      }
    where
      news : all_frames g ≡ all_frames (upto g (position g v)) ++ instructions (frames_after (position g v) (frames g)) → AreShaped (frames_after (position g v) (frames g)) → (t : ℕ) (more : List Instr) → BeginsWith (instructions (frames_after (position g v) (frames g))) (more ++ Sync t ∷ []) → IsWholeAt (e ∷ g) (delivered g v ++ more) t
      news parts shaped t more b =
          let begins : all_frames g ≡ ((all_frames (upto g (position g v)) ++ more) ++ Sync t ∷ []) ++ b.0 =
          parts
          ∙ (ap (λ (xs : List Instr). all_frames (upto g (position g v)) ++ xs) b.1
          ∙ (sym (append_assoc (all_frames (upto g (position g v))) (more ++ Sync t ∷ []) b.0)
          ∙ ap (λ (xs : List Instr). xs ++ b.0) (sym (append_assoc (all_frames (upto g (position g v))) more (Sync t ∷ []))))) in
          let cut = c.facts.stamps.cut t (all_frames (upto g (position g v)) ++ more) (b.0, begins) in
          let level : AreEven (draw (draw nothing (delivered g v)) (more ++ Sync t ∷ [])) (draw (all_layers (upto g (position g v))) (more ++ Sync t ∷ [])) = even-front (frames_after (position g v) (frames g)) shaped (draw nothing (delivered g v)) (all_layers (upto g (position g v))) (c.even v) more t b in
          let mine : draw nothing ((delivered g v ++ more) ++ Sync t ∷ []) ≡ draw (draw nothing (delivered g v)) (more ++ Sync t ∷ []) = ap (draw nothing) (append_assoc (delivered g v) more (Sync t ∷ [])) ∙ draw-append nothing (delivered g v) (more ++ Sync t ∷ []) in
          let all : draw (all_layers (upto g (position g v))) (more ++ Sync t ∷ []) ≡ all_layers (upto g t) = sym (draw-append nothing (all_frames (upto g (position g v))) (more ++ Sync t ∷ [])) ∙ (ap (draw nothing) (sym (append_assoc (all_frames (upto g (position g v))) more (Sync t ∷ []))) ∙ ap (draw nothing) cut.1) in
          whole_now (delivered g v ++ more) t record {
            stamped = cut.0;
            same = subst (λ (n : Layers). Same (draw nothing ((delivered g v ++ more) ++ Sync t ∷ [])) n) all (subst (λ (l : Layers). Same l (draw (all_layers (upto g (position g v))) (more ++ Sync t ∷ []))) (sym mine) level.same);
          }

  follows : (v : ℕ) → Gives g v e → Follows g e v
  follows v (inl none) = gives_nothing v none
  follows v (inr (inl w)) = gives_whole v w
  follows v (inr (inr w)) = gives_rest v w

  plain_course : ((v : ℕ) → Gives g v e) → Course (e ∷ g)
  plain_course gives = record {
    facts = f;
    even = λ v. (follows v (gives v)).even;
    given = λ v. (follows v (gives v)).whole;
  }

-- a legal history has an entry with its newest stamp
newest_next : (g : History) (e : Entry) → IsNext g e → has_entry_at g (newest g) ≡ true → has_entry_at (e ∷ g) (newest (e ∷ g)) ≡ true
newest_next g (Feed bytes stamp frame) n there = rw (eq-eqb stamp stamp refl) refl
newest_next g (Size viewer cols rows stamp frame) n there = rw (eq-eqb stamp stamp refl) refl
newest_next g (Join viewer role first) n there = there
newest_next g (Read viewer how) n there = there
newest_next g (Write viewer acts) n there = there
newest_next g (Take count) n there = there
newest_next g (Leave viewer) n there = there
newest_next g (Close cause) n there = there
newest_next g (Start cols rows mode term faces entries stamp frame) n there = absurd n

newest_there : (h : History) → Legal h → has_entry_at h (newest h) ≡ true
newest_there [] l = absurd l
newest_there (e ∷ []) l = subst (λ (x : Entry). has_entry_at (x ∷ []) (newest (x ∷ [])) ≡ true) (sym l.2.4) (rw (eq-eqb (next_stamp 0 l.1) (next_stamp 0 l.1) refl) refl)
newest_there (e ∷ f ∷ g) l = newest_next (f ∷ g) e (next e f g l) (newest_there (f ∷ g) l.0)

join_gives : (g : History) (viewer : ℕ) (role : _) (first : List Instr) → Joins g viewer role first → Restores g first → (v : ℕ) → Gives g v (Join viewer role first)
join_gives g viewer role first s r v = elim (eqb_tells viewer v) as (λ _. Gives g v (Join viewer role first)) [
  | inl p ↦ inr (inl record { cols = _; rows = _; is = first; quiet = []; given_is = rw p.0 refl; is_quiet = inl refl; shape = s.shape; restores = r })
  | inr p ↦ inl (rw p.0 refl)
]

read_gives : (g : History) (viewer : ℕ) (how : How) → Reads g viewer how → IsRestoring g (Read viewer how) → (v : ℕ) → Gives g v (Read viewer how)
read_gives g viewer how s r v = elim (eqb_tells viewer v) as (λ _. Gives g v (Read viewer how)) [
  | inl p ↦ inr (by_how how p.0 s.updates r)
  | inr p ↦ inl (rw p.0 refl)
]
  where
    by_how : (how : How) → (viewer == v) ≡ true → Updates g (position g viewer) how → IsRestoring g (Read viewer how) → GivesWhole g v (Read viewer how) ⊎ GivesRest g v (Read viewer how)
    by_how Suffix q u r = inr record { quiet = closing g; given_is = rw q refl; is_quiet = closing_is_quiet g }
    by_how (Fresh is) q u r = inl record { cols = _; rows = _; is = is; quiet = closing g; given_is = rw q refl; is_quiet = closing_is_quiet g; shape = u.1; restores = r }

no_frame : (e : Entry) → framed e ≡ [] → stamp_of e ≡ None → AddsNoFrame e
no_frame e f s = record { framed_is = f; stamp_is = s }

next_course : (g : History) (e : Entry) → Course g → Legal g → Facts (e ∷ g) → AllGrowing g → IsNext g e → IsRestoring g e → Course (e ∷ g)
next_course g (Start cols rows mode term faces entries stamp frame) c l f d s r = absurd s
next_course g (Feed bytes stamp frame) c l f d s r = frame_course g (Feed bytes stamp frame) _ _ stamp frame c record { framed_is = refl; stamp_is = refl; rises = omega (arith, s.is_next); shape = s.shape } f (λ v. refl)
next_course g (Size viewer cols rows stamp frame) c l f d s r = frame_course g (Size viewer cols rows stamp frame) _ _ stamp frame c record { framed_is = refl; stamp_is = refl; rises = omega (arith, s.is_next); shape = s.shape } f (λ v. refl)
next_course g (Join viewer role first) c l f d s r = plain_course g (Join viewer role first) c (no_frame (Join viewer role first) refl refl) f d (newest_there g l) (join_gives g viewer role first s r)
next_course g (Read viewer how) c l f d s r = plain_course g (Read viewer how) c (no_frame (Read viewer how) refl refl) f d (newest_there g l) (read_gives g viewer how s r)
next_course g (Write viewer acts) c l f d s r = plain_course g (Write viewer acts) c (no_frame (Write viewer acts) refl refl) f d (newest_there g l) (λ v. inl refl)
next_course g (Take count) c l f d s r = plain_course g (Take count) c (no_frame (Take count) refl refl) f d (newest_there g l) (λ v. inl refl)
next_course g (Leave viewer) c l f d s r = plain_course g (Leave viewer) c (no_frame (Leave viewer) refl refl) f d (newest_there g l) (λ v. inl refl)
next_course g (Close cause) c l f d s r = plain_course g (Close cause) c (no_frame (Close cause) refl refl) f d (newest_there g l) (λ v. inl refl)

first_course : (e : Entry) (setup : Setup) (now : ℕ) → StartStep setup now e → Course (e ∷ [])
first_course e setup now s =
    let f = facts_of (e ∷ []) (setup, now, s) in
    let start : Entry = Start setup.cols setup.rows setup.mode setup.term setup.faces setup.entries (next_stamp 0 now) s.1 in
    let facts : Facts (start ∷ []) = subst (λ (x : Entry). Facts (x ∷ [])) s.4 f in
    subst (λ (x : Entry). Course (x ∷ [])) (sym s.4) (frame_course [] start setup.cols setup.rows (next_stamp 0 now) s.1 no_course record { framed_is = refl; stamp_is = refl; rises = omega arith; shape = s.2 } facts (λ v. refl))

course_of : (h : History) → Legal h → AllRestoring h → AllGrowing h → Course h
course_of [] l r d = absurd l
course_of (e ∷ []) l r d = first_course e l.0 l.1 l.2
course_of (e ∷ f ∷ g) l r d = next_course (f ∷ g) e (course_of (f ∷ g) l.0 r.0 d.0) l.0 (facts_of (e ∷ f ∷ g) l) d.0 (next e f g l) r.1

-- what is drawn up to a stamp shows that stamp's screen
drawn_at : (h : History) (t : ℕ) → AllDrawn h → has_entry_at h t ≡ true → ShowsPicture (all_layers (upto h t) visible) (shown (at (upto h t)))
drawn_at [] t d e = absurd (let wrong : false ≡ true = e in cc)
drawn_at (e ∷ g) t d has = there (has_stamp t (stamp_of e)) refl (drawn_at g t d.0)
  where
    there : (b : Bool) → has_stamp t (stamp_of e) ≡ b → (has_entry_at g t ≡ true → ShowsPicture (all_layers (upto g t) visible) (shown (at (upto g t))))
        → ShowsPicture (all_layers (upto (e ∷ g) t) visible) (shown (at (upto (e ∷ g) t)))
    there true is below = let whole : upto (e ∷ g) t ≡ e ∷ g = rw is refl in rw whole d.1.shows
    there false is below =
        let older : upto (e ∷ g) t ≡ upto g t = rw is refl in
        let has_older : has_entry_at g t ≡ true = subst (λ (b : Bool). (b || has_entry_at g t) ≡ true) is has in
        rw older (below has_older)

pub whole_of : (h : History) → Legal h → AllDrawn h → AllRestoring h → AllGrowing h → Whole h
whole_of h l drawn r d = record { given = (course_of h l r d).given; pictures = λ t there. drawn_at h t drawn there }

-- layers that look alike to one that shows a picture show it
shows_alike : (l r : Layer) (s : KeyGrid) → IsAlike l r → ShowsPicture r s → ShowsPicture l s
shows_alike l r s a p = record {
  width = a.width ∙ p.width;
  height = a.height ∙ p.height;
  pixels = λ x y low high. a.pixels x y (omega (arith, a.width, p.width, low)) (omega (arith, a.height, p.height, high)) ∙ p.pixels x y low high;
}

pub faithful_of : (h : History) → Whole h → Faithful h
faithful_of h w v t front b =
    let at_t = w.given v t front b in
    record {
      stamped = at_t.stamped;
      drawn = shows_alike (draw nothing (front ++ Sync t ∷ []) visible) (all_layers (upto h t) visible) (shown (at (upto h t))) (at_t.same visible) (w.pictures t at_t.stamped);
    }
