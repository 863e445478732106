-- What holds of the frames and stamps of a history in which stamps rise: they can be cut at each stamp.
use Rattle.std.proofs.Common.{◌≡◌, ℕ, ◌<◌, ◌≤◌, List, [], ◌∷◌, ◌++◌, Bool, true, false, ◌||◌, ◌⊎◌, inl, inr, refl, ap, sym, ◌∙◌, subst, append_assoc, append-nil, arith}
use Rattle.std.specs.Prelude.{Some, None, nat_lt, if◌then◌else◌, ◌==◌}
use Rattle.std.proofs.lemmas.Grind.{flat_map-append}
use Rattle.std.proofs.lemmas.List.Elements.{filter-append}
use Rattle.std.proofs.lemmas.Bool.{lt-ltb, eq-eqb}
use Rattle.std.proofs.lemmas.Bool.Decides.{nat_tests, eqb_tells}
use Rattle.gate_model.specs.declared.instr.Instr.{Instr}
use Rattle.gate_model.specs.declared.instr.Instr.TheVariants.{Sync}
use Rattle.gate_model.specs.declared.entry.Entry.{Entry}
use Rattle.gate_model.specs.Sequences.{BeginsWith}
use Rattle.gate_model.specs.picture.Shape.{Shape}
use Rattle.gate_model.specs.session.Entries.{framed, stamp_of}
use Rattle.gate_model.specs.session.History.{History, frames, frames_after, instructions, all_frames, newest, upto, has_entry_at}
use Rattle.gate_model.specs.session.Delivered.{last_sync_from, last_sync}
use Rattle.gate_model.proofs.Fronts.{front_cases}
use Rattle.gate_model.proofs.Syncs.{last_sync-body, last_sync-append, sync_is_last}
use Rattle.gate_model.proofs.Alike.{AreShaped, shaped-append}

-- a stamp of the history, or the 0 before them all
abbrev pub IsStamp : History → ℕ → Type 0
IsStamp h t = (t ≡ 0) ⊎ (has_entry_at h t ≡ true)

pub record Stamps (h : History) : Type 0 where
  pub last : last_sync (all_frames h) ≡ newest h
  pub none_after : (t : ℕ) → newest h ≤ t → frames_after t (frames h) ≡ []
  pub stamped : (t : ℕ) → has_entry_at h t ≡ true → t ≤ newest h
  -- a front of the frames that ends with a sync is the frames up to that stamp
  pub cut : (t : ℕ) (front : List Instr) → BeginsWith (all_frames h) (front ++ Sync t ∷ []) → (has_entry_at h t ≡ true) × (front ++ Sync t ∷ [] ≡ all_frames (upto h t))
  -- the frames are those up to a stamp, and those after it
  pub since : (t : ℕ) → IsStamp h t → frames h ≡ frames (upto h t) ++ frames_after t (frames h)
  pub ends : (t : ℕ) → IsStamp h t → last_sync (all_frames (upto h t)) ≡ t
  pub shaped : AreShaped (frames h)
  pub newly : IsStamp h (newest h)

nothing_begins : (t : ℕ) (front rest : List Instr) → [] ≡ (front ++ Sync t ∷ []) ++ rest → ⊥
nothing_begins t [] rest e = cc
nothing_begins t (x ∷ front) rest e = cc

pub no_stamps : Stamps []
no_stamps = record {
  last = refl;
  none_after = λ t le. refl;
  stamped = λ t e. absurd (let f : false ≡ true = e in cc);
  cut = λ t front b. absurd (nothing_begins t front b.0 b.1);
  since = λ t s. refl;
  ends = λ t s. zero_only t s;
  shaped = tt;
  newly = inl refl;
}
  where
    zero_only : (t : ℕ) → (t ≡ 0) ⊎ (false ≡ true) → 0 ≡ t
    zero_only t (inl e) = sym e
    zero_only t (inr e) = absurd (let f : false ≡ true = e in cc)

-- what an entry with a frame adds
pub record AddsFrame (g : History) (e : Entry) (cols rows t : ℕ) (frame : List Instr) : Type 0 where
  pub framed_is : framed e ≡ (t, frame) ∷ []
  pub stamp_is : stamp_of e ≡ Some t
  pub rises : newest g < t
  pub shape : Shape cols rows frame t

not_below : (s t : ℕ) → t ≤ s → nat_lt s t ≡ false
not_below s t le = grind (arith, nat_tests)

not_equal : (t s : ℕ) → s < t → (t == s) ≡ false
not_equal t s lt = grind (arith, nat_tests)

pub low_stamp : (h : History) → Stamps h → (t : ℕ) → IsStamp h t → t ≤ newest h
low_stamp h f t (inl z) = omega (arith, z)
low_stamp h f t (inr has) = f.stamped t has

-- the frames after a stamp lead to the newest one
pub rest_syncs : (h : History) → Stamps h → (t : ℕ) → IsStamp h t → last_sync_from t (instructions (frames_after t (frames h))) ≡ newest h
rest_syncs h f t is =
    let parts : all_frames h ≡ all_frames (upto h t) ++ instructions (frames_after t (frames h)) = ap instructions (f.since t is) ∙ flat_map-append (λ (p : ℕ × List Instr). p.1) (frames (upto h t)) (frames_after t (frames h)) in
    ap (λ (s : ℕ). last_sync_from s (instructions (frames_after t (frames h)))) (sym (f.ends t is))
    ∙ (sym (last_sync-append 0 (all_frames (upto h t)) (instructions (frames_after t (frames h))))
    ∙ (ap last_sync (sym parts) ∙ f.last))

module _ (g : History) (e : Entry) (cols rows t : ℕ) (frame : List Instr) (f : Stamps g) (a : AddsFrame g e cols rows t frame) where
  frames_are : frames (e ∷ g) ≡ frames g ++ (t, frame) ∷ []
  frames_are = rw a.framed_is refl

  all_are : all_frames (e ∷ g) ≡ all_frames g ++ frame
  all_are = rw frames_are (flat_map-append (λ (p : ℕ × List Instr). p.1) (frames g) ((t, frame) ∷ []) ∙ ap (λ xs. all_frames g ++ xs) (append-nil frame))

  newest_is : newest (e ∷ g) ≡ t
  newest_is = rw a.stamp_is refl

  after_are : (s : ℕ) → frames_after s (frames (e ∷ g)) ≡ frames_after s (frames g) ++ frames_after s ((t, frame) ∷ [])
  after_are s = rw frames_are (filter-append (λ (p : ℕ × List Instr). nat_lt s p.0) (frames g) ((t, frame) ∷ []))

  kept : (s : ℕ) → s < t → frames_after s ((t, frame) ∷ []) ≡ (t, frame) ∷ []
  kept s lt = rw (lt-ltb s t lt) refl

  dropped : (s : ℕ) → t ≤ s → frames_after s ((t, frame) ∷ []) ≡ []
  dropped s le = rw (not_below s t le) refl

  ends_with : (s : ℕ) → last_sync_from s frame ≡ t
  ends_with s = ap (last_sync_from s) a.shape.ends ∙ last_sync-body cols rows [] a.shape.body t s a.shape.body_draws

  entry_at_is : (s : ℕ) → has_entry_at (e ∷ g) s ≡ ((t == s) || has_entry_at g s)
  entry_at_is s = rw a.stamp_is refl

  upto_is : (s : ℕ) → upto (e ∷ g) s ≡ (if t == s then e ∷ g else upto g s)
  upto_is s = rw a.stamp_is refl

  either : (x y : Bool) → x ≡ false → (x || y) ≡ true → y ≡ true
  either x y off q = subst (λ (z : Bool). (z || y) ≡ true) off q

  -- a stamp other than the new one is an old one
  old_stamp : (s : ℕ) → (t == s) ≡ false → IsStamp (e ∷ g) s → IsStamp g s
  old_stamp s off (inl z) = inl z
  old_stamp s off (inr has) = inr (either (t == s) (has_entry_at g s) off (sym (entry_at_is s) ∙ has))

  upto_new : (s : ℕ) → (t == s) ≡ true → upto (e ∷ g) s ≡ e ∷ g
  upto_new s q = let whole : (if t == s then e ∷ g else upto g s) ≡ e ∷ g = rw q refl in upto_is s ∙ whole

  upto_old : (s : ℕ) → (t == s) ≡ false → upto (e ∷ g) s ≡ upto g s
  upto_old s q = let older : (if t == s then e ∷ g else upto g s) ≡ upto g s = rw q refl in upto_is s ∙ older

  -- an old stamp stays one, with the same entries up to it
  pub kept_stamp : (s : ℕ) → IsStamp g s → IsStamp (e ∷ g) s
  kept_stamp s (inl z) = inl z
  kept_stamp s (inr has) = inr (let there : ((t == s) || has_entry_at g s) ≡ true = rw (not_equal t s (omega (arith, f.stamped s has, a.rises)), has) refl in entry_at_is s ∙ there)

  pub kept_upto : (s : ℕ) → IsStamp g s → upto (e ∷ g) s ≡ upto g s
  kept_upto s old = upto_old s (not_equal t s (omega (arith, low_stamp g f s old, a.rises)))

  pub kept_entry : (s : ℕ) → has_entry_at g s ≡ true → has_entry_at (e ∷ g) s ≡ true
  kept_entry s has = let there : ((t == s) || has_entry_at g s) ≡ true = rw (not_equal t s (omega (arith, f.stamped s has, a.rises)), has) refl in entry_at_is s ∙ there

  cut_is : (s : ℕ) (front : List Instr) → BeginsWith (all_frames (e ∷ g)) (front ++ Sync s ∷ []) → (has_entry_at (e ∷ g) s ≡ true) × (front ++ Sync s ∷ [] ≡ all_frames (upto (e ∷ g) s))
  cut_is s front b =
      elim (front_cases (all_frames g) frame front (Sync s) (b.0, sym all_are ∙ b.1)) as (λ _. (has_entry_at (e ∷ g) s ≡ true) × (front ++ Sync s ∷ [] ≡ all_frames (upto (e ∷ g) s))) [
        | inl p ↦ before s front (f.cut s front p)
        | inr p ↦ newly s front p.0 p.1 (sync_is_last cols rows [] a.shape.body p.0 s t a.shape.body_draws (p.2.0, sym a.shape.ends ∙ p.2.1))
      ]
    where
      before : (s : ℕ) (front : List Instr) → (has_entry_at g s ≡ true) × (front ++ Sync s ∷ [] ≡ all_frames (upto g s)) → (has_entry_at (e ∷ g) s ≡ true) × (front ++ Sync s ∷ [] ≡ all_frames (upto (e ∷ g) s))
      before s front p = (kept_entry s p.0, p.1 ∙ ap all_frames (sym (kept_upto s (inr p.0))))

      newly : (s : ℕ) (front more : List Instr) → front ≡ all_frames g ++ more → (more ≡ a.shape.body) × (s ≡ t) → (has_entry_at (e ∷ g) s ≡ true) × (front ++ Sync s ∷ [] ≡ all_frames (upto (e ∷ g) s))
      newly s front more is p =
          let equal : (t == s) ≡ true = eq-eqb t s (sym p.1) in
          let ends : front ++ Sync s ∷ [] ≡ all_frames g ++ frame = ap (λ (xs : List Instr). xs ++ Sync s ∷ []) is ∙ (append_assoc (all_frames g) more (Sync s ∷ []) ∙ ap (λ (xs : List Instr). all_frames g ++ xs) (ap (λ (xs : List Instr). xs ++ Sync s ∷ []) p.0 ∙ (ap (λ (u : ℕ). a.shape.body ++ Sync u ∷ []) p.1 ∙ sym a.shape.ends))) in
          let there : ((t == s) || has_entry_at g s) ≡ true = rw equal refl in
          (entry_at_is s ∙ there, ends ∙ (sym all_are ∙ ap all_frames (sym (upto_new s equal))))

  since_is : (s : ℕ) → IsStamp (e ∷ g) s → frames (e ∷ g) ≡ frames (upto (e ∷ g) s) ++ frames_after s (frames (e ∷ g))
  since_is s is = elim (eqb_tells t s) as (λ _. frames (e ∷ g) ≡ frames (upto (e ∷ g) s) ++ frames_after s (frames (e ∷ g))) [
    | inl p ↦ now p.0 p.1
    | inr p ↦ older p.0 (old_stamp s p.0 is)
  ]
    where
      now : (t == s) ≡ true → t ≡ s → frames (e ∷ g) ≡ frames (upto (e ∷ g) s) ++ frames_after s (frames (e ∷ g))
      now q same =
          let none : frames_after s (frames (e ∷ g)) ≡ [] = after_are s ∙ (rw (f.none_after s (omega (arith, a.rises, same)), dropped s (omega (arith, same))) refl) in
          sym (append-nil (frames (e ∷ g))) ∙ (ap (λ (xs : List (ℕ × List Instr)). frames (e ∷ g) ++ xs) (sym none) ∙ ap (λ (h : History). frames h ++ frames_after s (frames (e ∷ g))) (sym (upto_new s q)))

      older : (t == s) ≡ false → IsStamp g s → frames (e ∷ g) ≡ frames (upto (e ∷ g) s) ++ frames_after s (frames (e ∷ g))
      older off old =
          let more : frames_after s (frames (e ∷ g)) ≡ frames_after s (frames g) ++ (t, frame) ∷ [] = after_are s ∙ ap (λ (xs : List (ℕ × List Instr)). frames_after s (frames g) ++ xs) (kept s (omega (arith, low_stamp g f s old, a.rises))) in
          frames_are
          ∙ (ap (λ (xs : List (ℕ × List Instr)). xs ++ (t, frame) ∷ []) (f.since s old)
          ∙ (append_assoc (frames (upto g s)) (frames_after s (frames g)) ((t, frame) ∷ [])
          ∙ (ap (λ (xs : List (ℕ × List Instr)). frames (upto g s) ++ xs) (sym more)
          ∙ ap (λ (h : History). frames h ++ frames_after s (frames (e ∷ g))) (sym (upto_old s off)))))

  last_is : last_sync (all_frames (e ∷ g)) ≡ newest (e ∷ g)
  last_is = ap (last_sync_from 0) all_are ∙ (last_sync-append 0 (all_frames g) frame ∙ (ends_with (last_sync (all_frames g)) ∙ sym newest_is))

  ends_is : (s : ℕ) → IsStamp (e ∷ g) s → last_sync (all_frames (upto (e ∷ g) s)) ≡ s
  ends_is s is = elim (eqb_tells t s) as (λ _. last_sync (all_frames (upto (e ∷ g) s)) ≡ s) [
    | inl p ↦ ap (λ (h : History). last_sync (all_frames h)) (upto_new s p.0) ∙ (last_is ∙ (newest_is ∙ p.1))
    | inr p ↦ ap (λ (h : History). last_sync (all_frames h)) (upto_old s p.0) ∙ f.ends s (old_stamp s p.0 is)
  ]

  pub frame_stamps : Stamps (e ∷ g)
  frame_stamps = record {
    last = last_is;
    none_after = λ s le. let high : t ≤ s = subst (λ (n : ℕ). n ≤ s) newest_is le in after_are s ∙ (rw (f.none_after s (omega (arith, a.rises)), dropped s high) refl);
    stamped = λ s q. rw newest_is (stamped_by s (sym (entry_at_is s) ∙ q));
    cut = cut_is;
    since = since_is;
    ends = ends_is;
    shaped = rw frames_are (shaped-append (frames g) ((t, frame) ∷ []) f.shaped ((cols, rows, a.shape), tt));
    newly = inr (let there : ((t == newest (e ∷ g)) || has_entry_at g (newest (e ∷ g))) ≡ true = rw (eq-eqb t (newest (e ∷ g)) (sym newest_is)) refl in entry_at_is (newest (e ∷ g)) ∙ there);
  }
    where
      stamped_by : (s : ℕ) → ((t == s) || has_entry_at g s) ≡ true → s ≤ t
      stamped_by s q = elim (eqb_tells t s) as (λ _. s ≤ t) [
        | inl p ↦ omega (arith, p.1)
        | inr p ↦ omega (arith, f.stamped s (either (t == s) (has_entry_at g s) p.0 q), a.rises)
      ]

-- what an entry without a frame adds
pub record AddsNoFrame (e : Entry) : Type 0 where
  pub framed_is : framed e ≡ []
  pub stamp_is : stamp_of e ≡ None

module _ (g : History) (e : Entry) (a : AddsNoFrame e) where
  pub same_frames : frames (e ∷ g) ≡ frames g
  same_frames = rw a.framed_is (append-nil (frames g))

  pub same_all : all_frames (e ∷ g) ≡ all_frames g
  same_all = ap instructions same_frames

  pub same_newest : newest (e ∷ g) ≡ newest g
  same_newest = rw a.stamp_is refl

  pub same_entry_at : (s : ℕ) → has_entry_at (e ∷ g) s ≡ has_entry_at g s
  same_entry_at s = rw a.stamp_is refl

  pub same_upto : (s : ℕ) → upto (e ∷ g) s ≡ upto g s
  same_upto s = rw a.stamp_is refl

  pub stays_stamp : (s : ℕ) → IsStamp g s → IsStamp (e ∷ g) s
  stays_stamp s (inl z) = inl z
  stays_stamp s (inr has) = inr (same_entry_at s ∙ has)

  pub plain_stamps : Stamps g → Stamps (e ∷ g)
  plain_stamps f = record {
    last = ap last_sync same_all ∙ (f.last ∙ sym same_newest);
    none_after = λ s le. ap (frames_after s) same_frames ∙ f.none_after s (subst (λ (n : ℕ). n ≤ s) same_newest le);
    stamped = λ s q. rw same_newest (f.stamped s (sym (same_entry_at s) ∙ q));
    cut = λ s front b. let c = f.cut s front (b.0, sym same_all ∙ b.1) in (same_entry_at s ∙ c.0, c.1 ∙ ap all_frames (sym (same_upto s)));
    since = λ s is. rw (same_frames, same_upto s) (f.since s (old_stamp s is));
    ends = λ s is. rw (same_upto s) (f.ends s (old_stamp s is));
    shaped = rw same_frames f.shaped;
    newly = subst (λ (s : ℕ). IsStamp (e ∷ g) s) (sym same_newest) (stays_stamp (newest g) f.newly);
  }
    where
      old_stamp : (s : ℕ) → IsStamp (e ∷ g) s → IsStamp g s
      old_stamp s (inl z) = inl z
      old_stamp s (inr has) = inr (sym (same_entry_at s) ∙ has)
