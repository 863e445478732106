-- The longest end within the limits: it is what is left when the oldest frames are taken away while there are too many.
use Rattle.std.proofs.Common.{◌≡◌, ℕ, ◌+◌, ◌<◌, ◌≤◌, List, [], ◌∷◌, ◌++◌, length, Option, None, Some, Bool, true, false, ◌&&◌, refl, ap, sym, ◌∙◌, subst, arith, length-append}
use Rattle.std.specs.Prelude.{nat_le, if◌then◌else◌}
use Rattle.std.specs.List.{last_or}
use Rattle.std.proofs.lemmas.Bool.Decides.{nat_tests}
use Rattle.gate_model.specs.Limits.{most_kept_frames, most_kept_text}
use Rattle.display_history.specs.Keeping.{text_bytes, may_stay, kept_end, last_stamp, HistoryState}

both : (b c : Bool) → (b && c) ≡ true → (b ≡ true) × (c ≡ true)
both true c e = (refl, e)
both false c e = absurd (let w : false ≡ true = e in cc)

within : (n m : ℕ) → nat_le n m ≡ true → n ≤ m
within n m e = grind (arith, nat_tests)

is_within : (n m : ℕ) → n ≤ m → nat_le n m ≡ true
is_within n m le = grind (arith, nat_tests)

pub stays : (fs : List (ℕ × List ℕ)) → length fs ≤ most_kept_frames → text_bytes fs ≤ most_kept_text → may_stay fs ≡ true
stays fs few small = ap (λ (b : Bool). b && nat_le (text_bytes fs) most_kept_text) (is_within (length fs) most_kept_frames few) ∙ is_within (text_bytes fs) most_kept_text small

pub stayed : (fs : List (ℕ × List ℕ)) → may_stay fs ≡ true → (length fs ≤ most_kept_frames) × (text_bytes fs ≤ most_kept_text)
stayed fs e =
    let parts = both (nat_le (length fs) most_kept_frames) (nat_le (text_bytes fs) most_kept_text) e in
    (within (length fs) most_kept_frames parts.0, within (text_bytes fs) most_kept_text parts.1)

pub text_bytes-append : (fs gs : List (ℕ × List ℕ)) → text_bytes (fs ++ gs) ≡ text_bytes fs + text_bytes gs
text_bytes-append [] gs = omega arith
text_bytes-append (f ∷ fs) gs = omega (arith, text_bytes-append fs gs)

-- what is too long stays so
longer_fails : (fs gs : List (ℕ × List ℕ)) → may_stay fs ≡ false → may_stay (fs ++ gs) ≡ false
longer_fails fs gs off = cases (may_stay (fs ++ gs)) refl
  where
    cases : (b : Bool) → may_stay (fs ++ gs) ≡ b → may_stay (fs ++ gs) ≡ false
    cases false e = e
    cases true e =
        let limits = stayed (fs ++ gs) e in
        let first : may_stay fs ≡ true = stays fs (omega (arith, limits.0, length-append fs gs)) (omega (arith, limits.1, text_bytes-append fs gs)) in
        absurd (let wrong : true ≡ false = sym first ∙ off in cc)

kept_end-stays : (f : ℕ × List ℕ) (fs : List (ℕ × List ℕ)) → may_stay (f ∷ fs) ≡ true → kept_end (f ∷ fs) ≡ f ∷ fs
kept_end-stays f fs e = rw e refl

kept_end-drops : (f : ℕ × List ℕ) (fs : List (ℕ × List ℕ)) → may_stay (f ∷ fs) ≡ false → kept_end (f ∷ fs) ≡ kept_end fs
kept_end-drops f fs e = rw e refl

-- the kept frames of a longer list are those of the kept ones and the new
pub kept_end-more : (fs gs : List (ℕ × List ℕ)) → kept_end (fs ++ gs) ≡ kept_end (kept_end fs ++ gs)
kept_end-more [] gs = refl
kept_end-more (f ∷ fs) gs = cases (may_stay (f ∷ fs)) refl (kept_end-more fs gs)
  where
    cases : (b : Bool) → may_stay (f ∷ fs) ≡ b → kept_end (fs ++ gs) ≡ kept_end (kept_end fs ++ gs) → kept_end ((f ∷ fs) ++ gs) ≡ kept_end (kept_end (f ∷ fs) ++ gs)
    cases true e more = ap (λ (xs : List (ℕ × List ℕ)). kept_end (xs ++ gs)) (sym (kept_end-stays f fs e))
    cases false e more = kept_end-drops f (fs ++ gs) (longer_fails (f ∷ fs) gs e) ∙ (more ∙ ap (λ (xs : List (ℕ × List ℕ)). kept_end (xs ++ gs)) (sym (kept_end-drops f fs e)))

pub kept_end-few : (fs : List (ℕ × List ℕ)) → (length (kept_end fs) ≤ most_kept_frames) × (text_bytes (kept_end fs) ≤ most_kept_text)
kept_end-few [] = (omega arith, omega arith)
kept_end-few (f ∷ fs) = cases (may_stay (f ∷ fs)) refl (kept_end-few fs)
  where
    Few : List (ℕ × List ℕ) → Type 0
    Few xs = (length xs ≤ most_kept_frames) × (text_bytes xs ≤ most_kept_text)

    cases : (b : Bool) → may_stay (f ∷ fs) ≡ b → Few (kept_end fs) → Few (kept_end (f ∷ fs))
    cases true e more = subst Few (sym (kept_end-stays f fs e)) (stayed (f ∷ fs) e)
    cases false e more = subst Few (sym (kept_end-drops f fs e)) more

-- ---- the newest frame

last_more : (o : Option (ℕ × List ℕ)) (fs : List (ℕ × List ℕ)) (f : ℕ × List ℕ) → last_or o (fs ++ f ∷ []) ≡ Some f
last_more o [] f = refl
last_more o (g ∷ fs) f = last_more (Some g) fs f

pub newest_kept : (fs : List (ℕ × List ℕ)) (f : ℕ × List ℕ) → length f.1 ≤ most_kept_text → last_or None (kept_end (fs ++ f ∷ [])) ≡ Some f
newest_kept [] f le = ap (last_or None) (kept_end-stays f [] (stays (f ∷ []) (omega arith) (omega (arith, le))))
newest_kept (g ∷ fs) f le = cases (may_stay (g ∷ (fs ++ f ∷ []))) refl (newest_kept fs f le)
  where
    cases : (b : Bool) → may_stay (g ∷ (fs ++ f ∷ [])) ≡ b → last_or None (kept_end (fs ++ f ∷ [])) ≡ Some f → last_or None (kept_end (g ∷ (fs ++ f ∷ []))) ≡ Some f
    cases true e more = ap (last_or None) (kept_end-stays g (fs ++ f ∷ []) e) ∙ last_more None (g ∷ fs) f
    cases false e more = ap (last_or None) (kept_end-drops g (fs ++ f ∷ []) e) ∙ more

too_long : (fs : List (ℕ × List ℕ)) (f : ℕ × List ℕ) → most_kept_text < length f.1 → may_stay (fs ++ f ∷ []) ≡ false
too_long fs f lt = cases (may_stay (fs ++ f ∷ [])) refl
  where
    cases : (b : Bool) → may_stay (fs ++ f ∷ []) ≡ b → may_stay (fs ++ f ∷ []) ≡ false
    cases false e = e
    cases true e =
        let limits = stayed (fs ++ f ∷ []) e in
        absurd (omega (arith, limits.1, text_bytes-append fs (f ∷ []), lt))

pub none_kept : (fs : List (ℕ × List ℕ)) (f : ℕ × List ℕ) → most_kept_text < length f.1 → kept_end (fs ++ f ∷ []) ≡ []
none_kept [] f lt = kept_end-drops f [] (too_long [] f lt)
none_kept (g ∷ fs) f lt = kept_end-drops g (fs ++ f ∷ []) (too_long (g ∷ fs) f lt) ∙ none_kept fs f lt

-- ---- the oldest taken away, while there are too many

abbrev pub trimmed : ℕ → List (ℕ × List ℕ) → HistoryState
trimmed g [] = record { kept = []; gone = g }
trimmed g (f ∷ fs) = if may_stay (f ∷ fs) then record { kept = f ∷ fs; gone = g } else trimmed f.0 fs

pub trimmed-stays : (g : ℕ) (fs : List (ℕ × List ℕ)) → may_stay fs ≡ true → trimmed g fs ≡ record { kept = fs; gone = g }
trimmed-stays g [] e = refl
trimmed-stays g (f ∷ fs) e = rw e refl

pub trimmed-drops : (g : ℕ) (f : ℕ × List ℕ) (fs : List (ℕ × List ℕ)) → may_stay (f ∷ fs) ≡ false → trimmed g (f ∷ fs) ≡ trimmed f.0 fs
trimmed-drops g f fs e = rw e refl

-- what is left is the longest end within the limits, and the stamp that of the last frame before it
pub record IsTrimmed (g : ℕ) (fs : List (ℕ × List ℕ)) (s : HistoryState) : Type 0 where
  pub before : List (ℕ × List ℕ)
  pub cut : fs ≡ before ++ s.kept
  pub gone : s.gone ≡ last_stamp g before
  pub kept : s.kept ≡ kept_end fs

pub is_trimmed : (g : ℕ) (fs : List (ℕ × List ℕ)) → IsTrimmed g fs (trimmed g fs)
is_trimmed g [] = record { before = []; cut = refl; gone = refl; kept = refl }
is_trimmed g (f ∷ fs) = cases (may_stay (f ∷ fs)) refl (is_trimmed f.0 fs)
  where
    cases : (b : Bool) → may_stay (f ∷ fs) ≡ b → IsTrimmed f.0 fs (trimmed f.0 fs) → IsTrimmed g (f ∷ fs) (trimmed g (f ∷ fs))
    cases true e more = subst (IsTrimmed g (f ∷ fs)) (sym (trimmed-stays g (f ∷ fs) e)) record { before = []; cut = refl; gone = refl; kept = sym (kept_end-stays f fs e) }
    cases false e more = subst (IsTrimmed g (f ∷ fs)) (sym (trimmed-drops g f fs e)) record { before = f ∷ more.before; cut = ap (λ (xs : List (ℕ × List ℕ)). f ∷ xs) more.cut; gone = more.gone; kept = more.kept ∙ sym (kept_end-drops f fs e) }
