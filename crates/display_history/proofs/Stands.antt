-- What a history stands for, after a push, and what its comparison tells.
use Rattle.std.proofs.Common.{◌≡◌, ℕ, ◌<◌, ◌≤◌, List, [], ◌∷◌, ◌++◌, length, Bool, true, false, refl, ap, sym, ◌∙◌, subst, arith}
use Rattle.std.specs.Prelude.{◌↔◌, nat_lt, nat_le, IsTrue}
use Rattle.std.proofs.lemmas.Bool.Decides.{nat_tests}
use Rattle.std.proofs.lemmas.List.{append_assoc}
use Rattle.std.proofs.lemmas.List.Elements.{filter-append}
use Rattle.gate_model.specs.Limits.{most_kept_frames, most_kept_text}
use Rattle.display_history.specs.Keeping.{text_bytes, kept_end, after_stamp, last_stamp, AreRising, HistoryState, newest, covers, HasKept}
use Rattle.display_history.proofs.Rising.{rising-more, rising-front, rising-back, rising-from, last_stamp-append, none_above, some_above, nothing_before}
use Rattle.display_history.proofs.Ends.{stays, kept_end-more, kept_end-few, trimmed, trimmed-stays, is_trimmed}

pub newest_last : (s : HistoryState) (all : List (ℕ × List ℕ)) → HasKept s all → newest s ≡ last_stamp 0 all
newest_last s all h = ap (λ (g : ℕ). last_stamp g s.kept) h.gone ∙ (sym (last_stamp-append 0 h.before s.kept) ∙ ap (last_stamp 0) (sym h.cut))

pub kept_few : (s : HistoryState) (all : List (ℕ × List ℕ)) → HasKept s all → (length s.kept ≤ most_kept_frames) × (text_bytes s.kept ≤ most_kept_text)
kept_few s all h = subst (λ (xs : List (ℕ × List ℕ)). (length xs ≤ most_kept_frames) × (text_bytes xs ≤ most_kept_text)) (sym h.kept) (kept_end-few all)

-- the stamps of the kept frames rise
pub kept_rise : (s : HistoryState) (all : List (ℕ × List ℕ)) → HasKept s all → AreRising 0 s.kept
kept_rise s all h = rising-from (last_stamp 0 h.before) 0 s.kept (omega arith) (rising-back 0 h.before s.kept (subst (AreRising 0) h.cut h.rising))

-- after a push, and after the oldest frames are taken away
stands_on : (s : HistoryState) (all : List (ℕ × List ℕ)) (t : ℕ) (text : List ℕ) → newest s < t → HasKept s all → HasKept (trimmed s.gone (s.kept ++ (t, text) ∷ [])) (all ++ (t, text) ∷ [])
stands_on s all t text lt h =
    let more : List (ℕ × List ℕ) = (t, text) ∷ [] in
    let x = is_trimmed s.gone (s.kept ++ more) in
    let s2 : HistoryState = trimmed s.gone (s.kept ++ more) in
    let cut : all ++ more ≡ (h.before ++ x.before) ++ s2.kept =
    ap (λ (xs : List (ℕ × List ℕ)). xs ++ more) h.cut
    ∙ (append_assoc h.before s.kept more
    ∙ (ap (λ (xs : List (ℕ × List ℕ)). h.before ++ xs) x.cut
    ∙ sym (append_assoc h.before x.before s2.kept))) in
    let gone : s2.gone ≡ last_stamp 0 (h.before ++ x.before) =
    x.gone ∙ (ap (λ (g : ℕ). last_stamp g x.before) h.gone ∙ sym (last_stamp-append 0 h.before x.before)) in
    let kept : s2.kept ≡ kept_end (all ++ more) =
    x.kept ∙ (ap (λ (xs : List (ℕ × List ℕ)). kept_end (xs ++ more)) h.kept ∙ sym (kept_end-more all more)) in
    record { rising = rising-more 0 all t text h.rising (omega (arith, newest_last s all h, lt)); before = h.before ++ x.before; cut = cut; gone = gone; kept = kept }

-- ---- the comparison

parts : (s : HistoryState) (all : List (ℕ × List ℕ)) (h : HasKept s all) (t : ℕ) → after_stamp t all ≡ after_stamp t h.before ++ after_stamp t s.kept
parts s all h t = ap (after_stamp t) h.cut ∙ filter-append (λ (f : ℕ × List ℕ). nat_lt t f.0) h.before s.kept

pub covered : (s : HistoryState) (all : List (ℕ × List ℕ)) (t : ℕ) → HasKept s all → s.gone ≤ t → after_stamp t all ≡ after_stamp t s.kept
covered s all t h le =
    let rising : AreRising 0 h.before = rising-front 0 h.before s.kept (subst (AreRising 0) h.cut h.rising) in
    parts s all h t ∙ ap (λ (xs : List (ℕ × List ℕ)). xs ++ after_stamp t s.kept) (none_above 0 t h.before rising (omega (arith, le, h.gone)))

not_covered : (s : HistoryState) (all : List (ℕ × List ℕ)) (t : ℕ) → HasKept s all → t < s.gone → after_stamp t all ≡ after_stamp t s.kept → ⊥
not_covered s all t h lt same =
    some_above 0 t h.before (omega arith) (omega (arith, lt, h.gone)) (nothing_before (after_stamp t h.before) (after_stamp t s.kept) (sym (parts s all h t) ∙ same))

pub covers_exactly : (s : HistoryState) (all : List (ℕ × List ℕ)) (t : ℕ) → HasKept s all → IsTrue (covers s t) ↔ (after_stamp t all ≡ after_stamp t s.kept)
covers_exactly s all t h = (λ yes. covered s all t h (at_most yes), cases (nat_le s.gone t) refl)
  where
    at_most : IsTrue (covers s t) → s.gone ≤ t
    at_most e = grind (arith, nat_tests)

    cases : (b : Bool) → nat_le s.gone t ≡ b → after_stamp t all ≡ after_stamp t s.kept → IsTrue (covers s t)
    cases true e same = e
    cases false e same = absurd (not_covered s all t h (grind (arith, nat_tests)) same)

abbrev pub state : List (ℕ × List ℕ) → ℕ → HistoryState
state kept gone = record { kept = kept; gone = gone }

-- what is left of the frames at the end of a push, within both limits, stands for one frame more
pub pushed : (s : HistoryState) (t : ℕ) (text : List ℕ) (frames closed : List (ℕ × List ℕ)) (gone : ℕ) → trimmed gone frames ≡ trimmed s.gone (s.kept ++ (t, text) ∷ []) → length frames ≤ most_kept_frames → text_bytes frames ≤ most_kept_text → closed ≡ frames → newest s < t → (all : List (ℕ × List ℕ)) → HasKept s all → HasKept (state closed gone) (all ++ (t, text) ∷ [])
pushed s t text frames closed gone same few small is lt all h =
    let ends : state closed gone ≡ trimmed s.gone (s.kept ++ (t, text) ∷ []) =
    ap (λ (xs : List (ℕ × List ℕ)). state xs gone) is ∙ (sym (trimmed-stays gone frames (stays frames few small)) ∙ same) in
    subst (λ (x : HistoryState). HasKept x (all ++ (t, text) ∷ [])) (sym ends) (stands_on s all t text lt h)
