-- Frames and their texts: what is kept of the one is kept of the other.
use Rattle.std.proofs.Common.{◌≡◌, ℕ, ◌+◌, ◌≤◌, List, [], ◌∷◌, ◌++◌, length, Bool, true, false, ◌&&◌, refl, ap, sym, ◌∙◌, arith}
use Rattle.std.specs.Prelude.{◌↔◌, nat_lt, nat_le, IsTrue}
use Rattle.std.proofs.lemmas.Bool.Decides.{nat_tests}
use Rattle.std.proofs.lemmas.List.{length-map, append_cancel_right}
use Rattle.gate_model.specs.declared.instr.Instr.{Instr}
use Rattle.gate_model.specs.Limits.{most_kept_frames, most_kept_text}
use Rattle.gate_model.specs.text.Text.{texts}
use Rattle.gate_model.specs.session.History.{History, frames, frames_after}
use Rattle.gate_model.specs.session.Kept.{text_size, may_be_kept, kept_of, Covers, last_stamp_from}
use Rattle.gate_model.specs.session.KeptLaws.{KeptAreLast, CoversByStamp}
use Rattle.gate_model.specs.session.Steps.{Legal}
use Rattle.display_history.specs.Keeping.{text_bytes, may_stay, kept_end, after_stamp, last_stamp, HistoryState, covers, HasKept}
use Rattle.display_history.specs.Laws.{texts_of}

bytes_of_texts : (fs : List (ℕ × List Instr)) → text_bytes (texts_of fs) ≡ text_size fs
bytes_of_texts [] = refl
bytes_of_texts (f ∷ fs) = ap (λ (n : ℕ). length (texts f.1) + n) (bytes_of_texts fs)

same_limits : (fs : List (ℕ × List Instr)) → may_stay (texts_of fs) ≡ may_be_kept fs
same_limits fs =
    ap (λ (n : ℕ). nat_le n most_kept_frames && nat_le (text_bytes (texts_of fs)) most_kept_text) (length-map fs (λ (f : ℕ × List Instr). (f.0, texts f.1)))
    ∙ ap (λ (n : ℕ). nat_le (length fs) most_kept_frames && nat_le n most_kept_text) (bytes_of_texts fs)

pub texts_kept : (fs : List (ℕ × List Instr)) → texts_of (kept_of fs) ≡ kept_end (texts_of fs)
texts_kept [] = refl
texts_kept (f ∷ fs) = cases (may_be_kept (f ∷ fs)) refl (texts_kept fs)
  where
    cases : (b : Bool) → may_be_kept (f ∷ fs) ≡ b → texts_of (kept_of fs) ≡ kept_end (texts_of fs) → texts_of (kept_of (f ∷ fs)) ≡ kept_end (texts_of (f ∷ fs))
    cases true e more =
        let whole : kept_of (f ∷ fs) ≡ f ∷ fs = rw e refl in
        let other : kept_end (texts_of (f ∷ fs)) ≡ texts_of (f ∷ fs) = rw (same_limits (f ∷ fs) ∙ e) refl in
        ap texts_of whole ∙ sym other
    cases false e more =
        let rest : kept_of (f ∷ fs) ≡ kept_of fs = rw e refl in
        let other : kept_end (texts_of (f ∷ fs)) ≡ kept_end (texts_of fs) = rw (same_limits (f ∷ fs) ∙ e) refl in
        ap texts_of rest ∙ (more ∙ sym other)

pub texts_after : (t : ℕ) (fs : List (ℕ × List Instr)) → texts_of (frames_after t fs) ≡ after_stamp t (texts_of fs)
texts_after t [] = refl
texts_after t (f ∷ fs) = cases (nat_lt t f.0) refl (texts_after t fs)
  where
    cases : (b : Bool) → nat_lt t f.0 ≡ b → texts_of (frames_after t fs) ≡ after_stamp t (texts_of fs) → texts_of (frames_after t (f ∷ fs)) ≡ after_stamp t (texts_of (f ∷ fs))
    cases true e more = rw e (ap (λ (xs : List (ℕ × List ℕ)). (f.0, texts f.1) ∷ xs) more)
    cases false e more = rw e more

texts-append : (fs gs : List (ℕ × List Instr)) → texts_of (fs ++ gs) ≡ texts_of fs ++ texts_of gs
texts-append [] gs = refl
texts-append (f ∷ fs) gs = ap (λ (xs : List (ℕ × List ℕ)). (f.0, texts f.1) ∷ xs) (texts-append fs gs)

last_of_texts : (t : ℕ) (fs : List (ℕ × List Instr)) → last_stamp t (texts_of fs) ≡ last_stamp_from t fs
last_of_texts t [] = refl
last_of_texts t (f ∷ fs) = last_of_texts f.0 fs

-- the stamp of the last frame that is gone
gone_is : (fs gone : List (ℕ × List Instr)) (s : HistoryState) → HasKept s (texts_of fs) → fs ≡ gone ++ kept_of fs → s.gone ≡ last_stamp_from 0 gone
gone_is fs gone s h cut =
    let same : s.kept ≡ texts_of (kept_of fs) = h.kept ∙ sym (texts_kept fs) in
    let here : texts_of gone ++ s.kept ≡ h.before ++ s.kept =
    ap (λ (xs : List (ℕ × List ℕ)). texts_of gone ++ xs) same ∙ (sym (texts-append gone (kept_of fs)) ∙ (ap texts_of (sym cut) ∙ h.cut)) in
    h.gone ∙ (ap (last_stamp 0) (sym (append_cancel_right (texts_of gone) h.before s.kept here)) ∙ last_of_texts 0 gone)

pub covers_of_history : KeptAreLast → CoversByStamp → (h : History) → Legal h → (s : HistoryState) → HasKept s (texts_of (frames h)) → (t : ℕ) → IsTrue (covers s t) ↔ Covers h t
covers_of_history last by_stamp h l s k t =
    let x = last (frames h) in
    let same : s.gone ≡ last_stamp_from 0 x.0 = gone_is (frames h) x.0 s k x.1 in
    let both = by_stamp h l x.0 x.1 t in
    (λ yes. both.0 (at_most (last_stamp_from 0 x.0) same yes), λ all. is_true (last_stamp_from 0 x.0) same (both.1 all))
  where
    at_most : (g : ℕ) → s.gone ≡ g → IsTrue (covers s t) → g ≤ t
    at_most g same e = let le : s.gone ≤ t = grind (arith, nat_tests) in omega (arith, same, le)

    is_true : (g : ℕ) → s.gone ≡ g → g ≤ t → IsTrue (covers s t)
    is_true g same le = let low : s.gone ≤ t = omega (arith, same, le) in grind (arith, nat_tests)
