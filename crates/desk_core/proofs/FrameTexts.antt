-- The texts of frames, as lists of instructions and as what is kept of them.
use Rattle.std.proofs.Common.{◌≡◌, ℕ, ◌<◌, ◌≤◌, List, [], ◌∷◌, ◌++◌, length, Option, Bool, true, false, refl, ap, sym, ◌∙◌, arith}
use Rattle.std.specs.Prelude.{nat_le, nat_lt, option_map, unwrap_or}
use Rattle.std.proofs.lemmas.Bool.Decides.{nat_tests}
use Rattle.std.proofs.lemmas.Grind.{flat_map-append}
use Rattle.std.proofs.lemmas.List.{map-append}
use Rattle.gate_model.specs.declared.instr.Instr.{Instr}
use Rattle.gate_model.specs.text.Text.{text, texts}
use Rattle.gate_model.specs.session.History.{instructions}
use Rattle.gate_model.specs.Limits.{most_kept_text}
use Rattle.display_history.specs.Keeping.{HistoryState, HasKept, after_stamp, kept_end, last_stamp, nothing}
use Rattle.display_history.specs.Laws.{KeptAreFew, NewestIsKept, texts_of}
use Rattle.desk_core.specs.Frames.{joined_texts, newest_text}

-- the text of two lists
pub texts-append : (xs ys : List Instr) → texts (xs ++ ys) ≡ texts xs ++ texts ys
texts-append xs ys = flat_map-append text xs ys

-- one frame more, with its text
pub texts_of-more : (fs : List (ℕ × List Instr)) (t : ℕ) (frame : List Instr) → texts_of (fs ++ (t, frame) ∷ []) ≡ texts_of fs ++ (t, texts frame) ∷ []
texts_of-more fs t frame = map-append (λ (f : ℕ × List Instr). (f.0, texts f.1)) fs ((t, frame) ∷ [])

-- the texts of frames, joined, are the text of their instructions
pub joined_is : (fs : List (ℕ × List Instr)) → joined_texts (texts_of fs) ≡ texts (instructions fs)
joined_is [] = refl
joined_is (f ∷ fs) = ap (λ (xs : List ℕ). texts f.1 ++ xs) (joined_is fs) ∙ sym (texts-append f.1 (instructions fs))

pub last_stamp-more : (s : ℕ) (fs : List (ℕ × List ℕ)) (t : ℕ) (bytes : List ℕ) → last_stamp s (fs ++ (t, bytes) ∷ []) ≡ t
last_stamp-more s [] t bytes = refl
last_stamp-more s (f ∷ fs) t bytes = last_stamp-more f.0 fs t bytes

-- no frame was pushed
pub nothing_kept : HasKept nothing []
nothing_kept = record { rising = tt; before = []; cut = refl; gone = refl; kept = refl }

after-few : (t : ℕ) (fs : List (ℕ × List ℕ)) → length (after_stamp t fs) ≤ length fs
after-few t [] = omega arith
after-few t (f ∷ fs) = cases (nat_lt t f.0) refl (after-few t fs)
  where
    cases : (b : Bool) → nat_lt t f.0 ≡ b → length (after_stamp t fs) ≤ length fs → length (after_stamp t (f ∷ fs)) ≤ length (f ∷ fs)
    cases true e more = rw e (omega (arith, more))
    cases false e more = rw e (omega (arith, more))

-- few of the kept frames are above a stamp
pub few_after : KeptAreFew → (s : HistoryState) (all : List (ℕ × List ℕ)) (t : ℕ) → HasKept s all → length (after_stamp t s.kept) ≤ 256
few_after few s all t has = omega (arith, (few s all has).0, after-few t s.kept)

-- the newest frame is the last that is kept, or what is beside them is its text
pub newest_is : NewestIsKept → (all : List (ℕ × List ℕ)) (t : ℕ) (text : List ℕ) (kept : List (ℕ × List ℕ)) (beside : List ℕ) → kept ≡ kept_end (all ++ (t, text) ∷ []) → (most_kept_text < length text → beside ≡ text) → newest_text kept beside ≡ text
newest_is law all t text kept beside is copied = cases (nat_le (length text) most_kept_text) refl
  where
    cases : (b : Bool) → nat_le (length text) most_kept_text ≡ b → newest_text kept beside ≡ text
    cases true e =
        let le : length text ≤ most_kept_text = grind (arith, nat_tests) in
        ap (λ (fs : List (ℕ × List ℕ)). newest_text fs beside) is ∙ ap (λ (o : Option (ℕ × List ℕ)). unwrap_or (option_map (λ f. f.1) o) beside) ((law all (t, text)).0 le)
    cases false e =
        let lt : most_kept_text < length text = grind (arith, nat_tests) in
        ap (λ (fs : List (ℕ × List ℕ)). newest_text fs beside) (is ∙ (law all (t, text)).1 lt) ∙ copied lt
