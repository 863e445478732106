-- Bytes that came and bytes that were given, one call after the other.
use Rattle.std.proofs.Common.{◌≡◌, ◌<◌, ◌≤◌, ℕ, ◌+◌, List, length, Bool, Some, None, length-append, arith, [], ◌++◌, Option, refl, ap, sym, subst, ◌∙◌, append_assoc, true, false, take, inl, inr}
use Rattle.std.specs.Prelude.{◌⊎◌, Result, Ok, Err, OnErr}
use Rattle.gate_outside.specs.Edge.{AtEnd, came}
use Rattle.gate_outside.proofs.Moved.{came-came, came-none}
use Rattle.clip_stream.specs.Sources.{Gave, IsOver, Keeps, Went, WentFar, counted, has_ended, on_left, rest_of, unread_of, waits}
use Rattle.std.proofs.lemmas.Bool.{false_from_ne_true, false≢true}
use Rattle.std.proofs.lemmas.List.{length-take-le}
use Rattle.clip_stream.proofs.Steps.{rest-over}
use Rattle.clip_stream.specs.declared.paster.Paster.{Paster}

abbrev pub went_gave : (left : Option (List ℕ)) (s t : Paster) (given : List ℕ) → Gave s t given → has_ended t ≡ has_ended s → Went left left s t given
went_gave left s t given gave same = record {
  read = [];
  came_is = sym (came-none left);
  so = λ more none. gave more;
  stays = λ e. (refl, same ∙ e);
  ends = λ e. inl (sym same ∙ e);
}

abbrev pub went_keeps : (left : Option (List ℕ)) (s t : Paster) → Keeps s t → has_ended t ≡ has_ended s → Went left left s t []
went_keeps left s t keeps same = went_gave left s t [] (λ more. sym (keeps more)) same

pub ends_then : (a b c : Option (List ℕ)) (s t u : Paster) (given more : List ℕ) → Went a b s t given → Went b c t u more → has_ended u ≡ true → (has_ended s ≡ true) ⊎ AtEnd c
ends_then a b c s t u given more v w e = either (w.ends e)
  where
    earlier : has_ended t ≡ true → (has_ended s ≡ true) ⊎ AtEnd b → (has_ended s ≡ true) ⊎ AtEnd c
    earlier was (inl before) = inl before
    earlier was (inr end) = inr (subst AtEnd (w.came_is ∙ ap (λ x. came x c) (w.stays was).0 ∙ came-none c) end)

    either : (has_ended t ≡ true) ⊎ AtEnd c → (has_ended s ≡ true) ⊎ AtEnd c
    either (inl was) = earlier was (v.ends was)
    either (inr end) = inr end

abbrev pub went_then : (a b c : Option (List ℕ)) (s t u : Paster) (given more : List ℕ) → Went a b s t given → Went b c t u more → Went a c s u (given ++ more)
went_then a b c s t u given more v w = record {
  read = v.read ++ w.read;
  came_is = v.came_is ∙ ap (came v.read) w.came_is ∙ came-came v.read w.read c;
  so = λ next none.
      ap (rest_of s) (append_assoc v.read w.read next)
      ∙ v.so (w.read ++ next) (λ e. let stays = w.stays e in ap (λ x. x ++ next) stays.0 ∙ none stays.1)
      ∙ ap (λ x. given ++ x) (w.so next none)
      ∙ sym (append_assoc given more (rest_of u next));
  stays = λ e. let one = v.stays e in let other = w.stays one.1 in (ap (λ x. x ++ w.read) one.0 ∙ other.0, other.1);
  ends = λ e. ends_then a b c s t u given more v w e;
}

pub far_then : (n m : ℕ) (a b c : Option (List ℕ)) (s t u : Paster) → WentFar n a b s t [] → WentFar m b c t u [] → WentFar (n + m) a c s u []
far_then n m a b c s t u v w = (went_then a b c s t u [] [] v.0 w.0, omega (arith, v.1, w.1, length-append v.0.read w.0.read))

pub far_keeps : (n : ℕ) (a b : Option (List ℕ)) (s t u : Paster) → WentFar n a b s t [] → Keeps t u → has_ended u ≡ has_ended t → WentFar n a b s u []
far_keeps n a b s t u v keeps same = (went_then a b b s t u [] [] v.0 (went_keeps b t u keeps same), omega (arith, v.1, length-append v.0.read []))

pub on_err : {A E : Type 0} (r : Result A E) (P : Type 0) → P → OnErr r P
on_err (Ok a) P p = tt
on_err (Err e) P p = p

-- where nothing is given at the end, nothing is to be given any more
pub is_over : (s t : Paster) (into : List ℕ) (n : ℕ) → Gave s t (take n into) → has_ended t ≡ true → has_ended s ≡ true → s.is_raw ≡ true → (waits s ≡ true → 0 < n) → n ≡ 0 → IsOver t
is_over s t into n gave ended was raw some is =
    let idle = false_from_ne_true (waits s) (λ e. let less : 0 < n = some e in omega (arith, less, is)) in (
      ended,
      λ more. sym (gave more ∙ ap (λ k. take k into ++ rest_of t more) is) ∙ rest-over s.is_raw s.is_ended s.clip.clip s.kept s.held more s.clip.waiting was raw idle,
    )

-- at the end nothing that comes counts
counted_same : (s : Paster) (more : List ℕ) → has_ended s ≡ true → rest_of s more ≡ rest_of s []
counted_same s more e = ap (λ (b : Bool). s.clip.waiting ++ unread_of s.is_raw s.kept s.clip.clip s.held (counted b more)) e ∙ sym (ap (λ (b : Bool). s.clip.waiting ++ unread_of s.is_raw s.kept s.clip.clip s.held (counted b [])) e)

-- what was given was still to be given, where the source tells what is left
pub went_left : (before after : Option (List ℕ)) (s t : Paster) (given : List ℕ) → Went before after s t given → on_left s before ≡ came given (on_left t after)
went_left before None s t given w = ap (on_left s) w.came_is
went_left before (Some y) s t given w = ap (on_left s) w.came_is ∙ ap Some (by_end (has_ended t) refl)
  where
    at_end : has_ended t ≡ true → (has_ended s ≡ true) ⊎ AtEnd (Some y) → rest_of s (w.read ++ y) ≡ given ++ rest_of t y
    at_end e (inl was) = counted_same s (w.read ++ y) was ∙ sym (counted_same s (w.read ++ []) was) ∙ w.so [] (λ ended. refl) ∙ ap (λ x. given ++ x) (sym (counted_same t y e))
    at_end e (inr none) = w.so y (λ ended. none)

    by_end : (b : Bool) → has_ended t ≡ b → rest_of s (w.read ++ y) ≡ given ++ rest_of t y
    by_end false e = w.so y (λ ended. absurd (false≢true (sym e ∙ ended)))
    by_end true e = at_end e (w.ends e)

-- of an end nothing is given
pub none_given : (left : Option (List ℕ)) (into : List ℕ) (n : ℕ) → n ≤ length into → Some [] ≡ came (take n into) left → n ≡ 0
none_given None into n fits e = cc
none_given (Some rest) into n fits e =
    let same : [] ≡ take n into ++ rest = cc in
    omega (arith, ap length same, length-append (take n into) rest, length-take-le n into fits)
