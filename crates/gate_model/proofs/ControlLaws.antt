-- A head of control functions takes something, and finds the same whatever follows.
use Rattle.std.proofs.Common.{◌≡◌, ℕ, zero, suc, ◌≤◌, ◌<◌, List, [], ◌∷◌, ◌++◌, length, Bool, true, false, cond, Some, refl, ap, ◌∙◌, arith}
use Rattle.std.proofs.lemmas.Bool.{false≢true}
use Rattle.std.proofs.lemmas.List.Sums.{take_while-cons}
use Rattle.std.specs.Prelude.{◌==◌, is_some}
use Rattle.std.specs.List.{take_while}
use Rattle.gate_model.specs.declared.control.Control.{Control}
use Rattle.gate_model.specs.terminal.Controls.{Found, after_while, ended_by, no_control, is_parameter, is_intermediate, is_csi_final, sequence, csi_after, ends_string, string_escape, head_string, head_palette, head_osc, is_escape_final, begins_string, escape_after, plain_escape, head_escape, head_control}
use Rattle.gate_model.specs.text.Reading.{IsHead}
use Rattle.gate_model.proofs.Heads.{carried, either, left_of, left-either}

ended_by-carried : (p : ℕ → Bool) (given : ℕ → List Control) (xs more : List ℕ) → is_some (ended_by p given xs) ≡ true
    → ended_by p given (xs ++ more) ≡ carried more (ended_by p given xs)
ended_by-carried p given [] more e = absurd (false≢true e)
ended_by-carried p given (c ∷ cs) more e = either (p c) more _ _ _ _ (λ s. refl) (λ s. refl) e

string_escape-carried : (xs more : List ℕ) → is_some (string_escape xs) ≡ true → string_escape (xs ++ more) ≡ carried more (string_escape xs)
string_escape-carried [] more e = absurd (false≢true e)
string_escape-carried (c ∷ cs) more e = either (c == 0x5C) more _ _ _ _ (λ s. refl) (λ s. refl) e

head_string-carried : (bell : Bool) (xs more : List ℕ) → is_some (head_string bell xs) ≡ true → head_string bell (xs ++ more) ≡ carried more (head_string bell xs)
head_string-carried bell [] more e = absurd (false≢true e)
head_string-carried bell (c ∷ cs) more e = either (ends_string bell c) more _ _ _ _ (λ s. refl)
    (λ s. either (c == 0x1B) more _ _ _ _ (string_escape-carried cs more) (head_string-carried bell cs more) s) e

head_palette-carried : (n : ℕ) (xs more : List ℕ) → is_some (head_palette n xs) ≡ true → head_palette n (xs ++ more) ≡ carried more (head_palette n xs)
head_palette-carried zero xs more e = refl
head_palette-carried (suc n) [] more e = absurd (false≢true e)
head_palette-carried (suc zero) (c ∷ cs) more e = refl
head_palette-carried (suc (suc n)) (c ∷ []) more e = absurd (false≢true e)
head_palette-carried (suc (suc n)) (c ∷ d ∷ cs) more e = either (c == 0x1B) more _ _ _ _
    (λ s. either (d == 0x5C) more _ _ _ _ (head_palette-carried n cs more) (λ t. refl) s)
    (head_palette-carried (suc n) (d ∷ cs) more) e

head_osc-carried : (xs more : List ℕ) → is_some (head_osc xs) ≡ true → head_osc (xs ++ more) ≡ carried more (head_osc xs)
head_osc-carried [] more e = absurd (false≢true e)
head_osc-carried (c ∷ cs) more e = either (c == 0x52) more _ _ _ _ (λ s. refl)
    (λ s. either (c == 0x50) more _ _ _ _ (head_palette-carried 7 cs more) (head_string-carried true (c ∷ cs) more) s) e

-- ---- runs of characters

-- a run that ended stays as it is
pub record IsEnded (p : ℕ → Bool) (xs more : List ℕ) : Type 0 where
  pub run : take_while p (xs ++ more) ≡ take_while p xs
  pub rest : after_while p (xs ++ more) ≡ after_while p xs ++ more

run-ended : (p : ℕ → Bool) (xs more : List ℕ) → 0 < length (after_while p xs) → IsEnded p xs more
run-ended p [] more some = absurd (omega arith)
run-ended p (c ∷ cs) more some = by_test (p c) refl some (run-ended p cs more)
  where
    by_test : (b : Bool) → p c ≡ b → 0 < length (cond b (after_while p cs) (c ∷ cs)) → (0 < length (after_while p cs) → IsEnded p cs more) → IsEnded p (c ∷ cs) more
    by_test true e some shorter =
        let rest = shorter some in
        record {
          run = rw (take_while-cons p c (cs ++ more), take_while-cons p c cs, e) (ap (λ (t : List ℕ). c ∷ t) rest.run);
          rest = rw e rest.rest;
        }
    by_test false e some shorter = record {
      run = rw (take_while-cons p c (cs ++ more), take_while-cons p c cs, e) refl;
      rest = rw e refl;
    }

-- a run of a run that ended hasn't ended where nothing is left
ended_by-some : (p : ℕ → Bool) (given : ℕ → List Control) (xs : List ℕ) → is_some (ended_by p given xs) ≡ true → 0 < length xs
ended_by-some p given [] e = absurd (false≢true e)
ended_by-some p given (c ∷ cs) e = omega arith

after_while-some : (p : ℕ → Bool) (xs : List ℕ) → 0 < length (after_while p xs) → 0 < length xs
after_while-some p [] some = absurd (omega arith)
after_while-some p (c ∷ cs) some = omega arith

escape_after-carried : (xs more : List ℕ) → is_some (escape_after xs) ≡ true → escape_after (xs ++ more) ≡ carried more (escape_after xs)
escape_after-carried xs more e =
    let others = after_while is_intermediate xs in
    let ended = run-ended is_intermediate xs more (ended_by-some is_escape_final no_control others e) in
    ap (ended_by is_escape_final no_control) ended.rest ∙ ended_by-carried is_escape_final no_control others more e

-- a control sequence from its parameters and what follows them
abbrev csi_from : List ℕ → List ℕ → Found
csi_from parameters others = ended_by is_csi_final (sequence parameters (take_while is_intermediate others)) (after_while is_intermediate others)

csi_from-carried : (parameters others more : List ℕ) → is_some (csi_from parameters others) ≡ true
    → csi_from parameters (others ++ more) ≡ carried more (csi_from parameters others)
csi_from-carried parameters others more e =
    let left = after_while is_intermediate others in
    let given = sequence parameters (take_while is_intermediate others) in
    let ended = run-ended is_intermediate others more (ended_by-some is_csi_final given left e) in
    ap (λ run. ended_by is_csi_final (sequence parameters run) (after_while is_intermediate (others ++ more))) ended.run
    ∙ ap (ended_by is_csi_final given) ended.rest ∙ ended_by-carried is_csi_final given left more e

csi_after-carried : (before xs more : List ℕ) → is_some (csi_after before xs) ≡ true → csi_after before (xs ++ more) ≡ carried more (csi_after before xs)
csi_after-carried before xs more e =
    let others = after_while is_parameter xs in
    let parameters = before ++ take_while is_parameter xs in
    let some = ended_by-some is_csi_final (sequence parameters (take_while is_intermediate others)) (after_while is_intermediate others) e in
    let ended = run-ended is_parameter xs more (after_while-some is_intermediate others some) in
    ap (λ run. csi_from (before ++ run) (after_while is_parameter (xs ++ more))) ended.run
    ∙ ap (csi_from parameters) ended.rest ∙ csi_from-carried parameters others more e

head_escape-carried : (xs more : List ℕ) → is_some (head_escape xs) ≡ true → head_escape (xs ++ more) ≡ carried more (head_escape xs)
head_escape-carried [] more e = absurd (false≢true e)
head_escape-carried (c ∷ cs) more e = either (c == 0x5B) more _ _ _ _ (csi_after-carried [] cs more)
    (λ s. either (c == 0x5D) more _ _ _ _ (head_osc-carried cs more)
    (λ t. either (begins_string c) more _ _ _ _ (head_string-carried false cs more)
    (λ u. either (is_intermediate c) more _ _ _ _ (escape_after-carried cs more)
    (ended_by-carried is_escape_final plain_escape (c ∷ cs) more) u) t) s) e

head_control-carried : (xs more : List ℕ) → is_some (head_control xs) ≡ true → head_control (xs ++ more) ≡ carried more (head_control xs)
head_control-carried [] more e = absurd (false≢true e)
head_control-carried (c ∷ cs) more e = either (c == 0x1B) more _ _ _ _ (head_escape-carried cs more) (λ s. refl) e

-- ---- what is left

after_while-left : (p : ℕ → Bool) (xs : List ℕ) → length (after_while p xs) ≤ length xs
after_while-left p [] = omega arith
after_while-left p (c ∷ cs) = by_test (p c) (after_while-left p cs)
  where
    by_test : (b : Bool) → length (after_while p cs) ≤ length cs → length (cond b (after_while p cs) (c ∷ cs)) ≤ length (c ∷ cs)
    by_test true le = omega arith
    by_test false le = omega arith

ended_by-left : (p : ℕ → Bool) (given : ℕ → List Control) (xs : List ℕ) → left_of (ended_by p given xs) ≤ length xs
ended_by-left p given [] = omega arith
ended_by-left p given (c ∷ cs) = left-either (p c) _ _ (length (c ∷ cs)) (omega arith) (omega arith)

string_escape-left : (xs : List ℕ) → left_of (string_escape xs) ≤ suc (length xs)
string_escape-left [] = omega arith
string_escape-left (c ∷ cs) = left-either (c == 0x5C) _ _ (suc (length (c ∷ cs))) (omega arith) (omega arith)

head_string-left : (bell : Bool) (xs : List ℕ) → left_of (head_string bell xs) ≤ length xs
head_string-left bell [] = omega arith
head_string-left bell (c ∷ cs) = left-either (ends_string bell c) _ _ (length (c ∷ cs)) (omega arith)
    (left-either (c == 0x1B) _ _ (length (c ∷ cs)) (string_escape-left cs) (omega (arith, head_string-left bell cs)))

head_palette-left : (n : ℕ) (xs : List ℕ) → left_of (head_palette n xs) ≤ length xs
head_palette-left zero xs = omega arith
head_palette-left (suc n) [] = omega arith
head_palette-left (suc zero) (c ∷ cs) = omega arith
head_palette-left (suc (suc n)) (c ∷ []) = omega arith
head_palette-left (suc (suc n)) (c ∷ d ∷ cs) =
    let all = length (c ∷ d ∷ cs) in
    left-either (c == 0x1B) _ _ all
    (left-either (d == 0x5C) _ _ all (omega (arith, head_palette-left n cs)) (omega arith))
    (omega (arith, head_palette-left (suc n) (d ∷ cs)))

head_osc-left : (xs : List ℕ) → left_of (head_osc xs) ≤ length xs
head_osc-left [] = omega arith
head_osc-left (c ∷ cs) =
    let all = length (c ∷ cs) in
    left-either (c == 0x52) _ _ all (omega arith)
    (left-either (c == 0x50) _ _ all (omega (arith, head_palette-left 7 cs)) (head_string-left true (c ∷ cs)))

csi_after-left : (before xs : List ℕ) → left_of (csi_after before xs) ≤ length xs
csi_after-left before xs =
    let others = after_while is_parameter xs in
    let given = sequence (before ++ take_while is_parameter xs) (take_while is_intermediate others) in
    omega (arith, ended_by-left is_csi_final given (after_while is_intermediate others), after_while-left is_intermediate others, after_while-left is_parameter xs)

head_escape-left : (xs : List ℕ) → left_of (head_escape xs) ≤ length xs
head_escape-left [] = omega arith
head_escape-left (c ∷ cs) =
    let all = length (c ∷ cs) in
    left-either (c == 0x5B) _ _ all (omega (arith, csi_after-left [] cs))
    (left-either (c == 0x5D) _ _ all (omega (arith, head_osc-left cs))
    (left-either (begins_string c) _ _ all (omega (arith, head_string-left false cs))
    (left-either (is_intermediate c) _ _ all
    (omega (arith, ended_by-left is_escape_final no_control (after_while is_intermediate cs), after_while-left is_intermediate cs))
    (ended_by-left is_escape_final plain_escape (c ∷ cs)))))

head_control-left : (c : ℕ) (cs : List ℕ) → left_of (head_control (c ∷ cs)) ≤ length cs
head_control-left c cs = left-either (c == 0x1B) _ _ (length cs) (head_escape-left cs) (omega arith)

pub head_control-is : IsHead head_control
head_control-is = record {
  shrinks = shrinking;
  stable = λ xs more rest given e. head_control-carried xs more (ap is_some e) ∙ ap (carried more) e;
}
  where
    shrinking : (xs rest : List ℕ) (given : List Control) → head_control xs ≡ Some (given, rest) → length rest < length xs
    shrinking [] rest given e = absurd (false≢true (ap is_some e))
    shrinking (c ∷ cs) rest given e = omega (arith, head_control-left c cs, ap left_of e)
