-- How many lines were scrolled is only counted: no control function looks at the number, and no report tells it.
use Rattle.std.proofs.Common.{◌≡◌, ℕ, zero, suc, ◌+◌, List, [], ◌∷◌, ◌++◌, Bool, true, false, refl, ◌∙◌, ap, arith}
use Rattle.std.specs.Prelude.{min, if◌then◌else◌, ◌==◌, ◌&&◌, ◌+◌, nat_lt, Option, Some, None}
use Rattle.std.specs.Int.{is_in_range}
use Rattle.gate_model.specs.declared.control.Control.{Control}
use Rattle.gate_model.specs.declared.control.Control.TheVariants.{Print, Code, Esc, Csi}
use Rattle.gate_model.specs.declared.control.Params.{Params}
use Rattle.gate_model.specs.terminal.Arguments.{first_amount, first_choice}
use Rattle.gate_model.specs.terminal.Terminal.{Terminal}
use Rattle.gate_model.specs.terminal.Cursor.{returned}
use Rattle.gate_model.specs.terminal.Editing.{display_erased, line_erased}
use Rattle.gate_model.specs.terminal.Cells.{mended}
use Rattle.gate_model.specs.terminal.Printing.{width_of, is_wide, fitting, given_room, printed_as, wrapped, opened_for, placed, printed, printed_often, repeated_as}
use Rattle.gate_model.specs.terminal.Reports.{report}
use Rattle.gate_model.specs.terminal.Replies.{reports_from}
use Rattle.gate_model.specs.terminal.Scrolling.{is_whole, scrolled_up, line_feed, reverse_line_feed, is_within, lines_inserted, lines_deleted, are_margins, with_margins}
use Rattle.gate_model.specs.terminal.Effects.{code_effect, escape_effect, cursor_effect, editing_effect, sequence_effect, private_effect, act, clears_wrap, effect}
use Rattle.gate_model.specs.terminal.Screens.{after_controls}
use Rattle.gate_model.specs.terminal.ScreenLaws.{scrolled_more}

-- the screen n is t with k more lines counted
record Counted (k : ℕ) (n t : Terminal) : Type 0 where
  is : n ≡ scrolled_more k t

same : (k : ℕ) (t : Terminal) → Counted k (scrolled_more k t) t
same k t = record { is = refl }

chosen : (k : ℕ) (b : Bool) (n m t u : Terminal) → Counted k n t → Counted k m u → Counted k (if b then n else m) (if b then t else u)
chosen k true n m t u c d = c
chosen k false n m t u c d = d

-- one function after another
after : (k : ℕ) (f : Terminal → Terminal) (n t : Terminal) → Counted k n t → Counted k (f (scrolled_more k t)) (f t) → Counted k (f n) (f t)
after k f n t c d = record { is = ap f c.is ∙ d.is }

-- ---- each function

up-counted : (k n : ℕ) (t : Terminal) → Counted k (scrolled_up n (scrolled_more k t)) (scrolled_up n t)
up-counted k n t = record { is = ap (λ (s : ℕ). record (scrolled_up n t) { shift = s }) (cases (is_whole t)) }
  where
    cases : (b : Bool) → (if b then t.shift + k + min n t.grid.rows else t.shift + k) ≡ (if b then t.shift + min n t.grid.rows else t.shift) + k
    cases true = omega arith
    cases false = refl

line_feed-counted : (k : ℕ) (t : Terminal) → Counted k (line_feed (scrolled_more k t)) (line_feed t)
line_feed-counted k t = chosen k (t.y == t.bottom) _ _ _ _ (up-counted k 1 t) (chosen k (nat_lt (t.y + 1) t.grid.rows) _ _ _ _ record { is = refl } (same k t))

reverse-counted : (k : ℕ) (t : Terminal) → Counted k (reverse_line_feed (scrolled_more k t)) (reverse_line_feed t)
reverse-counted k t = chosen k (t.y == t.top) _ _ _ _ record { is = refl } record { is = refl }

wrapped-counted : (k : ℕ) (t : Terminal) → Counted k (wrapped (scrolled_more k t)) (wrapped t)
wrapped-counted k t = chosen k t.pending _ _ _ _ (line_feed-counted k (returned t)) (same k t)

given-counted : (k : ℕ) (wide : Bool) (t : Terminal) → Counted k (given_room wide (scrolled_more k t)) (given_room wide t)
given-counted k wide t = chosen k (wide && t.x + 1 == t.grid.cols) _ _ _ _ (chosen k t.modes.wrap _ _ _ _ (line_feed-counted k (returned t)) record { is = refl }) (same k t)

opened-counted : (k n : ℕ) (t : Terminal) → Counted k (opened_for n (scrolled_more k t)) (opened_for n t)
opened-counted k n t = chosen k t.modes.insert _ _ _ _ record { is = refl } (same k t)

placed-counted : (k : ℕ) (wide : Bool) (c : ℕ) (t : Terminal) → Counted k (placed wide c (scrolled_more k t)) (placed wide c t)
placed-counted k true c t = record { is = refl }
placed-counted k false c t = record { is = refl }

printed_as-counted : (k : ℕ) (wide : Bool) (c : ℕ) (t : Terminal) → Counted k (printed_as wide c (scrolled_more k t)) (printed_as wide c t)
printed_as-counted k wide c t =
    let n = if wide then 2 else 1 in
    let w = wrapped t in
    let more = wrapped (scrolled_more k t) in
    let given : Counted k (given_room wide more) (given_room wide w) = after k (given_room wide) more w (wrapped-counted k t) (given-counted k wide w) in
    let opened : Counted k (opened_for n (given_room wide more)) (opened_for n (given_room wide w)) = after k (opened_for n) (given_room wide more) (given_room wide w) given (opened-counted k n (given_room wide w)) in
    after k (placed wide c) (opened_for n (given_room wide more)) (opened_for n (given_room wide w)) opened (placed-counted k wide c (opened_for n (given_room wide w)))

printed-counted : (k c : ℕ) (t : Terminal) → Counted k (printed c (scrolled_more k t)) (printed c t)
printed-counted k c t = let shown = fitting t.grid.cols c in chosen k (width_of c == 0) _ _ _ _ (same k t) (printed_as-counted k (is_wide shown) shown t)

often-counted : (k n c : ℕ) (t : Terminal) → Counted k (printed_often n c (scrolled_more k t)) (printed_often n c t)
unfolding printed_often
often-counted k zero c t = same k t
often-counted k (suc n) c t = after k (printed_often n c) (printed c (scrolled_more k t)) (printed c t) (printed-counted k c t) (often-counted k n c (printed c t))

repeated-counted : (k n : ℕ) (o : Option ℕ) (t : Terminal) → Counted k (repeated_as n o (scrolled_more k t)) (repeated_as n o t)
repeated-counted k n None t = same k t
repeated-counted k n (Some c) t = often-counted k (min n t.grid.cols) c t

code-counted : (k code : ℕ) (t : Terminal) → Counted k (code_effect code (scrolled_more k t)) (code_effect code t)
code-counted k code t =
    chosen k (code == 0x08) _ _ _ _ record { is = refl } (
    chosen k (code == 0x09) _ _ _ _ record { is = refl } (
    chosen k (is_in_range 0x0A 0x0C code) _ _ _ _ (line_feed-counted k t) (
    chosen k (code == 0x0D) _ _ _ _ record { is = refl } (same k t))))

escape-counted : (k last : ℕ) (t : Terminal) → Counted k (escape_effect last (scrolled_more k t)) (escape_effect last t)
escape-counted k last t =
    chosen k (last == 0x37) _ _ _ _ record { is = refl } (
    chosen k (last == 0x38) _ _ _ _ record { is = refl } (
    chosen k (last == 0x45) _ _ _ _ (line_feed-counted k (returned t)) (
    chosen k (last == 0x48) _ _ _ _ record { is = refl } (
    chosen k (last == 0x4D) _ _ _ _ (reverse-counted k t) (
    chosen k (last == 0x63) _ _ _ _ record { is = refl } (same k t))))))

cursor-counted : (k : ℕ) (p : Params) (last : ℕ) (t : Terminal) → Counted k (cursor_effect p last (scrolled_more k t)) (cursor_effect p last t)
cursor-counted k p last t =
    chosen k (last == 0x41) _ _ _ _ record { is = refl } (
    chosen k (last == 0x42) _ _ _ _ record { is = refl } (
    chosen k (last == 0x43) _ _ _ _ record { is = refl } (
    chosen k (last == 0x44) _ _ _ _ record { is = refl } (
    chosen k (last == 0x45) _ _ _ _ record { is = refl } (
    chosen k (last == 0x46) _ _ _ _ record { is = refl } (
    chosen k (last == 0x47) _ _ _ _ record { is = refl } (
    chosen k (last == 0x48) _ _ _ _ record { is = refl } (
    chosen k (last == 0x49) _ _ _ _ record { is = refl } (
    chosen k (last == 0x5A) _ _ _ _ record { is = refl } (
    chosen k (last == 0x64) _ _ _ _ record { is = refl } (
    chosen k (last == 0x66) _ _ _ _ record { is = refl } (same k t))))))))))))

display-counted : (k which : ℕ) (t : Terminal) → Counted k (display_erased which (scrolled_more k t)) (display_erased which t)
display-counted k which t =
    chosen k (which == 0) _ _ _ _ record { is = refl } (
    chosen k (which == 1) _ _ _ _ record { is = refl } (
    chosen k (which == 2) _ _ _ _ record { is = refl } (same k t)))

line-counted : (k which : ℕ) (t : Terminal) → Counted k (line_erased which (scrolled_more k t)) (line_erased which t)
line-counted k which t =
    chosen k (which == 0) _ _ _ _ record { is = refl } (
    chosen k (which == 1) _ _ _ _ record { is = refl } (
    chosen k (which == 2) _ _ _ _ record { is = refl } (same k t)))

inserted-counted : (k n : ℕ) (t : Terminal) → Counted k (lines_inserted n (scrolled_more k t)) (lines_inserted n t)
inserted-counted k n t = chosen k (is_within t) _ _ _ _ record { is = refl } (same k t)

deleted-counted : (k n : ℕ) (t : Terminal) → Counted k (lines_deleted n (scrolled_more k t)) (lines_deleted n t)
deleted-counted k n t = chosen k (is_within t) _ _ _ _ record { is = refl } (same k t)

margins-counted : (k : ℕ) (p : Params) (t : Terminal) → Counted k (with_margins p (scrolled_more k t)) (with_margins p t)
margins-counted k p t = chosen k (are_margins p t) _ _ _ _ record { is = refl } (same k t)

editing-counted : (k : ℕ) (p : Params) (last : ℕ) (t : Terminal) → Counted k (editing_effect p last (scrolled_more k t)) (editing_effect p last t)
editing-counted k p last t = let n = first_amount p in
    chosen k (last == 0x40) _ _ _ _ record { is = refl } (
    chosen k (last == 0x4A) _ _ _ _ (display-counted k (first_choice p) t) (
    chosen k (last == 0x4B) _ _ _ _ (line-counted k (first_choice p) t) (
    chosen k (last == 0x4C) _ _ _ _ (inserted-counted k n t) (
    chosen k (last == 0x4D) _ _ _ _ (deleted-counted k n t) (
    chosen k (last == 0x50) _ _ _ _ record { is = refl } (
    chosen k (last == 0x53) _ _ _ _ (up-counted k n t) (
    chosen k (last == 0x54) _ _ _ _ record { is = refl } (
    chosen k (last == 0x58) _ _ _ _ record { is = refl } (cursor-counted k p last t)))))))))

sequence-counted : (k : ℕ) (p : Params) (last : ℕ) (t : Terminal) → Counted k (sequence_effect p last (scrolled_more k t)) (sequence_effect p last t)
sequence-counted k p last t =
    chosen k (last == 0x62) _ _ _ _ (repeated-counted k (first_amount p) t.last t) (
    chosen k (last == 0x67) _ _ _ _ record { is = refl } (
    chosen k (last == 0x68) _ _ _ _ record { is = refl } (
    chosen k (last == 0x6C) _ _ _ _ record { is = refl } (
    chosen k (last == 0x6D) _ _ _ _ record { is = refl } (
    chosen k (last == 0x72) _ _ _ _ (margins-counted k p t) (editing-counted k p last t))))))

private-counted : (k : ℕ) (p : Params) (last : ℕ) (t : Terminal) → Counted k (private_effect p last (scrolled_more k t)) (private_effect p last t)
private-counted k p last t =
    chosen k (last == 0x68) _ _ _ _ record { is = refl } (
    chosen k (last == 0x6C) _ _ _ _ record { is = refl } (same k t))

act-counted : (k : ℕ) (c : Control) (t : Terminal) → Counted k (act c (scrolled_more k t)) (act c t)
act-counted k (Print c) t = printed-counted k c t
act-counted k (Code code) t = code-counted k code t
act-counted k (Esc last) t = escape-counted k last t
act-counted k (Csi private params last) t = chosen k private _ _ _ _ (private-counted k params last t) (sequence-counted k params last t)

clears-counted : (k : ℕ) (c : Control) (t : Terminal) → clears_wrap c (scrolled_more k t) ≡ clears_wrap c t
clears-counted k (Print c) t = refl
clears-counted k (Code code) t = refl
clears-counted k (Esc last) t = refl
clears-counted k (Csi private params last) t = refl

effect-counted : (k : ℕ) (c : Control) (t : Terminal) → effect c (scrolled_more k t) ≡ scrolled_more k (effect c t)
effect-counted k c t =
    ap (λ (n : Terminal). record n { grid = mended n.grid; pending = if clears_wrap c (scrolled_more k t) then false else n.pending }) (act-counted k c t).is
    ∙ ap (λ (b : Bool). record (scrolled_more k (act c t)) { grid = mended (act c t).grid; pending = if b then false else (act c t).pending }) (clears-counted k c t)

report-counted : (k : ℕ) (c : Control) (t : Terminal) → report c (scrolled_more k t) ≡ report c t
report-counted k (Print c) t = refl
report-counted k (Code code) t = refl
report-counted k (Esc last) t = refl
report-counted k (Csi private params last) t = refl

-- ---- any number of functions

pub scrolls-counted : (k : ℕ) (t : Terminal) (cs : List Control) → after_controls (scrolled_more k t) cs ≡ scrolled_more k (after_controls t cs)
scrolls-counted k t [] = refl
scrolls-counted k t (c ∷ cs) = ap (λ (n : Terminal). after_controls n cs) (effect-counted k c t) ∙ scrolls-counted k (effect c t) cs

pub scrolls-unreported : (k : ℕ) (t : Terminal) (cs : List Control) → reports_from (scrolled_more k t) cs ≡ reports_from t cs
scrolls-unreported k t [] = refl
scrolls-unreported k t (c ∷ cs) =
    ap (λ (xs : List ℕ). xs ++ reports_from (effect c (scrolled_more k t)) cs) (report-counted k c t)
    ∙ ap (λ (xs : List ℕ). report c t ++ xs) (ap (λ (n : Terminal). reports_from n cs) (effect-counted k c t) ∙ scrolls-unreported k (effect c t) cs)
