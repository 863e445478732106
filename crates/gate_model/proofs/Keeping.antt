-- Which frames are kept: the last ones within the limits; and whether they cover a stamp is one comparison.
use Rattle.std.proofs.Common.{◌≡◌, ℕ, ◌+◌, ◌<◌, ◌≤◌, List, [], ◌∷◌, ◌++◌, length, Bool, true, false, ◌&&◌, refl, ap, sym, ◌∙◌, subst, arith, append-nil, length-append}
use Rattle.std.specs.Prelude.{◌↔◌, None, unwrap_or, nat_lt, nat_le, if◌then◌else◌, Option}
use Rattle.std.proofs.lemmas.List.Elements.{filter-append}
use Rattle.std.proofs.lemmas.Bool.Decides.{nat_tests}
use Rattle.gate_model.specs.declared.instr.Instr.{Instr}
use Rattle.gate_model.specs.declared.entry.Entry.{Entry}
use Rattle.gate_model.specs.declared.entry.Entry.TheVariants.{Start, Feed, Size, Join, Read, Write, Take, Leave, Close}
use Rattle.gate_model.specs.Limits.{most_kept_frames, most_kept_text}
use Rattle.gate_model.specs.session.Entries.{framed, stamp_of}
use Rattle.gate_model.specs.session.History.{History, frames, frames_after, newest}
use Rattle.gate_model.specs.session.Kept.{text_size, may_be_kept, kept_of, kept, Covers, last_stamp_from}
use Rattle.gate_model.specs.session.Steps.{Legal}
use Rattle.gate_model.proofs.Added.{IsNext, next}

-- ---- rising stamps

-- each frame's stamp is above the one before
abbrev AreRising : ℕ → List (ℕ × List Instr) → Type 0
AreRising s [] = Unit {0}
AreRising s (f ∷ fs) = (s < f.0) × AreRising f.0 fs

rising-more : (s : ℕ) (fs : List (ℕ × List Instr)) (t : ℕ) (frame : List Instr) → AreRising s fs → last_stamp_from s fs < t → AreRising s (fs ++ (t, frame) ∷ [])
rising-more s [] t frame r lt = (lt, tt)
rising-more s (f ∷ fs) t frame r lt = (r.0, rising-more f.0 fs t frame r.1 lt)

last_stamp-more : (s : ℕ) (fs : List (ℕ × List Instr)) (t : ℕ) (frame : List Instr) → last_stamp_from s (fs ++ (t, frame) ∷ []) ≡ t
last_stamp-more s [] t frame = refl
last_stamp-more s (f ∷ fs) t frame = last_stamp-more f.0 fs t frame

-- the frames of the history rise up to the newest stamp
record Rises (h : History) : Type 0 where
  rising : AreRising 0 (frames h)
  last : last_stamp_from 0 (frames h) ≡ newest h

plain_rises : (g : History) (e : Entry) → framed e ≡ [] → stamp_of e ≡ None → Rises g → Rises (e ∷ g)
plain_rises g e none no_stamp r =
    let same : frames (e ∷ g) ≡ frames g = ap (λ (fs : List (ℕ × List Instr)). frames g ++ fs) none ∙ append-nil (frames g) in
    let stays : newest (e ∷ g) ≡ newest g = ap (λ (o : Option ℕ). unwrap_or o (newest g)) no_stamp in
    record { rising = subst (AreRising 0) (sym same) r.rising; last = ap (last_stamp_from 0) same ∙ (r.last ∙ sym stays) }

next_rises : (g : History) (e : Entry) → Rises g → IsNext g e → Rises (e ∷ g)
next_rises g (Feed bytes stamp frame) r s =
    let above : newest g < stamp = omega (arith, s.is_next) in
    record { rising = rising-more 0 (frames g) stamp frame r.rising (omega (arith, r.last, above)); last = last_stamp-more 0 (frames g) stamp frame }
next_rises g (Size viewer cols rows stamp frame) r s =
    let above : newest g < stamp = omega (arith, s.is_next) in
    record { rising = rising-more 0 (frames g) stamp frame r.rising (omega (arith, r.last, above)); last = last_stamp-more 0 (frames g) stamp frame }
next_rises g (Join viewer role first) r s = plain_rises g (Join viewer role first) refl refl r
next_rises g (Read viewer how) r s = plain_rises g (Read viewer how) refl refl r
next_rises g (Write viewer acts) r s = plain_rises g (Write viewer acts) refl refl r
next_rises g (Take count) r s = plain_rises g (Take count) refl refl r
next_rises g (Leave viewer) r s = plain_rises g (Leave viewer) refl refl r
next_rises g (Close cause) r s = plain_rises g (Close cause) refl refl r
next_rises g (Start cols rows mode term faces entries stamp frame) r s = absurd s

rises_of : (h : History) → Legal h → Rises h
rises_of [] l = absurd l
rises_of (e ∷ []) l = subst (λ (x : Entry). Rises (x ∷ [])) (sym l.2.4) record { rising = (omega arith, tt); last = refl }
rises_of (e ∷ f ∷ g) l = next_rises (f ∷ g) e (rises_of (f ∷ g) l.0) (next e f g l)

-- ---- frames above a stamp

low_from : (s : ℕ) (fs : List (ℕ × List Instr)) → AreRising s fs → s ≤ last_stamp_from s fs
low_from s [] r = omega arith
low_from s (f ∷ fs) r = omega (arith, r.0, low_from f.0 fs r.1)

-- at the last stamp or above it there is no frame more
none_above : (s t : ℕ) (fs : List (ℕ × List Instr)) → AreRising s fs → last_stamp_from s fs ≤ t → frames_after t fs ≡ []
none_above s t [] r le = refl
none_above s t (f ∷ fs) r le =
    let low : f.0 ≤ t = omega (arith, low_from f.0 fs r.1, le) in
    rw (not_below f.0 low) (none_above f.0 t fs r.1 le)
  where
    not_below : (u : ℕ) → u ≤ t → nat_lt t u ≡ false
    not_below u low = grind (arith, nat_tests)

-- below it there is one
some_above : (s t : ℕ) (fs : List (ℕ × List Instr)) → s ≤ t → t < last_stamp_from s fs → frames_after t fs ≡ [] → ⊥
some_above s t [] low lt none = omega arith
some_above s t (f ∷ fs) low lt none = cases (nat_lt t f.0) refl (λ le rest. some_above f.0 t fs le lt rest)
  where
    cases : (b : Bool) → nat_lt t f.0 ≡ b → (f.0 ≤ t → frames_after t fs ≡ [] → ⊥) → ⊥
    cases true e more = let there : f ∷ frames_after t fs ≡ [] = subst (λ (b : Bool). (if b then f ∷ frames_after t fs else frames_after t fs) ≡ []) e none in cc
    cases false e more = more (grind (arith, nat_tests, e)) (subst (λ (b : Bool). (if b then f ∷ frames_after t fs else frames_after t fs) ≡ []) e none)

rising-front : (s : ℕ) (xs ys : List (ℕ × List Instr)) → AreRising s (xs ++ ys) → AreRising s xs
rising-front s [] ys r = tt
rising-front s (f ∷ xs) ys r = (r.0, rising-front f.0 xs ys r.1)

nothing_before : {A : Type 0} (xs ys : List A) → xs ++ ys ≡ ys → xs ≡ []
nothing_before [] ys e = refl
nothing_before (x ∷ xs) ys e = absurd (omega (arith, ap length e, length-append (x ∷ xs) ys))

-- with the frames before the kept ones, the kept ones cover a stamp exactly where it is at least the last of those
covers_from : (h : History) (before : List (ℕ × List Instr)) (t : ℕ) → Rises h → frames h ≡ before ++ kept h → last_stamp_from 0 before ≤ t → Covers h t
covers_from h before t f cut le =
    let rising : AreRising 0 before = rising-front 0 before (kept h) (subst (AreRising 0) cut f.rising) in
    ap (frames_after t) cut ∙ (filter-append (λ (p : ℕ × List Instr). nat_lt t p.0) before (kept h) ∙ ap (λ (xs : List (ℕ × List Instr)). xs ++ frames_after t (kept h)) (none_above 0 t before rising le))

covers_not : (h : History) (before : List (ℕ × List Instr)) (t : ℕ) → frames h ≡ before ++ kept h → t < last_stamp_from 0 before → Covers h t → ⊥
covers_not h before t cut lt covers =
    let parts : frames_after t before ++ frames_after t (kept h) ≡ frames_after t (kept h) = sym (filter-append (λ (p : ℕ × List Instr). nat_lt t p.0) before (kept h)) ∙ (ap (frames_after t) (sym cut) ∙ covers) in
    some_above 0 t before (omega arith) lt (nothing_before (frames_after t before) (frames_after t (kept h)) parts)

pub covers-by_stamp : (h : History) → Legal h → (gone : List (ℕ × List Instr)) → frames h ≡ gone ++ kept h → (t : ℕ) → (last_stamp_from 0 gone ≤ t) ↔ Covers h t
covers-by_stamp h l gone cut t = (covers_from h gone t (rises_of h l) cut, λ covers. at_least (nat_le (last_stamp_from 0 gone) t) refl covers)
  where
    at_least : (b : Bool) → nat_le (last_stamp_from 0 gone) t ≡ b → Covers h t → last_stamp_from 0 gone ≤ t
    at_least true e covers = grind (arith, nat_tests)
    at_least false e covers = let lt : t < last_stamp_from 0 gone = grind (arith, nat_tests) in absurd (covers_not h gone t cut lt covers)

-- ---- the kept frames

-- the frames are some that are gone and the kept ones
pub kept-last : (fs : List (ℕ × List Instr)) → (gone : List (ℕ × List Instr)) × (fs ≡ gone ++ kept_of fs)
kept-last [] = ([], refl)
kept-last (f ∷ fs) = cases (may_be_kept (f ∷ fs)) refl (kept-last fs)
  where
    cases : (b : Bool) → may_be_kept (f ∷ fs) ≡ b → (gone : List (ℕ × List Instr)) × (fs ≡ gone ++ kept_of fs) → (gone : List (ℕ × List Instr)) × (f ∷ fs ≡ gone ++ kept_of (f ∷ fs))
    cases true e more = ([], let is : kept_of (f ∷ fs) ≡ f ∷ fs = rw e refl in sym is)
    cases false e more = (f ∷ more.0, let is : kept_of (f ∷ fs) ≡ kept_of fs = rw e refl in ap (λ (xs : List (ℕ × List Instr)). f ∷ xs) (more.1 ∙ ap (λ (xs : List (ℕ × List Instr)). more.0 ++ xs) (sym is)))

text_size-append : (fs gs : List (ℕ × List Instr)) → text_size (fs ++ gs) ≡ text_size fs + text_size gs
text_size-append [] gs = omega arith
text_size-append (f ∷ fs) gs = omega (arith, text_size-append fs gs)

both : (b c : Bool) → (b && c) ≡ true → (b ≡ true) × (c ≡ true)
both true c e = (refl, e)
both false c e = absurd (let w : false ≡ true = e in cc)

within : (n m : ℕ) → nat_le n m ≡ true → n ≤ m
within n m e = grind (arith, nat_tests)

is_within : (n m : ℕ) → n ≤ m → nat_le n m ≡ true
is_within n m le = grind (arith, nat_tests)

-- what is too long stays so
longer_fails : (fs gs : List (ℕ × List Instr)) → may_be_kept fs ≡ false → may_be_kept (fs ++ gs) ≡ false
longer_fails fs gs off = cases (may_be_kept (fs ++ gs)) refl
  where
    cases : (b : Bool) → may_be_kept (fs ++ gs) ≡ b → may_be_kept (fs ++ gs) ≡ false
    cases false e = e
    cases true e =
        let parts = both (nat_le (length (fs ++ gs)) most_kept_frames) (nat_le (text_size (fs ++ gs)) most_kept_text) e in
        let few : length (fs ++ gs) ≤ most_kept_frames = within (length (fs ++ gs)) most_kept_frames parts.0 in
        let small : text_size (fs ++ gs) ≤ most_kept_text = within (text_size (fs ++ gs)) most_kept_text parts.1 in
        let first : nat_le (length fs) most_kept_frames ≡ true = is_within (length fs) most_kept_frames (omega (arith, few, length-append fs gs)) in
        let second : nat_le (text_size fs) most_kept_text ≡ true = is_within (text_size fs) most_kept_text (omega (arith, small, text_size-append fs gs)) in
        absurd (let wrong : (true && true) ≡ false = ap (λ (b : Bool). b && true) (sym first) ∙ (ap (λ (b : Bool). nat_le (length fs) most_kept_frames && b) (sym second) ∙ off) in cc)

-- the kept frames of a longer list are those of the kept ones and the new
pub kept-more : (fs gs : List (ℕ × List Instr)) → kept_of (fs ++ gs) ≡ kept_of (kept_of fs ++ gs)
kept-more [] gs = refl
kept-more (f ∷ fs) gs = cases (may_be_kept (f ∷ fs)) refl (kept-more fs gs)
  where
    cases : (b : Bool) → may_be_kept (f ∷ fs) ≡ b → kept_of (fs ++ gs) ≡ kept_of (kept_of fs ++ gs) → kept_of ((f ∷ fs) ++ gs) ≡ kept_of (kept_of (f ∷ fs) ++ gs)
    cases true e more = let is : kept_of (f ∷ fs) ≡ f ∷ fs = rw e refl in ap (λ (xs : List (ℕ × List Instr)). kept_of (xs ++ gs)) (sym is)
    cases false e more =
        let is : kept_of (f ∷ fs) ≡ kept_of fs = rw e refl in
        let longer : kept_of ((f ∷ fs) ++ gs) ≡ kept_of (fs ++ gs) = rw (longer_fails (f ∷ fs) gs e) refl in
        longer ∙ (more ∙ ap (λ (xs : List (ℕ × List Instr)). kept_of (xs ++ gs)) (sym is))

-- within the limits
pub kept-few : (fs : List (ℕ × List Instr)) → (length (kept_of fs) ≤ most_kept_frames) × (text_size (kept_of fs) ≤ most_kept_text)
kept-few [] = (omega arith, omega arith)
kept-few (f ∷ fs) = cases (may_be_kept (f ∷ fs)) refl (kept-few fs)
  where
    cases : (b : Bool) → may_be_kept (f ∷ fs) ≡ b → (length (kept_of fs) ≤ most_kept_frames) × (text_size (kept_of fs) ≤ most_kept_text) → (length (kept_of (f ∷ fs)) ≤ most_kept_frames) × (text_size (kept_of (f ∷ fs)) ≤ most_kept_text)
    cases true e more =
        let parts = both (nat_le (length (f ∷ fs)) most_kept_frames) (nat_le (text_size (f ∷ fs)) most_kept_text) e in
        let is : kept_of (f ∷ fs) ≡ f ∷ fs = rw e refl in
        subst (λ (xs : List (ℕ × List Instr)). (length xs ≤ most_kept_frames) × (text_size xs ≤ most_kept_text)) (sym is) (within (length (f ∷ fs)) most_kept_frames parts.0, within (text_size (f ∷ fs)) most_kept_text parts.1)
    cases false e more =
        let is : kept_of (f ∷ fs) ≡ kept_of fs = rw e refl in
        subst (λ (xs : List (ℕ × List Instr)). (length xs ≤ most_kept_frames) × (text_size xs ≤ most_kept_text)) (sym is) more

-- one more than the kept ones is too many, or too long
pub kept-all : (fs gone : List (ℕ × List Instr)) (f : ℕ × List Instr) → fs ≡ gone ++ f ∷ kept_of fs → may_be_kept (f ∷ kept_of fs) ≡ false
kept-all [] [] f e = absurd (let w : [] ≡ f ∷ [] = e in cc)
kept-all [] (x ∷ gone) f e = absurd (let w : [] ≡ x ∷ (gone ++ f ∷ []) = e in cc)
kept-all (x ∷ fs) gone f e = cases (may_be_kept (x ∷ fs)) refl (kept-all fs)
  where
    cases : (b : Bool) → may_be_kept (x ∷ fs) ≡ b → ((gone : List (ℕ × List Instr)) (f : ℕ × List Instr) → fs ≡ gone ++ f ∷ kept_of fs → may_be_kept (f ∷ kept_of fs) ≡ false) → may_be_kept (f ∷ kept_of (x ∷ fs)) ≡ false
    cases true b more =
        let is : kept_of (x ∷ fs) ≡ x ∷ fs = rw b refl in
        let long : length (x ∷ fs) ≡ length (gone ++ f ∷ (x ∷ fs)) = ap length (e ∙ ap (λ (xs : List (ℕ × List Instr)). gone ++ f ∷ xs) is) in
        absurd (omega (arith, long, length-append gone (f ∷ (x ∷ fs))))
    cases false b more =
        let is : kept_of (x ∷ fs) ≡ kept_of fs = rw b refl in
        subst (λ (xs : List (ℕ × List Instr)). may_be_kept (f ∷ xs) ≡ false) (sym is) (parts gone (e ∙ ap (λ (xs : List (ℕ × List Instr)). gone ++ f ∷ xs) is))
      where
        parts : (gone : List (ℕ × List Instr)) → x ∷ fs ≡ gone ++ f ∷ kept_of fs → may_be_kept (f ∷ kept_of fs) ≡ false
        parts [] q =
            let first : x ≡ f = cc in
            let rest : fs ≡ kept_of fs = cc in
            subst (λ (xs : List (ℕ × List Instr)). may_be_kept xs ≡ false) q b
        parts (y ∷ gone) q = let rest : fs ≡ gone ++ f ∷ kept_of fs = cc in more gone f rest

-- ---- a viewer who is covered

after-few : (t : ℕ) (fs : List (ℕ × List Instr)) → length (frames_after t fs) ≤ length fs
after-few t [] = omega arith
after-few t (f ∷ fs) = cases (nat_lt t f.0) refl (after-few t fs)
  where
    cases : (b : Bool) → nat_lt t f.0 ≡ b → length (frames_after t fs) ≤ length fs → length (frames_after t (f ∷ fs)) ≤ length (f ∷ fs)
    cases true e more = rw e (omega (arith, more))
    cases false e more = rw e (omega (arith, more))

pub covered-few : (h : History) (t : ℕ) → Covers h t → length (frames_after t (frames h)) ≤ most_kept_frames
covered-few h t covers = omega (arith, ap length covers, after-few t (kept h), (kept-few (frames h)).0)
