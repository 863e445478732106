-- What is still to be given stays, or is given, as the held bytes are taken up.
use Rattle.std.proofs.Common.{◌≡◌, ℕ, zero, suc, ◌+◌, ◌-◌, ◌<◌, ◌≤◌, List, [], ◌∷◌, ◌++◌, length, length-append, length-take, take, drop, Bool, true, false, refl, ap, sym, subst, ◌∙◌, arith, append_assoc, append-nil, inl, inr}
use Rattle.std.proofs.lemmas.List.{take-append-drop, take-append-le, drop-append-le, drop-drop, take_all}
use Rattle.std.proofs.Math.Seq.{take-add}
use Rattle.std.specs.Prelude.{◌⊎◌, ◌||◌, ◌&&◌, nat_lt}
use Rattle.std.proofs.lemmas.Bool.Decides.{nat_tests}
use Rattle.guac_framing.specs.Answers.{IsWhole}
use Rattle.guac_framing.specs.Found.{HasNoInstruction, IsBadPlace, IsUnfinished}
use Rattle.gate_model.specs.text.Spelling.{Spells}
use Rattle.clip_stream.specs.Clips.{Clip, Wish, Kept, Opens, Closes, Brings, Ends, Idle, clip_after, is_kept, put_for, wish_of}
use Rattle.clip_stream.specs.Pasted.{has_some, pasted_on}
use Rattle.clip_stream.specs.Sources.{counted, unread_of}
use Rattle.clip_stream.proofs.Parsed.{spelled-some}
use Rattle.clip_stream.proofs.Rooms.{rest_slice}
use Rattle.clip_stream.proofs.Pasting.{pasted-none, pasted-whole}

pub none_waits : (xs : List ℕ) → has_some xs ≡ false → xs ≡ []
none_waits [] e = refl
none_waits (x ∷ xs) e = cc

pub kept_wish : (w : Wish) → is_kept w ≡ true → w ≡ Kept
kept_wish Kept e = refl
kept_wish (Opens stream) e = cc
kept_wish Closes e = cc
kept_wish (Brings stream text) e = cc
kept_wish (Ends stream) e = cc
kept_wish Idle e = cc

-- the bytes of one of the three don't stand in their place
pub put_other : (clip : Clip) (own : List ℕ) (w : Wish) → is_kept w ≡ false → put_for clip own w ≡ put_for clip [] w
put_other clip own Kept e = cc
put_other clip own (Opens stream) e = refl
put_other clip own Closes e = refl
put_other clip own (Brings stream text) e = refl
put_other clip own (Ends stream) e = refl
put_other clip own Idle e = refl

-- one more instruction is kept
pub keeps-kept : (clip : Clip) (kept n : ℕ) (held slice more : List ℕ) (values : List (List ℕ)) → slice ≡ take (length held - kept) (drop kept held) → IsWhole slice values n → is_kept (wish_of values) ≡ true
    → unread_of false (kept + n) clip held more ≡ unread_of false kept clip held more
keeps-kept clip kept n held slice more values e whole is =
    let same : slice ≡ drop kept held = e ∙ rest_slice kept held in
    let w = subst (λ (s : List ℕ). IsWhole s values n) same whole in
    let wish = kept_wish (wish_of values) is in
    let order : kept + n ≡ n + kept = omega arith in
    let step : pasted_on clip (drop kept held ++ more) ≡ take n (drop kept held) ++ pasted_on clip (drop n (drop kept held) ++ more)
    = pasted-whole clip (drop kept held) more values n w ∙ ap (λ (v : Wish). put_for clip (take n (drop kept held)) v ++ pasted_on (clip_after clip v) (drop n (drop kept held) ++ more)) wish in
    ap (λ (t : List ℕ). t ++ pasted_on clip (drop (kept + n) held ++ more)) (take-add kept n held)
    ∙ append_assoc (take kept held) (take n (drop kept held)) (pasted_on clip (drop (kept + n) held ++ more))
    ∙ ap (λ (t : List ℕ). take kept held ++ (take n (drop kept held) ++ pasted_on clip (t ++ more))) (sym (drop-drop n kept held))
    ∙ ap (λ (t : List ℕ). take kept held ++ t) (sym step)

-- one of the three is taken out
pub keeps-taken : (clip : Clip) (kept n : ℕ) (held slice more : List ℕ) (values : List (List ℕ)) → slice ≡ take (length held - kept) (drop kept held) → IsWhole slice values n → is_kept (wish_of values) ≡ false → kept ≡ 0
    → put_for clip [] (wish_of values) ++ unread_of false kept (clip_after clip (wish_of values)) (drop n held) more ≡ unread_of false kept clip held more
keeps-taken clip kept n held slice more values e whole isnt zero_is =
    let same : slice ≡ drop kept held = e ∙ rest_slice kept held in
    let w = subst (λ (s : List ℕ). IsWhole s values n) (same ∙ ap (λ k. drop k held) zero_is) whole in
    ap (λ k. put_for clip [] (wish_of values) ++ unread_of false k (clip_after clip (wish_of values)) (drop n held) more) zero_is
    ∙ ap (λ (t : List ℕ). t ++ pasted_on (clip_after clip (wish_of values)) (drop n held ++ more)) (sym (put_other clip (take n held) (wish_of values) isnt))
    ∙ sym (pasted-whole clip held more values n w)
    ∙ ap (λ k. unread_of false k clip held more) (sym zero_is)

-- nothing behind is an instruction
pub keeps-raw : (clip : Clip) (kept place : ℕ) (held slice more : List ℕ) → slice ≡ take (length held - kept) (drop kept held) → IsBadPlace slice place
    → unread_of true kept clip held more ≡ unread_of false kept clip held more
keeps-raw clip kept place held slice more e bad =
    let same : slice ≡ drop kept held = e ∙ rest_slice kept held in
    let b = subst (λ (s : List ℕ). IsBadPlace s place) same bad in
    let text : drop kept held ++ more ≡ take (place + 1) (drop kept held) ++ (drop (place + 1) (drop kept held) ++ more)
    = ap (λ t. t ++ more) (sym (take-append-drop (place + 1) (drop kept held))) ∙ append_assoc (take (place + 1) (drop kept held)) (drop (place + 1) (drop kept held)) more in
    let none : HasNoInstruction (drop kept held ++ more) = subst HasNoInstruction (sym text) (b.through (drop (place + 1) (drop kept held) ++ more)) in
    ap (λ t. t ++ more) (sym (take-append-drop kept held)) ∙ append_assoc (take kept held) (drop kept held) more
    ∙ ap (λ t. take kept held ++ t) (sym (pasted-none clip (drop kept held ++ more) none))

-- the first held bytes are given
pub gives : (raw : Bool) (clip : Clip) (kept n most : ℕ) (held more : List ℕ) → n ≤ most → most ≤ length held → (raw ≡ false → most ≡ kept) → unread_of raw kept clip held more ≡ take n held ++ unread_of raw (kept - n) clip (drop n held) more
gives true clip kept n most held more a b e = ap (λ t. t ++ more) (sym (take-append-drop n held)) ∙ append_assoc (take n held) (drop n held) more
gives false clip kept n most held more a b e =
    let is : most ≡ kept = e refl in
    let whole : kept ≡ n + (kept - n) = omega arith in
    ap (λ k. take k held ++ pasted_on clip (drop kept held ++ more)) whole
    ∙ ap (λ t. t ++ pasted_on clip (drop kept held ++ more)) (take-add n (kept - n) held)
    ∙ append_assoc (take n held) (take (kept - n) (drop n held)) (pasted_on clip (drop kept held ++ more))
    ∙ ap (λ t. take n held ++ (take (kept - n) (drop n held) ++ pasted_on clip (t ++ more))) (ap (λ k. drop k held) whole ∙ sym (drop-drop (kept - n) n held))

-- unfinished bytes leave room
pub unfinished_short : (bytes : List ℕ) → IsUnfinished bytes → length bytes < 8192
unfinished_short bytes is = by_rest is.completion.0 is.completion.1 is.completion.2
  where
    by_rest : (rest : List ℕ) (elements : List (List ℕ)) → Spells (bytes ++ rest) elements → length bytes < 8192
    by_rest [] elements s = absurd (is.none (length bytes) elements (subst (λ (t : List ℕ). Spells t elements) (append-nil bytes ∙ sym (take_all (length bytes) bytes (omega arith))) s))
    by_rest (r ∷ rest) elements s = let size = s.size in omega (arith, size, length-append bytes (r ∷ rest))

pub done_short : (raw : Bool) (held : List ℕ) → ((raw ≡ true) × (held ≡ [])) ⊎ IsUnfinished held → length held < 8192
done_short raw held (inl is) = let e = is.1 in omega (arith, ap length e)
done_short raw held (inr is) = unfinished_short held is

-- at the end what is held is given as it is
pub ends-raw : (raw : Bool) (clip : Clip) (kept : ℕ) (held : List ℕ) → ((raw ≡ true) × (held ≡ [])) ⊎ IsUnfinished held → kept ≡ 0 → unread_of raw kept clip held [] ≡ unread_of true kept clip held []
ends-raw true clip kept held done e = refl
ends-raw false clip kept held (inl is) e = cc
ends-raw false clip kept held (inr is) e =
    ap (λ k. unread_of false k clip held []) e
    ∙ ap (pasted_on clip) (append-nil held) ∙ pasted-none clip held is.none ∙ sym (append-nil held)

-- what comes stands behind what is held
pub feeds : (raw : Bool) (clip : Clip) (kept : ℕ) (held now bytes more : List ℕ) → kept ≤ length held → now ≡ held ++ bytes → unread_of raw kept clip held (bytes ++ more) ≡ unread_of raw kept clip now more
feeds true clip kept held now bytes more k e = sym (append_assoc held bytes more) ∙ ap (λ t. t ++ more) (sym e)
feeds false clip kept held now bytes more k e =
    ap (λ t. take kept held ++ pasted_on clip t) (sym (append_assoc (drop kept held) bytes more))
    ∙ ap (λ t. take kept held ++ pasted_on clip (t ++ more)) (sym (drop-append-le kept held bytes k))
    ∙ ap (λ t. t ++ pasted_on clip (drop kept (held ++ bytes) ++ more)) (sym (take-append-le kept held bytes k))
    ∙ ap (λ x. unread_of false kept clip x more) (sym e)

pub reads : (raw : Bool) (clip : Clip) (kept : ℕ) (held now bytes more : List ℕ) → kept ≡ 0 → now ≡ held ++ bytes → unread_of raw kept clip held (bytes ++ more) ≡ unread_of raw kept clip now more
reads raw clip kept held now bytes more k e = feeds raw clip kept held now bytes more (omega (arith, k)) e

-- at the end nothing that comes counts
pub counted_none : (ended : Bool) → counted ended [] ≡ []
counted_none true = refl
counted_none false = refl

-- where the source was at its end what is unfinished may be given as it is
pub rest-ends : (raw ended : Bool) (clip : Clip) (kept : ℕ) (held more waiting : List ℕ) → ended ≡ true → ((raw ≡ true) × (held ≡ [])) ⊎ IsUnfinished held → kept ≡ 0
    → waiting ++ unread_of true kept clip held (counted ended more) ≡ waiting ++ unread_of raw kept clip held (counted ended more)
rest-ends raw ended clip kept held more waiting e done k =
    let at : Bool → List ℕ = λ b. waiting ++ unread_of b kept clip held (counted ended more) in
    let none : counted ended more ≡ [] = ap (λ (b : Bool). counted b more) e in
    ap (λ x. waiting ++ unread_of true kept clip held x) none
    ∙ ap (λ t. waiting ++ t) (sym (ends-raw raw clip kept held done k))
    ∙ ap (λ x. waiting ++ unread_of raw kept clip held x) (sym none)

-- before the end all that comes counts
pub counted_all : (ended : Bool) (more : List ℕ) → ended ≡ false → counted ended more ≡ more
counted_all true more e = cc
counted_all false more e = refl

-- a list that stays when more is put behind it
pub none_more : (xs ys : List ℕ) → xs ++ ys ≡ xs → ys ≡ []
none_more xs [] e = refl
none_more xs (y ∷ ys) e = absurd (omega (arith, ap length e, length-append xs (y ∷ ys)))

-- ---- the same with what waits

pub rest-kept : (raw : Bool) (clip : Clip) (kept n : ℕ) (held slice more waiting : List ℕ) (values : List (List ℕ)) → raw ≡ false → slice ≡ take (length held - kept) (drop kept held) → IsWhole slice values n → is_kept (wish_of values) ≡ true
    → waiting ++ unread_of raw (kept + n) clip held more ≡ waiting ++ unread_of raw kept clip held more
rest-kept raw clip kept n held slice more waiting values r e whole is =
    ap (λ t. waiting ++ t) (subst (λ (b : Bool). unread_of b (kept + n) clip held more ≡ unread_of b kept clip held more) (sym r) (keeps-kept clip kept n held slice more values e whole is))

pub rest-taken : (raw : Bool) (clip clip_new : Clip) (kept n : ℕ) (held held_new slice more waiting waiting_new : List ℕ) (values : List (List ℕ)) → raw ≡ false → waiting ≡ []
    → clip_new ≡ clip_after clip (wish_of values) → waiting_new ≡ put_for clip [] (wish_of values) → held_new ≡ drop n held
    → slice ≡ take (length held - kept) (drop kept held) → IsWhole slice values n → is_kept (wish_of values) ≡ false → kept ≡ 0
    → waiting_new ++ unread_of raw kept clip_new held_new more ≡ waiting ++ unread_of raw kept clip held more
rest-taken raw clip clip_new kept n held held_new slice more waiting waiting_new values r none c w h e whole isnt zero_is =
    ap (λ t. t ++ unread_of raw kept clip_new held_new more) w
    ∙ ap (λ (x : Clip). put_for clip [] (wish_of values) ++ unread_of raw kept x held_new more) c
    ∙ ap (λ x. put_for clip [] (wish_of values) ++ unread_of raw kept (clip_after clip (wish_of values)) x more) h
    ∙ subst (λ (b : Bool). put_for clip [] (wish_of values) ++ unread_of b kept (clip_after clip (wish_of values)) (drop n held) more ≡ unread_of b kept clip held more) (sym r) (keeps-taken clip kept n held slice more values e whole isnt zero_is)
    ∙ ap (λ t. t ++ unread_of raw kept clip held more) (sym none)

pub rest-raw : (raw : Bool) (clip : Clip) (kept place : ℕ) (held slice more waiting : List ℕ) → raw ≡ false → slice ≡ take (length held - kept) (drop kept held) → IsBadPlace slice place
    → waiting ++ unread_of true kept clip held more ≡ waiting ++ unread_of raw kept clip held more
rest-raw raw clip kept place held slice more waiting r e bad =
    ap (λ t. waiting ++ t) (keeps-raw clip kept place held slice more e bad ∙ ap (λ (b : Bool). unread_of b kept clip held more) (sym r))

-- an instruction has bytes
pub whole_some : (bytes : List ℕ) (values : List (List ℕ)) (n : ℕ) → IsWhole bytes values n → 0 < n
whole_some bytes values n whole = let some = spelled-some (take n bytes) whole.elements whole.spelled.spelled in omega (arith, some, length-take n bytes)

pub rest-gives : (raw : Bool) (clip : Clip) (kept kept_new n most : ℕ) (held held_new given more waiting : List ℕ) → waiting ≡ [] → n ≤ most → most ≤ length held → (raw ≡ false → most ≡ kept) → kept_new ≡ kept - n → held_new ≡ drop n held → given ≡ take n held
    → waiting ++ unread_of raw kept clip held more ≡ given ++ (waiting ++ unread_of raw kept_new clip held_new more)
rest-gives raw clip kept kept_new n most held held_new given more waiting none a b e k h g =
    ap (λ t. t ++ unread_of raw kept clip held more) none
    ∙ gives raw clip kept n most held more a b e
    ∙ ap (λ t. t ++ unread_of raw (kept - n) clip (drop n held) more) (sym g)
    ∙ ap (λ x. given ++ unread_of raw x clip (drop n held) more) (sym k)
    ∙ ap (λ x. given ++ unread_of raw kept_new clip x more) (sym h)
    ∙ ap (λ t. given ++ (t ++ unread_of raw kept_new clip held_new more)) (sym none)

-- ---- what waits

pub idle_kept : (waiting held : List ℕ) (kept : ℕ) (raw : Bool) → (has_some waiting || (nat_lt 0 kept || (raw && has_some held))) ≡ false → kept ≡ 0
idle_kept waiting held kept raw e = grind (arith, nat_tests)

pub some_given : (waiting held : List ℕ) (kept most : ℕ) (raw : Bool) → has_some waiting ≡ false → (has_some waiting || (nat_lt 0 kept || (raw && has_some held))) ≡ true → kept ≤ length held → (raw ≡ false → most ≡ kept) → (raw ≡ true → most ≡ length held) → 0 < most
some_given (x ∷ waiting) held kept most raw none e within k r = cc
some_given [] held (suc kept) most true none e within k r = let m : most ≡ length held = r refl in omega arith
some_given [] held (suc kept) most false none e within k r = let m : most ≡ suc kept = k refl in omega arith
some_given [] [] zero most true none e within k r = cc
some_given [] (x ∷ held) zero most true none e within k r = let m : most ≡ length (x ∷ held) = r refl in omega arith
some_given [] held zero most false none e within k r = cc

-- where nothing waits then, nothing is to be given any more
pub rest-over : (raw ended : Bool) (clip : Clip) (kept : ℕ) (held more waiting : List ℕ) → ended ≡ true → raw ≡ true → (has_some waiting || (nat_lt 0 kept || (raw && has_some held))) ≡ false
    → waiting ++ unread_of raw kept clip held (counted ended more) ≡ []
rest-over true true clip zero [] more [] e r idle = refl
rest-over true true clip zero (x ∷ held) more [] e r idle = cc
rest-over true true clip (suc kept) held more [] e r idle = absurd (omega (arith, idle_kept [] held (suc kept) true idle))
rest-over true true clip kept held more (x ∷ waiting) e r idle = cc
rest-over false ended clip kept held more waiting e r idle = cc
rest-over true false clip kept held more waiting e r idle = cc
