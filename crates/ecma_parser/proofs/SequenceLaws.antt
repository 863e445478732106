-- How one more character changes the parameters of a text.
use Rattle.std.proofs.Common.{◌≡◌, ◌≢◌, ℕ, ◌+◌, ◌-◌, ◌≤◌, ◌<◌, min, List, [], ◌∷◌, ◌++◌, length, length-append, set, Bool, true, false, cond, ⊎_elim, append_assoc, refl, sym, ap, ◌∙◌, subst, arith}
use Rattle.std.proofs.lemmas.Bool.{cases_lt, cond-true, cond-false, ne_eqb, lt-ltb, le-ltb, lt-leb, le-leb, and_left, and_right, and_from}
use Rattle.std.proofs.lemmas.Bool.Decides.{nat_tests}
use Rattle.std.proofs.lemmas.List.{get_or-set_same, length-set, set-get_or, set-set}
use Rattle.std.proofs.lemmas.List.Folds.{list_all-append}
use Rattle.std.specs.List.{list_all}
use Rattle.std.specs.Prelude.{◌==◌, slice_index}
use Rattle.gate_model.specs.declared.control.Control.TheVariants.{Csi}
use Rattle.gate_model.specs.terminal.Controls.{has_effect, sequence}
use Rattle.gate_model.specs.terminal.Parameters.{is_separator, private_mark, without_mark, is_plain, value, parts, params_of}
use Rattle.ecma_parser.specs.declared.sequence.Sequence.{Sequence}
use Rattle.ecma_parser.specs.Sequence.{Holds, HoldsAs, HoldsBut, Continues, IsVoid, longer, next_value, value_at, with_digit, with_value, csi_of}
use Rattle.ecma_parser.proofs.PartLaws.{LastPart, last-part, filled, filled-next, filled-past, filled-at, filled-set, sixteen_filled, value-more}

-- ---- the private mark

record KeepsMark (text rest : List ℕ) : Type 0 where
  mark : private_mark (text ++ rest) ≡ private_mark text
  others : without_mark (text ++ rest) ≡ without_mark text ++ rest

keeps-mark : (text : List ℕ) (c : ℕ) (rest : List ℕ) → Continues text c → KeepsMark text (c ∷ rest)
keeps-mark [] c rest other =
    let isnt : (c == 0x3F) ≡ false = ne_eqb c 0x3F (other refl) in
    record { mark = isnt; others = cond-false _ _ _ isnt }
keeps-mark (x ∷ xs) c rest other = record { mark = refl; others = by_test (x == 0x3F) }
  where
    by_test : (b : Bool) → cond b (xs ++ c ∷ rest) (x ∷ xs ++ c ∷ rest) ≡ cond b xs (x ∷ xs) ++ c ∷ rest
    by_test true = refl
    by_test false = refl

-- ---- the sequence after one more character

one-longer : (text : List ℕ) (c : ℕ) → length (text ++ c ∷ []) ≡ length text + 1
one-longer text c = let long = length-append text (c ∷ []) in omega arith

last-place : (t : List ℕ) (part : LastPart t) → length (parts t) ≡ length part.front + 1
last-place t part = ap length part.is ∙ (let long = length-append part.front (part.last ∷ []) in omega arith)

pub kept-digit : (vs ws : List ℕ) (s n : Sequence) (text : List ℕ) (c : ℕ) → HoldsAs vs s text → s.length < 256 → 48 ≤ c → c ≤ 57
    → n.private ≡ s.private → n.length ≡ s.length + 1 → n.place ≡ s.place → n.params.count ≡ s.params.count
    → ws ≡ with_digit s.place (c - 48) vs → HoldsAs ws n (text ++ c ∷ [])
kept-digit vs ws s n text c h below from to same_mark longer_by_one same_place same_count new_values = ⊎_elim low high (cases_lt s.place 16)
  where
    t : List ℕ
    t = without_mark text

    part : LastPart (without_mark text)
    part = last-part (without_mark text)

    keeps : KeepsMark text (c ∷ [])
    keeps = keeps-mark text c [] (λ none eq. absurd (omega arith))

    isnt : is_separator c ≡ false
    isnt = grind (arith, nat_tests)

    parts-is : parts (without_mark (text ++ c ∷ [])) ≡ part.front ++ (part.last ++ c ∷ []) ∷ []
    parts-is = ap parts keeps.others ∙ part.more c isnt

    old-is : filled (part.front ++ part.last ∷ []) ≡ vs
    old-is = ap filled (sym part.is) ∙ h.same

    plain-is : list_all is_plain (without_mark (text ++ c ∷ [])) ≡ true
    plain-is =
        ap (list_all is_plain) keeps.others ∙ list_all-append is_plain (without_mark text) (c ∷ [])
        ∙ and_from _ _ h.plain (grind (arith, nat_tests))

    place-is : s.place ≡ min 16 (length part.front)
    place-is = h.place ∙ ap (λ n. min 16 (n - 1)) (last-place (without_mark text) part) ∙ ap (min 16) (one-less (length part.front))
      where
        one-less : (n : ℕ) → n + 1 - 1 ≡ n
        one-less n = omega arith

    new-place : s.place ≡ min 16 (length (parts (without_mark (text ++ c ∷ []))) - 1)
    new-place = place-is ∙ sym (ap (λ n. min 16 (n - 1)) (ap length parts-is ∙ length-append part.front ((part.last ++ c ∷ []) ∷ [])) ∙ ap (min 16) (one-less (length part.front)))
      where
        one-less : (n : ℕ) → n + 1 - 1 ≡ n
        one-less n = omega arith

    holds : filled (part.front ++ (part.last ++ c ∷ []) ∷ []) ≡ ws → HoldsAs ws n (text ++ c ∷ [])
    holds is = record {
      long = one-longer text c ∙ ap (λ k. k + 1) h.long ∙ sym longer_by_one;
      few = omega (arith, one-longer text c, h.long);
      mark = keeps.mark ∙ h.mark ∙ sym same_mark;
      plain = plain-is;
      place = same_place ∙ new-place;
      same = ap filled parts-is ∙ is;
      count = same_count ∙ h.count ∙ ap (λ k. min 16 (k + 1)) (sym same_place);
    }

    low : s.place < 16 → HoldsAs ws n (text ++ c ∷ [])
    low lt =
        let at : s.place ≡ length part.front = omega (arith, place-is) in
        let old : slice_index vs s.place ≡ value part.last =
        ap (slice_index vs) at ∙ ap (λ vs. slice_index vs (length part.front)) (sym old-is) ∙ filled-at part.front part.last (omega (arith, at)) in
        let new : filled (part.front ++ (part.last ++ c ∷ []) ∷ []) ≡ set vs s.place (next_value (slice_index vs s.place) (c - 48)) =
        filled-set part.front part.last (part.last ++ c ∷ [])
        ∙ ap (λ vs. set vs (length part.front) (value (part.last ++ c ∷ []))) old-is
        ∙ ap (λ i. set vs i (value (part.last ++ c ∷ []))) (sym at)
        ∙ ap (set vs s.place) (value-more part.last c from to ∙ ap (λ v. next_value v (c - 48)) (sym old)) in
        holds (new ∙ sym (new_values ∙ cond-true _ _ _ (lt-ltb _ _ lt)))

    high : 16 ≤ s.place → HoldsAs ws n (text ++ c ∷ [])
    high past =
        holds (filled-past part.front (part.last ++ c ∷ []) part.last (omega (arith, place-is)) ∙ old-is ∙ sym (new_values ∙ cond-false _ _ _ (le-ltb _ _ past)))

pub kept-separator : (s n : Sequence) (text : List ℕ) → Holds s text → s.length < 256
    → n.private ≡ s.private → n.length ≡ s.length + 1 → n.place ≡ min 16 (s.place + 1) → n.params.count ≡ min 16 (n.place + 1)
    → n.params.values ≡ s.params.values → Holds n (text ++ 59 ∷ [])
kept-separator s n text h below same_mark longer_by_one next_place counted same_values = record {
  long = one-longer text 59 ∙ ap (λ k. k + 1) h.long ∙ sym longer_by_one;
  few = omega (arith, one-longer text 59, h.long);
  mark = keeps.mark ∙ h.mark ∙ sym same_mark;
  plain = ap (list_all is_plain) keeps.others ∙ list_all-append is_plain (without_mark text) (59 ∷ []) ∙ and_from _ _ h.plain refl;
  place = omega (arith, next_place, h.place, some, long);
  same = ap filled parts-is ∙ filled-next (parts (without_mark text)) ∙ h.same ∙ sym same_values;
  count = counted;
}
  where
    part : LastPart (without_mark text)
    part = last-part (without_mark text)

    keeps : KeepsMark text (59 ∷ [])
    keeps = keeps-mark text 59 [] (λ e eq. absurd (omega arith))

    parts-is : parts (without_mark (text ++ 59 ∷ [])) ≡ parts (without_mark text) ++ [] ∷ []
    parts-is = ap parts keeps.others ∙ part.next 59 refl

    some : length (parts (without_mark text)) ≡ length part.front + 1
    some = last-place (without_mark text) part

    long : length (parts (without_mark (text ++ 59 ∷ []))) ≡ length (parts (without_mark text)) + 1
    long = ap length parts-is ∙ length-append (parts (without_mark text)) ([] ∷ [])

-- ---- a value that isn't at its place yet

-- the same text, by a sequence that differs in its values alone
pub moved : (vs ws : List ℕ) (s n : Sequence) (text : List ℕ) → HoldsAs vs s text → n.private ≡ s.private → n.length ≡ s.length → n.place ≡ s.place → n.params.count ≡ s.params.count → ws ≡ vs → HoldsAs ws n text
moved vs ws s n text h same_mark same_length same_place same_count same_values = record {
  long = h.long ∙ sym same_length;
  few = h.few;
  mark = h.mark ∙ sym same_mark;
  plain = h.plain;
  place = same_place ∙ h.place;
  same = h.same ∙ sym same_values;
  count = same_count ∙ h.count ∙ ap (λ k. min 16 (k + 1)) (sym same_place);
}

-- the value at the place, put there, changes nothing
own : (place : ℕ) (vs : List ℕ) → with_value place (value_at place vs) vs ≡ vs
own place vs = ⊎_elim low high (cases_lt place 16)
  where
    low : place < 16 → with_value place (value_at place vs) vs ≡ vs
    low lt =
        cond-true _ _ _ (lt-ltb _ _ lt) ∙ ap (λ v. set vs place v) (cond-true _ _ _ (lt-ltb _ _ lt)) ∙ set-get_or vs place 0

    high : 16 ≤ place → with_value place (value_at place vs) vs ≡ vs
    high past = cond-false _ _ _ (le-ltb _ _ past)

pub held-back : (value : ℕ) (s : Sequence) (text : List ℕ) → Holds s text → value ≡ value_at s.place s.params.values → HoldsBut value s text
held-back value s text h is =
    moved s.params.values (with_value s.place value s.params.values) s s text h refl refl refl refl (ap (λ v. with_value s.place v s.params.values) is ∙ own s.place s.params.values)

-- no more characters
pub none-longer : (s : Sequence) (text : List ℕ) → Holds s text → Holds (longer 0 s) text
none-longer s text h = moved s.params.values s.params.values s (longer 0 s) text h refl (omega arith) refl refl refl

-- the value comes to its place
abbrev pub at_place : ℕ → Sequence → Sequence
at_place value s = record s { params = record s.params { values = with_value s.place value s.params.values } }

pub put-at-place : (value i : ℕ) (s n : Sequence) (text : List ℕ) → HoldsBut value (longer i s) text → n ≡ at_place value s → Holds (longer i n) text
put-at-place value i s n text h is =
    subst (λ (k : Sequence). Holds (longer i k) text) (sym is) (moved _ _ (longer i s) (longer i (at_place value s)) text h refl refl refl refl refl)

-- the next parameter is read
pub separator-held-back : (value next i : ℕ) (s k n : Sequence) (text : List ℕ) → HoldsBut value (longer i s) text → s.length + i < 256 → k ≡ at_place value s
    → n.private ≡ k.private → n.length ≡ k.length → n.place ≡ min 16 (k.place + 1) → n.params.count ≡ min 16 (n.place + 1) → n.params.values ≡ k.params.values
    → next ≡ value_at n.place n.params.values → HoldsBut next (longer (i + 1) n) (text ++ 59 ∷ [])
separator-held-back value next i s k n text h below put same_mark same_length next_place counted same_values is =
    held-back next (longer (i + 1) n) (text ++ 59 ∷ []) separated is
  where
    kept_length : k.length ≡ s.length
    kept_length = ap (λ (m : Sequence). m.length) put

    separated : Holds (longer (i + 1) n) (text ++ 59 ∷ [])
    separated =
        kept-separator (longer i k) (longer (i + 1) n) text (put-at-place value i s k text h put) (omega (arith, below, kept_length)) same_mark (omega (arith, same_length)) next_place counted same_values

-- one more digit of such a value
digit-behind : (place value d : ℕ) (vs : List ℕ) → length (with_value place value vs) ≡ 16 → with_value place (next_value value d) vs ≡ with_digit place d (with_value place value vs)
digit-behind place value d vs long = ⊎_elim low high (cases_lt place 16)
  where
    low : place < 16 → with_value place (next_value value d) vs ≡ with_digit place d (with_value place value vs)
    low lt =
        let there : with_value place value vs ≡ set vs place value = cond-true _ _ _ (lt-ltb _ _ lt) in
        let few : place < length vs = omega (arith, sym (ap length there) ∙ long, length-set vs place value) in
        cond-true _ _ _ (lt-ltb _ _ lt)
        ∙ sym (cond-true _ _ _ (lt-ltb _ _ lt) ∙ ap (λ (l : List ℕ). set l place (next_value (slice_index l place) d)) there ∙ set-set vs place value (next_value (slice_index (set vs place value) place) d) ∙ ap (λ v. set vs place (next_value v d)) (get_or-set_same vs place value 0 few))

    high : 16 ≤ place → with_value place (next_value value d) vs ≡ with_digit place d (with_value place value vs)
    high past =
        let none = le-ltb _ _ past in
        cond-false _ _ _ none ∙ sym (cond-false _ _ _ none ∙ cond-false _ _ _ none)

-- a sequence has sixteen values
sixteen : (vs : List ℕ) (s : Sequence) (text : List ℕ) → HoldsAs vs s text → length vs ≡ 16
sixteen vs s text h = ap length (sym h.same) ∙ sixteen_filled (parts (without_mark text))

pub digit-held-back : (value next : ℕ) (s n : Sequence) (text : List ℕ) (c : ℕ) → HoldsBut value s text → s.length < 256 → 48 ≤ c → c ≤ 57
    → n.private ≡ s.private → n.length ≡ s.length + 1 → n.place ≡ s.place → n.params.count ≡ s.params.count → n.params.values ≡ s.params.values
    → next ≡ next_value value (c - 48) → HoldsBut next n (text ++ c ∷ [])
digit-held-back value next s n text c h below from to same_mark longer_by_one same_place same_count same_values is =
    kept-digit (with_value s.place value s.params.values) (with_value n.place next n.params.values) s n text c h below from to same_mark longer_by_one same_place same_count
    (ap (λ p. with_value p next n.params.values) same_place ∙ ap (λ (l : List ℕ). with_value s.place next l) same_values ∙ ap (λ v. with_value s.place v s.params.values) is
    ∙ digit-behind s.place value (c - 48) s.params.values (sixteen (with_value s.place value s.params.values) s text h))

-- ---- sequences without effect

pub void-long : (text : List ℕ) (c : ℕ) → 256 ≤ length text → IsVoid (text ++ c ∷ [])
void-long text c many more =
    and_left _ _ (lt-leb (length ((text ++ c ∷ []) ++ more)) 256 (omega (arith, length-append (text ++ c ∷ []) more, one-longer text c)))

pub not_plain : (c : ℕ) → c ≢ 59 → (48 ≤ c → 57 < c) → is_plain c ≡ false
not_plain c other outside = grind (arith, nat_tests)

pub void-other : (text : List ℕ) (c : ℕ) → Continues text c → is_plain c ≡ false → IsVoid (text ++ c ∷ [])
void-other text c other isnt more =
    let keeps = keeps-mark text c more other in
    and_right _ _ (
    ap (λ cs. list_all is_plain (without_mark cs)) (append_assoc text (c ∷ []) more)
    ∙ ap (list_all is_plain) keeps.others ∙ list_all-append is_plain (without_mark text) (c ∷ more)
    ∙ and_right _ _ (and_left _ _ isnt))

-- ---- a whole sequence

pub control-is : (s : Sequence) (text : List ℕ) (last : ℕ) → Holds s text → sequence text [] last ≡ csi_of s last ∷ []
control-is s text last h =
    let t = without_mark text in
    let part = last-part t in
    let some = last-place t part in
    let effect : has_effect text ≡ true = and_from _ _ (le-leb _ _ h.few) h.plain in
    let counted : min 16 (length (parts t)) ≡ s.params.count = omega (arith, h.place, h.count, some) in
    cond-true _ _ _ effect
    ∙ ap (λ b. Csi b (params_of t) last ∷ []) h.mark
    ∙ ap (λ vs. Csi s.private (record { values = vs; count = min 16 (length (parts t)) }) last ∷ []) h.same
    ∙ ap (λ n. Csi s.private (record { values = s.params.values; count = n }) last ∷ []) counted
