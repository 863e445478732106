-- The text of a line `write` has one reading.
use Rattle.std.proofs.Common.{◌≡◌, ℕ, zero, suc, ◌+◌, ◌-◌, ◌<◌, ◌≤◌, List, [], ◌∷◌, ◌++◌, ◌⊎◌, inl, inr, length, take, drop, refl, ap, sym, ◌∙◌, subst, append_assoc, append-nil, length-append, arith}
use Rattle.std.specs.Prelude.{slice_index}
use Rattle.std.proofs.Math.Seq.{take-add}
use Rattle.std.proofs.lemmas.Bool.{cases_lt}
use Rattle.std.proofs.lemmas.List.{append_cancel_left, take-append-drop, take-append-le, take_all}
use Rattle.gate_model.specs.declared.act.Act.{Act}
use Rattle.gate_model.specs.text.Spelling.{Spells}
use Rattle.gate_model.proofs.Spelt.{prefix_free}
use Rattle.guac_framing.specs.Found.{HasCompletion, HasKind, HasNoInstruction, IsBadAt, IsBadPlace}
use Rattle.guac_framing.specs.declared.next.BadAt.{BadAt}
use Rattle.guac_framing.specs.declared.next.BadKind.{BadKind}
use Rattle.script_grammar.specs.declared.reading.Reading.{Reading}
use Rattle.script_grammar.specs.declared.reading.Reading.TheVariants.{Whole, Cut, Bad, TooMany}
use Rattle.guac_framing.specs.Splits.{Splits}
use Rattle.script_grammar.specs.Acts.{HasTooMany, IsBad, IsCut, IsReading, IsWhole, acts_of, passed_of}
use Rattle.gate_script.proofs.OneText.{first_digit}

abbrev Instructions : Type 0
Instructions = List (List (List ℕ))

-- ---- whole instructions, and a rest that begins with none

take_none : (n : ℕ) → take {A = ℕ} n [] ≡ []
take_none zero = refl
take_none (suc n) = refl

-- nothing is no instruction
none_in_nothing : HasNoInstruction []
none_in_nothing n es s =
    let d = first_digit (take n []) es s.spelled in
    filled d.0 d.1 (sym (take_none n) ∙ d.3)
  where
    filled : (b : ℕ) (bs : List ℕ) → [] ≡ b ∷ bs → ⊥
    filled b bs e = cc

at_front : {A : Type 0} → (text rest : List ℕ) (e : List (List ℕ)) (es : Instructions) → Splits text (e ∷ es) rest → HasNoInstruction text → A
at_front text rest e es s none =
    let front : take (length s.0) text ≡ s.0 = ap (take (length s.0)) s.3 ∙ (take-append-le (length s.0) s.0 s.1 (omega arith) ∙ take_all (length s.0) s.0 (omega arith)) in
    absurd (none (length s.0) e (subst (λ (l : List ℕ). Spells l e) (sym front) s.2))

-- where no instruction is left, there are as many as in any other split
record Goes (es fs : Instructions) (left rest : List ℕ) : Type 0 where
  more : Instructions
  longer : es ≡ fs ++ more
  splits : Splits left more rest

goes : (es fs : Instructions) (text rest left : List ℕ) → Splits text es rest → HasNoInstruction rest → Splits text fs left → Goes es fs left rest
goes es [] text rest left s none t = record { more = es; longer = refl; splits = subst (λ (l : List ℕ). Splits l es rest) t s }
goes [] (f ∷ fs) text rest left s none t = at_front text left f fs t (subst HasNoInstruction (sym s) none)
goes (e ∷ es) (f ∷ fs) text rest left s none t =
    let both : s.0 ++ s.1 ≡ t.0 ++ t.1 = sym s.3 ∙ t.3 in
    let p = prefix_free s.0 t.0 s.1 t.1 e f s.2 t.2 both in
    let after : s.1 ≡ t.1 = append_cancel_left s.0 s.1 t.1 (both ∙ ap (λ (l : List ℕ). l ++ t.1) (sym p.0)) in
    let w = goes es fs s.1 rest left s.4 none (subst (λ (l : List ℕ). Splits l fs left) (sym after) t.4) in
    record { more = w.more; longer = ap (λ (k : List (List ℕ)). k ∷ es) p.1 ∙ ap (λ (l : Instructions). f ∷ l) w.longer; splits = w.splits }

splits_same : (es fs : Instructions) (text rest left : List ℕ) → Splits text es rest → HasNoInstruction rest → Splits text fs left → HasNoInstruction left → (es ≡ fs) × (rest ≡ left)
splits_same es fs text rest left s none t none' = let w = goes es fs text rest left s none t in by w.more w.longer w.splits
  where
    by : (more : Instructions) → es ≡ fs ++ more → Splits left more rest → (es ≡ fs) × (rest ≡ left)
    by [] longer same = (longer ∙ append-nil fs, sym same)
    by (m ∷ more) longer split = at_front left rest m more split none'

-- ---- a bad byte

-- no front that goes past the place can be continued
past : {A : Type 0} → (bytes front more : List ℕ) (place : ℕ) → IsBadPlace bytes place → front ≡ take (place + 1) bytes ++ more → HasCompletion front → A
past bytes front more place bad is c =
    let all : List ℕ = take (place + 1) bytes ++ (more ++ c.0) in
    let same : front ++ c.0 ≡ take (length all) all = ap (λ (l : List ℕ). l ++ c.0) is ∙ (append_assoc (take (place + 1) bytes) more c.0 ∙ sym (take_all (length all) all (omega arith))) in
    absurd (bad.through (more ++ c.0) (length all) c.1 (subst (λ (l : List ℕ). Spells l c.1) same c.2))

bad_none : (bytes : List ℕ) (place : ℕ) → IsBadPlace bytes place → HasNoInstruction bytes
bad_none bytes place bad = subst HasNoInstruction (take-append-drop (place + 1) bytes) (bad.through (drop (place + 1) bytes))

-- a place before a bad one isn't bad
not_before : {A : Type 0} → (bytes : List ℕ) (p q : ℕ) → p < q → IsBadPlace bytes p → IsBadPlace bytes q → A
not_before bytes p q lt one other =
    let count : p + 1 + (q - (p + 1)) ≡ q = omega (arith, lt) in
    past bytes (take q bytes) (take (q - (p + 1)) (drop (p + 1) bytes)) p one (ap (λ (n : ℕ). take n bytes) (sym count) ∙ take-add (p + 1) (q - (p + 1)) bytes) other.before

place_same : (bytes : List ℕ) (p q : ℕ) → IsBadPlace bytes p → IsBadPlace bytes q → p ≡ q
place_same bytes p q one other = by (cases_lt p q) (cases_lt q p)
  where
    by : (p < q) ⊎ (q ≤ p) → (q < p) ⊎ (p ≤ q) → p ≡ q
    by (inl lt) second = not_before bytes p q lt one other
    by (inr le) (inl lt) = not_before bytes q p lt other one
    by (inr le) (inr ge) = omega (arith, le, ge)

kind_same : (bytes : List ℕ) (one other : BadAt) → IsBadAt bytes one → IsBadAt bytes other → one.kind ≡ other.kind
kind_same bytes one other w v =
    let place : other.place ≡ one.place = place_same bytes other.place one.place v.place w.place in
    sym (w.one_kind other.kind (subst (λ (n : ℕ). HasKind (take n bytes) (slice_index bytes n) other.kind) place v.kind))

-- ---- the readings

bad_at_same : (one other : BadAt) → one.place ≡ other.place → one.kind ≡ other.kind → one ≡ other
bad_at_same one other place kind = ap (λ (n : ℕ). record { place = n; kind = one.kind }) place ∙ ap (λ (k : BadKind). record { place = other.place; kind = k }) kind

module _ (text : List ℕ) where
  whole_whole : (acts others : List Act) (n m : ℕ) → IsWhole text acts n → IsWhole text others m → Whole acts n ≡ Whole others m
  whole_whole acts others n m w v =
      let same = splits_same w.instructions v.instructions text [] [] w.splits none_in_nothing v.splits none_in_nothing in
      ap (λ (l : List Act). Whole l n) (w.acts_are ∙ (ap acts_of same.0 ∙ sym v.acts_are)) ∙ ap (λ (k : ℕ). Whole others k) (w.passed_is ∙ (ap passed_of same.0 ∙ sym v.passed_is))

  whole_cut : {A : Type 0} → (acts : List Act) (n place : ℕ) → IsWhole text acts n → IsCut text place → A
  whole_cut acts n place w v = absurd (v.some (sym (splits_same w.instructions v.instructions text [] v.rest w.splits none_in_nothing v.splits v.unfinished.none).1))

  whole_bad : {A : Type 0} → (acts : List Act) (n : ℕ) (at : BadAt) → IsWhole text acts n → IsBad text at → A
  whole_bad acts n at w v =
      let same = splits_same w.instructions v.instructions text [] v.rest w.splits none_in_nothing v.splits (bad_none v.rest v.own.place v.bad.place) in
      absurd (omega (arith, v.bad.place.within, ap length same.1))

  -- so many instructions stand at the text's beginning
  too_many : {A : Type 0} → (es : Instructions) (rest : List ℕ) → Splits text es rest → length es ≤ 4096 → HasNoInstruction rest → HasTooMany text → A
  too_many es rest s few none v =
      let w = goes es v.instructions text rest v.rest s none v.splits in
      absurd (omega (arith, few, v.many, ap length w.longer, length-append v.instructions w.more))

  cut_cut : (p q : ℕ) → IsCut text p → IsCut text q → Cut p ≡ Cut q
  cut_cut p q w v =
      let same = splits_same w.instructions v.instructions text w.rest v.rest w.splits w.unfinished.none v.splits v.unfinished.none in
      ap (λ (n : ℕ). Cut n) (omega (arith, w.place_is, v.place_is, ap length same.1))

  cut_bad : {A : Type 0} → (place : ℕ) (at : BadAt) → IsCut text place → IsBad text at → A
  cut_bad place at w v =
      let same = splits_same w.instructions v.instructions text w.rest v.rest w.splits w.unfinished.none v.splits (bad_none v.rest v.own.place v.bad.place) in
      past v.rest v.rest (drop (v.own.place + 1) v.rest) v.own.place v.bad.place (sym (take-append-drop (v.own.place + 1) v.rest)) (subst HasCompletion same.1 w.unfinished.completion)

  bad_bad : (one other : BadAt) → IsBad text one → IsBad text other → Bad one ≡ Bad other
  bad_bad one other w v =
      let same = splits_same w.instructions v.instructions text w.rest v.rest w.splits (bad_none w.rest w.own.place w.bad.place) v.splits (bad_none v.rest v.own.place v.bad.place) in
      let bad : IsBadAt v.rest w.own = subst (λ (l : List ℕ). IsBadAt l w.own) same.1 w.bad in
      let place : w.own.place ≡ v.own.place = place_same v.rest w.own.place v.own.place bad.place v.bad.place in
      ap (λ (at : BadAt). Bad at)
      (bad_at_same one other (omega (arith, w.place_is, v.place_is, ap length same.1, place)) (w.kind_is ∙ (kind_same v.rest w.own v.own bad v.bad ∙ sym v.kind_is)))

  pub reading_same : (r s : Reading) → IsReading text r → IsReading text s → r ≡ s
  reading_same (Whole acts n) (Whole others m) w v = whole_whole acts others n m w v
  reading_same (Whole acts n) (Cut place) w v = whole_cut acts n place w v
  reading_same (Whole acts n) (Bad at) w v = whole_bad acts n at w v
  reading_same (Whole acts n) TooMany w v = too_many w.instructions [] w.splits w.few none_in_nothing v
  reading_same (Cut place) (Whole acts n) w v = whole_cut acts n place v w
  reading_same (Cut p) (Cut q) w v = cut_cut p q w v
  reading_same (Cut place) (Bad at) w v = cut_bad place at w v
  reading_same (Cut place) TooMany w v = too_many w.instructions w.rest w.splits w.few w.unfinished.none v
  reading_same (Bad at) (Whole acts n) w v = whole_bad acts n at v w
  reading_same (Bad at) (Cut place) w v = cut_bad place at v w
  reading_same (Bad one) (Bad other) w v = bad_bad one other w v
  reading_same (Bad at) TooMany w v = too_many w.instructions w.rest w.splits w.few (bad_none w.rest w.own.place w.bad.place) v
  reading_same TooMany (Whole acts n) w v = too_many v.instructions [] v.splits v.few none_in_nothing w
  reading_same TooMany (Cut place) w v = too_many v.instructions v.rest v.splits v.few v.unfinished.none w
  reading_same TooMany (Bad at) w v = too_many v.instructions v.rest v.splits v.few (bad_none v.rest v.own.place v.bad.place) w
  reading_same TooMany TooMany w v = refl
