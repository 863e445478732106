-- Bytes are a recording in one way, or they have one first fault.
use Rattle.std.proofs.Common.{◌≡◌, ℕ, ◌+◌, ◌-◌, ◌<◌, ◌≤◌, List, [], ◌∷◌, ◌++◌, length, drop, take, refl, ap, sym, ◌∙◌, subst, length-drop, arith, true, false, inl, inr, append_assoc, append-nil}
use Rattle.std.specs.Prelude.{Option, Some, None, ◌⊎◌}
use Rattle.std.proofs.lemmas.Bool.{cases_lt}
use Rattle.std.proofs.Math.Seq.{take-take}
use Rattle.std.proofs.lemmas.List.{take-append-drop, length-take-le, take_all}
use Rattle.gate_model.specs.declared.instr.Instr.{Instr}
use Rattle.gate_model.specs.text.ServerMeaning.{instr_of}
use Rattle.gate_model.specs.text.Spelling.{Spells}
use Rattle.gate_model.proofs.Spelt.{prefix_free}
use Rattle.guac_framing.specs.Found.{HasNoInstruction, IsBadPlace, IsUnfinished}
use Rattle.record_play.specs.Stamps.{stamp_of}
use Rattle.record_play.specs.Recorded.{HasFault, HasRead, IsFault, IsRecorded, IsRefused, MayFollow, Placed, Rises, SpelledAt, last_stamp, most_recorded, through, Byte, Whole, Long, Unknown, Behind, Falls}
use Rattle.record_play.proofs.Plays.{last_of, read_older, rises}
use Rattle.guac_framing.proofs.Streams.{spelled_some}

-- at one place stands one instruction
one_there : (bytes : List ℕ) (k e f : ℕ) (x y : List (List ℕ)) → SpelledAt bytes k e x → SpelledAt bytes k f y → (e ≡ f) × (x ≡ y)
one_there bytes k e f x y s t =
    let same = prefix_free (take (e - k) (drop k bytes)) (take (f - k) (drop k bytes)) (drop (e - k) (drop k bytes)) (drop (f - k) (drop k bytes)) x y s.spelled t.spelled
    (take-append-drop (e - k) (drop k bytes) ∙ sym (take-append-drop (f - k) (drop k bytes))) in
    let left = length-drop k bytes in
    (omega (arith, ap length same.0, length-take-le (e - k) (drop k bytes) (omega (arith, left, s.within)), length-take-le (f - k) (drop k bytes) (omega (arith, left, t.within)), s.forward, t.forward), same.1)

-- an instruction has some bytes
pub goes_on : (bytes : List ℕ) (k e : ℕ) (x : List (List ℕ)) → SpelledAt bytes k e x → k < e
goes_on bytes k e x s = omega (arith, spelled_some _ x s.spelled.spelled, length-take-le (e - k) (drop k bytes) (omega (arith, length-drop k bytes, s.within)), s.forward)

place_same : (p q : Placed) → p.end ≡ q.end → p.instr ≡ q.instr → p ≡ q
place_same p q e i = ap (λ (n : ℕ). record { instr = p.instr; end = n }) e ∙ ap (λ (j : Instr). record { instr = j; end = q.end }) i

-- the next of a longer reading is the next of the other
next_is : (bytes : List ℕ) (a : List Placed) (q : Placed) (bs : List Placed) → HasRead bytes a → HasRead bytes (q ∷ bs) → q.end ≤ through a → (newer : List Placed) → a ≡ newer ++ bs → (more : List Placed) × (a ≡ more ++ q ∷ bs)
next_is bytes a q bs read_a read_b le [] is = let on = goes_on bytes (through bs) q.end read_b.0.0 read_b.0.1 in absurd (omega (arith, on, le, ap through is))
next_is bytes a q bs read_a read_b le (p ∷ newer) is =
    let n = last_of p newer in
    let split : a ≡ n.later ++ n.next ∷ bs = is ∙ (ap (λ (l : List Placed). l ++ bs) n.is ∙ append_assoc n.later (n.next ∷ []) bs) in
    let one : HasRead bytes (n.next ∷ bs) = read_older bytes n.later (n.next ∷ bs) (subst (HasRead bytes) split read_a) in
    let same = one_there bytes (through bs) n.next.end q.end one.0.0 read_b.0.0 one.0.1 read_b.0.1 in
    let instr : n.next.instr ≡ q.instr = (let w : Some n.next.instr ≡ Some q.instr = sym one.0.2 ∙ (ap instr_of same.1 ∙ read_b.0.2) in cc) in
    (n.later, split ∙ ap (λ (x : Placed). n.later ++ x ∷ bs) (place_same n.next q same.0 instr))

-- of two readings the longer goes on from the shorter
pub goes_from : (bytes : List ℕ) (a b : List Placed) → HasRead bytes a → HasRead bytes b → through b ≤ through a → (newer : List Placed) × (a ≡ newer ++ b)
goes_from bytes a [] read_a read_b le = (a, sym (append-nil a))
goes_from bytes a (q ∷ bs) read_a read_b le =
    let on = goes_on bytes (through bs) q.end read_b.0.0 read_b.0.1 in
    let so_far = goes_from bytes a bs read_a read_b.2 (omega (arith, on, le)) in
    next_is bytes a q bs read_a read_b le so_far.0 so_far.1

-- nothing stands where an instruction isn't finished, or nothing is left
nothing_there : (bytes : List ℕ) (k e : ℕ) (x : List (List ℕ)) → (drop k bytes ≡ []) ⊎ IsUnfinished (drop k bytes) → SpelledAt bytes k e x → ⊥
nothing_there bytes k e x (inl none) s = let on = goes_on bytes k e x s in omega (arith, on, s.within, ap length none, length-drop k bytes)
nothing_there bytes k e x (inr more) s = more.none (e - k) x s.spelled

not_bad : (bytes : List ℕ) (k e place : ℕ) (x : List (List ℕ)) → IsBadPlace (drop k bytes) place → SpelledAt bytes k e x → ⊥
not_bad bytes k e place x bad s = subst HasNoInstruction (take-append-drop (place + 1) (drop k bytes)) (bad.through (drop (place + 1) (drop k bytes))) (e - k) x s.spelled

pub not_bad_end : (bytes : List ℕ) (k place : ℕ) → (drop k bytes ≡ []) ⊎ IsUnfinished (drop k bytes) → IsBadPlace (drop k bytes) place → ⊥
not_bad_end bytes k place (inl none) bad = omega (arith, bad.within, ap length none)
not_bad_end bytes k place (inr more) bad =
    let c = more.completion in
    let all : take (place + 1) (drop k bytes) ++ (drop (place + 1) (drop k bytes) ++ c.0) ≡ drop k bytes ++ c.0 = sym (append_assoc (take (place + 1) (drop k bytes)) (drop (place + 1) (drop k bytes)) c.0) ∙ ap (λ (l : List ℕ). l ++ c.0) (take-append-drop (place + 1) (drop k bytes)) in
    subst HasNoInstruction all (bad.through (drop (place + 1) (drop k bytes) ++ c.0)) (length (drop k bytes ++ c.0)) c.1
    (subst (λ (l : List ℕ). Spells l c.1) (sym (take_all (length (drop k bytes ++ c.0)) (drop k bytes ++ c.0) (omega arith))) c.2)

not_refused : (placed : List Placed) (i : Instr) (meant : Option Instr) → MayFollow placed i → meant ≡ Some i → IsRefused placed meant → ⊥
not_refused placed i meant may is (Unknown none) = let w : None ≡ Some i = sym none ∙ is in cc
not_refused placed i meant may is (Behind closed) = let w : true ≡ false = sym closed ∙ may.going in cc
not_refused placed i meant may is (Falls last stamp newest j other stands low) =
    let same : j ≡ i = (let w : Some j ≡ Some i = sym other ∙ is in cc) in
    let up : Rises (Some last) (Some stamp) = subst (λ (o : Option ℕ). Rises o (Some stamp)) newest (subst (Rises (last_stamp placed)) (ap stamp_of (sym same) ∙ stands) may.rises) in
    omega (arith, up, low)

-- behind the faulty place the recording has a next instruction, or it ends there
fault_here : (bytes : List ℕ) (placed older : List Placed) (place : ℕ) → length bytes ≤ most_recorded → HasRead bytes placed → (drop (through placed) bytes ≡ []) ⊎ IsUnfinished (drop (through placed) bytes) → HasFault bytes older place
    → (newer : List Placed) → placed ≡ newer ++ older → ⊥
fault_here bytes placed older place few read ends (Long long is how) newer split = omega (arith, long, few)
fault_here bytes placed older place few read ends (Byte own bad is low) [] split = not_bad_end bytes (through older) own (subst (λ (l : List Placed). (drop (through l) bytes ≡ []) ⊎ IsUnfinished (drop (through l) bytes)) split ends) bad
fault_here bytes placed older place few read ends (Whole e x there refusal is low) [] split = nothing_there bytes (through older) e x (subst (λ (l : List Placed). (drop (through l) bytes ≡ []) ⊎ IsUnfinished (drop (through l) bytes)) split ends) there
fault_here bytes placed older place few read ends (Byte own bad is low) (p ∷ newer) split =
    let n = last_of p newer in
    let one : HasRead bytes (n.next ∷ older) = read_older bytes n.later (n.next ∷ older) (subst (HasRead bytes) (split ∙ (ap (λ (l : List Placed). l ++ older) n.is ∙ append_assoc n.later (n.next ∷ []) older)) read) in
    not_bad bytes (through older) n.next.end own one.0.0 bad one.0.1
fault_here bytes placed older place few read ends (Whole e x there refusal is low) (p ∷ newer) split =
    let n = last_of p newer in
    let one : HasRead bytes (n.next ∷ older) = read_older bytes n.later (n.next ∷ older) (subst (HasRead bytes) (split ∙ (ap (λ (l : List Placed). l ++ older) n.is ∙ append_assoc n.later (n.next ∷ []) older)) read) in
    let same = one_there bytes (through older) e n.next.end x one.0.0 there one.0.1 in
    not_refused older n.next.instr (instr_of x) one.1 (ap instr_of same.1 ∙ one.0.2) refusal

-- the faulty reading can't go on past the recording's end
past_end : (bytes : List ℕ) (placed longer : List Placed) → HasRead bytes longer → (drop (through placed) bytes ≡ []) ⊎ IsUnfinished (drop (through placed) bytes) → through placed < through longer → (newer : List Placed) → longer ≡ newer ++ placed → ⊥
past_end bytes placed longer read ends low [] split = omega (arith, low, ap through split)
past_end bytes placed longer read ends low (p ∷ newer) split =
    let n = last_of p newer in
    let one : HasRead bytes (n.next ∷ placed) = read_older bytes n.later (n.next ∷ placed) (subst (HasRead bytes) (split ∙ (ap (λ (l : List Placed). l ++ placed) n.is ∙ append_assoc n.later (n.next ∷ []) placed)) read) in
    nothing_there bytes (through placed) n.next.end one.0.0 ends one.0.1

-- a recording has no fault
pub recorded_or_fault : (bytes : List ℕ) (placed : List Placed) (cut place : ℕ) → IsRecorded bytes placed cut → IsFault bytes place → ⊥
recorded_or_fault bytes placed cut place r f = elim (cases_lt (through placed) (through f.placed)) [
  | inl low ↦ let on = goes_from bytes f.placed placed f.read r.read (omega (arith, low)) in past_end bytes placed f.placed f.read r.unfinished low on.0 on.1
  | inr high ↦ let on = goes_from bytes placed f.placed r.read f.read high in fault_here bytes placed f.placed place r.few r.read r.unfinished f.fault on.0 on.1
]

-- a reading that goes no further than another of the same bytes is that one
same_front : (bytes : List ℕ) (newer older : List Placed) → HasRead bytes (newer ++ older) → through (newer ++ older) ≡ through older → newer ≡ []
same_front bytes [] older read same = refl
same_front bytes (p ∷ newer) older read same =
    let on = goes_on bytes (through (newer ++ older)) p.end read.0.0 read.0.1 in
    let up = rises bytes newer older read.2 in absurd (omega (arith, on, up, same))

-- bytes are a recording in one way
pub recorded_once : (bytes : List ℕ) (one other : List Placed) (cut left : ℕ) → IsRecorded bytes one cut → IsRecorded bytes other left → (one ≡ other) × (cut ≡ left)
recorded_once bytes one other cut left r s =
    let no_less : (a b : List Placed) (c d : ℕ) → IsRecorded bytes a c → IsRecorded bytes b d → through a < through b → ⊥ = λ a b c d x y low. let on = goes_from bytes b a y.read x.read (omega (arith, low)) in past_end bytes a b y.read x.unfinished low on.0 on.1 in
    let same : through one ≡ through other = level (through one) (through other) (no_less one other cut left r s) (no_less other one left cut s r) in
    let on = goes_from bytes one other r.read s.read (omega (arith, same)) in
    let none = same_front bytes on.0 other (subst (HasRead bytes) on.1 r.read) (ap through (sym on.1) ∙ same) in
    (on.1 ∙ ap (λ (l : List Placed). l ++ other) none, omega (arith, r.cut_is, s.cut_is, same))
  where
    level : (m n : ℕ) → (m < n → ⊥) → (n < m → ⊥) → m ≡ n
    level m n f g = elim (cases_lt m n) [ inl low ↦ absurd (f low) | inr high ↦ elim (cases_lt n m) [ inl low ↦ absurd (g low) | inr other ↦ omega (arith, high, other) ] ]

-- the first bad byte of a front
not_before : (bytes : List ℕ) (place other : ℕ) → IsBadPlace bytes place → IsBadPlace bytes other → place < other → ⊥
not_before bytes place other bad worse low =
    let c = worse.before in
    let front : take (place + 1) (take other bytes) ≡ take (place + 1) bytes = take-take (place + 1) other bytes (omega (arith, low)) in
    let rest = drop (place + 1) (take other bytes) in
    let all : take (place + 1) bytes ++ (rest ++ c.0) ≡ take other bytes ++ c.0 = sym (append_assoc (take (place + 1) bytes) rest c.0) ∙ ap (λ (l : List ℕ). l ++ c.0) (ap (λ (l : List ℕ). l ++ rest) (sym front) ∙ take-append-drop (place + 1) (take other bytes)) in
    subst HasNoInstruction all (bad.through (rest ++ c.0)) (length (take other bytes ++ c.0)) c.1 (subst (λ (l : List ℕ). Spells l c.1) (sym (take_all (length (take other bytes ++ c.0)) (take other bytes ++ c.0) (omega arith))) c.2)

pub one_bad : (bytes : List ℕ) (place other : ℕ) → IsBadPlace bytes place → IsBadPlace bytes other → place ≡ other
one_bad bytes place other bad worse = elim (cases_lt place other) [
  | inl low ↦ absurd (not_before bytes place other bad worse low)
  | inr high ↦ elim (cases_lt other place) [ inl low ↦ absurd (not_before bytes other place worse bad low) | inr same ↦ omega (arith, high, same) ]
]

-- a bad byte, or a whole instruction, within the limit leaves no cause to tell of the limit
abbrev pub AtLimit : List ℕ → ℕ → Type 0
AtLimit bytes at = (most_recorded ≤ at) ⊎ (IsUnfinished (drop at bytes) ⊎ ((own : ℕ) × IsBadPlace (drop at bytes) own × (most_recorded ≤ at + own)))

pub bad_not_limit : (bytes : List ℕ) (at own : ℕ) → IsBadPlace (drop at bytes) own → at + own < most_recorded → AtLimit bytes at → ⊥
bad_not_limit bytes at own bad low (inl high) = omega (arith, low, high)
bad_not_limit bytes at own bad low (inr (inl more)) = not_bad_end bytes at own (inr more) bad
bad_not_limit bytes at own bad low (inr (inr other)) = let same = one_bad (drop at bytes) own other.0 bad other.1 in omega (arith, same, low, other.2)

whole_not_limit : (bytes : List ℕ) (at end : ℕ) (x : List (List ℕ)) → SpelledAt bytes at end x → at < most_recorded → AtLimit bytes at → ⊥
whole_not_limit bytes at end x there low (inl high) = omega (arith, low, high)
whole_not_limit bytes at end x there low (inr (inl more)) = nothing_there bytes at end x (inr more) there
whole_not_limit bytes at end x there low (inr (inr other)) = not_bad bytes at end other.0 x other.1 there

-- behind the same instructions stands one first fault
fault_same : (bytes : List ℕ) (placed : List Placed) (p q : ℕ) → HasFault bytes placed p → HasFault bytes placed q → p ≡ q
fault_same bytes placed p q (Byte own bad is low) (Byte other worse same_place few) = let same = one_bad (drop (through placed) bytes) own other bad worse in omega (arith, is, same_place, same)
fault_same bytes placed p q (Byte own bad is low) (Whole e x there refusal same_place few) = absurd (not_bad bytes (through placed) e own x bad there)
fault_same bytes placed p q (Byte own bad is low) (Long long same_place how) = absurd (bad_not_limit bytes (through placed) own bad (omega (arith, is, low)) how)
fault_same bytes placed p q (Whole e x there refusal is low) (Byte other worse same_place few) = absurd (not_bad bytes (through placed) e other x worse there)
fault_same bytes placed p q (Whole e x there refusal is low) (Whole f y here other same_place few) = omega (arith, is, same_place)
fault_same bytes placed p q (Whole e x there refusal is low) (Long long same_place how) = absurd (whole_not_limit bytes (through placed) e x there (omega (arith, is, low)) how)
fault_same bytes placed p q (Long long is how) (Byte other worse same_place few) = absurd (bad_not_limit bytes (through placed) other worse (omega (arith, same_place, few)) how)
fault_same bytes placed p q (Long long is how) (Whole e x there refusal same_place few) = absurd (whole_not_limit bytes (through placed) e x there (omega (arith, same_place, few)) how)
fault_same bytes placed p q (Long long is how) (Long more same_place why) = omega (arith, is, same_place)

-- where another reading goes on, the fault is the limit's
ahead : (bytes : List ℕ) (older : List Placed) (next : Placed) (q : ℕ) → HasRead bytes (next ∷ older) → HasFault bytes older q → (q ≡ most_recorded) × (most_recorded ≤ through older)
ahead bytes older next q one (Byte own bad is low) = absurd (not_bad bytes (through older) next.end own one.0.0 bad one.0.1)
ahead bytes older next q one (Whole e x there refusal is low) =
    let same = one_there bytes (through older) e next.end x one.0.0 there one.0.1 in
    absurd (not_refused older next.instr (instr_of x) one.1 (ap instr_of same.1 ∙ one.0.2) refusal)
ahead bytes older next q one (Long long is (inl high)) = (is, high)
ahead bytes older next q one (Long long is (inr (inl more))) = absurd (nothing_there bytes (through older) next.end one.0.0 (inr more) one.0.1)
ahead bytes older next q one (Long long is (inr (inr bad))) = absurd (not_bad bytes (through older) next.end bad.0 one.0.0 bad.1 one.0.1)

past_limit : (bytes : List ℕ) (placed : List Placed) (p : ℕ) → HasFault bytes placed p → most_recorded ≤ through placed → p ≡ most_recorded
past_limit bytes placed p (Byte own bad is low) high = absurd (omega (arith, is, low, high))
past_limit bytes placed p (Whole e x there refusal is low) high = absurd (omega (arith, is, low, high))
past_limit bytes placed p (Long long is how) high = is

-- of two faults, the one behind the longer reading is the other
fault_from : (bytes : List ℕ) (placed older : List Placed) (p q : ℕ) → HasRead bytes placed → HasFault bytes placed p → HasFault bytes older q → (newer : List Placed) → placed ≡ newer ++ older → p ≡ q
fault_from bytes placed older p q read f g [] split = fault_same bytes older p q (subst (λ (l : List Placed). HasFault bytes l p) split f) g
fault_from bytes placed older p q read f g (r ∷ newer) split =
    let n = last_of r newer in
    let apart : placed ≡ n.later ++ n.next ∷ older = split ∙ (ap (λ (l : List Placed). l ++ older) n.is ∙ append_assoc n.later (n.next ∷ []) older) in
    let further : HasRead bytes (n.later ++ n.next ∷ older) = subst (HasRead bytes) apart read in
    let one : HasRead bytes (n.next ∷ older) = read_older bytes n.later (n.next ∷ older) further in
    let limit = ahead bytes older n.next q one g in
    let up = rises bytes n.later (n.next ∷ older) further in
    let forward = one.0.1.forward in
    past_limit bytes placed p f (omega (arith, limit.1, forward, up, ap through apart)) ∙ sym limit.0

-- the first fault stands at one place
pub fault_is_one : (bytes : List ℕ) (p q : ℕ) → IsFault bytes p → IsFault bytes q → p ≡ q
fault_is_one bytes p q f g = elim (cases_lt (through f.placed) (through g.placed)) [
  | inl low ↦ let on = goes_from bytes g.placed f.placed g.read f.read (omega (arith, low)) in sym (fault_from bytes g.placed f.placed q p g.read g.fault f.fault on.0 on.1)
  | inr high ↦ let on = goes_from bytes f.placed g.placed f.read g.read high in fault_from bytes f.placed g.placed p q f.read f.fault g.fault on.0 on.1
]
