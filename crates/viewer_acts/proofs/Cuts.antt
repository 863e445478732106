-- How acts are cut at those that ask for a size.
use Rattle.std.proofs.Common.{◌≡◌, ℕ, suc, ◌+◌, ◌≤◌, List, [], ◌∷◌, ◌++◌, length, get_or, take, drop, refl, ap, sym, ◌∙◌, subst, append_assoc, arith}
use Rattle.std.specs.Prelude.{Option, Some, None, cond, is_none}
use Rattle.std.specs.List.{prefix_len}
use Rattle.gate_model.specs.declared.act.Act.{Act}
use Rattle.gate_model.specs.declared.act.Act.TheVariants.{Key, Mouse, Sync, Size, Nop, Disconnect}
use Rattle.viewer_acts.specs.Parts.{AreParts, Others, Part, Sized, acts_in, is_other, joined, parts_of, size_in, with_act, with_first}

-- ---- an act and what it asks

pub size_act : (act : Act) (size : ℕ × ℕ) → size_in act ≡ Some size → act ≡ Size size.0 size.1
size_act (Size a b) size e = let w : (a, b) ≡ size = (let z : Some (a, b) ≡ Some size = e in cc) in ap (λ (s : ℕ × ℕ). Size s.0 s.1) w
size_act (Key k p) size e = absurd (let z : None ≡ Some size = e in cc)
size_act (Mouse x y m) size e = absurd (let z : None ≡ Some size = e in cc)
size_act (Sync s) size e = absurd (let z : None ≡ Some size = e in cc)
size_act Nop size e = absurd (let z : None ≡ Some size = e in cc)
size_act Disconnect size e = absurd (let z : None ≡ Some size = e in cc)

-- ---- the acts of parts are those that were cut

joined_with : (act : Act) (parts : List Part) → joined (with_act act parts) ≡ act ∷ joined parts
joined_with act [] = refl
joined_with act (Others acts ∷ parts) = refl
joined_with act (Sized size ∷ parts) = refl

joined_first : (o : Option (ℕ × ℕ)) (act : Act) (parts : List Part) → size_in act ≡ o → joined (with_first o act parts) ≡ act ∷ joined parts
joined_first None act parts is = joined_with act parts
joined_first (Some size) act parts is = ap (λ (a : Act). a ∷ joined parts) (sym (size_act act size is))

pub joined_of : (acts : List Act) → joined (parts_of acts) ≡ acts
joined_of [] = refl
joined_of (act ∷ acts) = joined_first (size_in act) act (parts_of acts) refl ∙ ap (λ (rest : List Act). act ∷ rest) (joined_of acts)

pub joined_more : (parts others : List Part) → joined (parts ++ others) ≡ joined parts ++ joined others
joined_more [] others = refl
joined_more (part ∷ parts) others = ap (λ (rest : List Act). acts_in part ++ rest) (joined_more parts others) ∙ sym (append_assoc (acts_in part) (joined parts) (joined others))

-- ---- each part is one

parts_with : (act : Act) (parts : List Part) → size_in act ≡ None → AreParts parts → AreParts (with_act act parts)
parts_with act [] is k = (record { some = omega arith; no_size = (is, tt) }, tt)
parts_with act (Others acts ∷ parts) is k = (record { some = omega arith; no_size = (is, k.0.no_size) }, k.1)
parts_with act (Sized size ∷ parts) is k = (record { some = omega arith; no_size = (is, tt) }, k)

parts_first : (o : Option (ℕ × ℕ)) (act : Act) (parts : List Part) → size_in act ≡ o → AreParts parts → AreParts (with_first o act parts)
parts_first None act parts is k = parts_with act parts is k
parts_first (Some size) act parts is k = (tt, k)

pub are_parts : (acts : List Act) → AreParts (parts_of acts)
are_parts [] = tt
are_parts (act ∷ acts) = parts_first (size_in act) act (parts_of acts) refl (are_parts acts)

pub parts_more : (parts others : List Part) → AreParts parts → AreParts others → AreParts (parts ++ others)
parts_more [] others k m = m
parts_more (part ∷ parts) others k m = (k.0, parts_more parts others k.1 m)

-- ---- the first part

take_one : (k : ℕ) (x : Act) (xs : List Act) → (take (1 + k) (x ∷ xs) ≡ x ∷ take k xs) × (drop (1 + k) (x ∷ xs) ≡ drop k xs)
take_one k x xs = let more : 1 + k ≡ suc k = omega arith in (ap (λ (n : ℕ). take n (x ∷ xs)) more, ap (λ (n : ℕ). drop n (x ∷ xs)) more)

-- acts up to the first that asks for a size
run_next : (o : Option (ℕ × ℕ)) (act next : Act) (acts : List Act) → size_in next ≡ o → (size_in next ≡ None → parts_of (next ∷ acts) ≡ Others (next ∷ take (prefix_len is_other acts) acts) ∷ parts_of (drop (prefix_len is_other acts) acts))
    → with_act act (parts_of (next ∷ acts)) ≡ Others (act ∷ take (prefix_len is_other (next ∷ acts)) (next ∷ acts)) ∷ parts_of (drop (prefix_len is_other (next ∷ acts)) (next ∷ acts))
run_next None act next acts is then_ = ap (with_act act) (then_ is) ∙ rw is (let t = take_one (prefix_len is_other acts) next acts in rw (t.0, t.1) refl)
run_next (Some size) act next acts is then_ =
    let none : prefix_len is_other (next ∷ acts) ≡ 0 = ap (λ (o : Option (ℕ × ℕ)). cond (is_none o) (1 + prefix_len is_other acts) 0) is in
    let here : parts_of (next ∷ acts) ≡ Sized size ∷ parts_of acts = ap (λ (o : Option (ℕ × ℕ)). with_first o next (parts_of acts)) is in
    ap (with_act act) here ∙ (ap (λ (ps : List Part). Others (act ∷ []) ∷ ps) (sym here) ∙ ap (λ (n : ℕ). Others (act ∷ take n (next ∷ acts)) ∷ parts_of (drop n (next ∷ acts))) (sym none))

run_behind : (act : Act) (acts : List Act) → with_act act (parts_of acts) ≡ Others (act ∷ take (prefix_len is_other acts) acts) ∷ parts_of (drop (prefix_len is_other acts) acts)
run_behind act [] = refl
run_behind act (next ∷ acts) = run_next (size_in next) act next acts refl (λ is. ap (λ (o : Option (ℕ × ℕ)). with_first o next (parts_of acts)) is ∙ run_behind next acts)

pub run_first : (act : Act) (acts : List Act) → size_in act ≡ None → parts_of (act ∷ acts) ≡ Others (take (prefix_len is_other (act ∷ acts)) (act ∷ acts)) ∷ parts_of (drop (prefix_len is_other (act ∷ acts)) (act ∷ acts))
run_first act acts is = ap (λ (o : Option (ℕ × ℕ)). with_first o act (parts_of acts)) is ∙ (run_behind act acts ∙ rw is (let t = take_one (prefix_len is_other acts) act acts in rw (t.0, t.1) refl))

pub size_first : (act : Act) (acts : List Act) (size : ℕ × ℕ) → size_in act ≡ Some size → parts_of (act ∷ acts) ≡ Sized size ∷ parts_of acts
size_first act acts size is = ap (λ (o : Option (ℕ × ℕ)). with_first o act (parts_of acts)) is

-- .. of acts of which the first is told apart
pub size_part : (acts : List Act) (other : Act) (o : Option (ℕ × ℕ)) (size : ℕ × ℕ) → 1 ≤ length acts → o ≡ size_in (get_or acts 0 other) → o ≡ Some size → parts_of acts ≡ Sized size ∷ parts_of (drop 1 acts)
size_part [] other o size some first is = absurd (omega (arith, some))
size_part (act ∷ acts) other o size some first is = size_first act acts size (sym first ∙ is)

pub run_part : (acts : List Act) (other : Act) (o : Option (ℕ × ℕ)) (n : ℕ) → 1 ≤ length acts → o ≡ size_in (get_or acts 0 other) → o ≡ None → n ≡ prefix_len is_other acts → parts_of acts ≡ Others (take n acts) ∷ parts_of (drop n acts)
run_part [] other o n some first is count = absurd (omega (arith, some))
run_part (act ∷ acts) other o n some first is count =
    subst (λ (k : ℕ). parts_of (act ∷ acts) ≡ Others (take k (act ∷ acts)) ∷ parts_of (drop k (act ∷ acts))) (sym count) (run_first act acts (sym first ∙ is))
