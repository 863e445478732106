-- The number of live viewers is the number of those that are there, and each has a number of those that joined.
use Rattle.std.proofs.Common.{◌≡◌, ℕ, zero, suc, ◌+◌, ◌<◌, ◌≤◌, List, [], ◌∷◌, length, Bool, true, false, not, ◌&&◌, ◌||◌, ◌⊎◌, inl, inr, refl, ap, sym, ◌∙◌, subst, arith}
use Rattle.std.specs.Prelude.{filter, ◌==◌}
use Rattle.std.specs.List.{range_with_len}
use Rattle.std.proofs.lemmas.Bool.{eq-eqb}
use Rattle.std.proofs.lemmas.Bool.Decides.{eqb_tells}
use Rattle.gate_model.specs.declared.entry.Entry.{Entry}
use Rattle.gate_model.specs.declared.entry.Entry.TheVariants.{Start, Feed, Size, Join, Read, Write, Take, Leave, Close}
use Rattle.gate_model.specs.declared.instr.Instr.{Instr}
use Rattle.gate_model.specs.declared.sharing.Role.{Role}
use Rattle.gate_model.specs.session.History.{History, joined}
use Rattle.gate_model.specs.session.Laws.{LiveAreCounted, LiveHaveJoined}
use Rattle.gate_model.specs.session.Rights.{is_live, live_count}
use Rattle.gate_model.specs.session.Steps.{Legal}
use Rattle.gate_model.proofs.Added.{IsNext, next}
use Rattle.gate_model.proofs.FewCounts.{one}

-- ---- how many of the numbers from a on, n of them, pass a test

abbrev counted : (ℕ → Bool) → ℕ → ℕ → ℕ
counted p a n = length (filter p (range_with_len a n))

first : (p : ℕ → Bool) (a n : ℕ) → counted p a (suc n) ≡ one (p a) + counted p (a + 1) n
first p a n = cases (p a) refl
  where
    cases : (b : Bool) → p a ≡ b → counted p a (suc n) ≡ one (p a) + counted p (a + 1) n
    cases true e = let longer : filter p (a ∷ range_with_len (a + 1) n) ≡ a ∷ filter p (range_with_len (a + 1) n) = rw e refl in omega (arith, ap length longer, ap one e)
    cases false e = let shorter : filter p (a ∷ range_with_len (a + 1) n) ≡ filter p (range_with_len (a + 1) n) = rw e refl in omega (arith, ap length shorter, ap one e)

same : (p q : ℕ → Bool) (a n : ℕ) → ((v : ℕ) → a ≤ v → v < a + n → p v ≡ q v) → counted p a n ≡ counted q a n
same p q a zero f = refl
same p q a (suc n) f = omega (arith, first p a n, first q a n, ap one (f a (omega arith) (omega arith)), same p q (a + 1) n (λ v low high. f v (omega (arith, low)) (omega (arith, high))))

more : (p : ℕ → Bool) (a n : ℕ) → counted p a (suc n) ≡ counted p a n + one (p (a + n))
more p a zero = let e : a ≡ a + 0 = omega arith in omega (arith, first p a 0, ap (λ (k : ℕ). one (p k)) e)
more p a (suc n) = let e : a + 1 + n ≡ a + suc n = omega arith in omega (arith, first p a (suc n), first p a n, more p (a + 1) n, ap (λ (k : ℕ). one (p k)) e)

fewer : (p q : ℕ → Bool) (a n u : ℕ) → a ≤ u → u < a + n → p u ≡ true → q u ≡ false → ((v : ℕ) → (u ≡ v → ⊥) → p v ≡ q v) → counted p a n ≡ counted q a n + 1
fewer p q a zero u low high is isnt others = absurd (omega (arith, low, high))
fewer p q a (suc n) u low high is isnt others = elim (eqb_tells u a) as (λ _. counted p a (suc n) ≡ counted q a (suc n) + 1) [
  | inl e ↦ omega (
    arith,
    first p a n,
    first q a n,
    ap one (subst (λ (k : ℕ). p k ≡ true) e.1 is),
    ap one (subst (λ (k : ℕ). q k ≡ false) e.1 isnt),
    same p q (a + 1) n (λ v l h. others v (λ (s : u ≡ v). omega (arith, s, e.1, l))),
  )
  | inr e ↦ omega (arith, first p a n, first q a n, ap one (others a e.1), fewer p q (a + 1) n u (omega (arith, low, e.1)) (omega (arith, high)) is isnt others)
]

-- ---- each entry

record Live (h : History) : Type 0 where
  counts : live_count h ≡ counted (is_live h) 1 (joined h)
  some : (v : ℕ) → is_live h v ≡ true → 1 ≤ v
  high : (v : ℕ) → is_live h v ≡ true → v ≤ joined h

-- an entry that is no Join and no Leave
stays : (b : Bool) → (false || (b && not false)) ≡ b
stays true = refl
stays false = refl

plain_live : (g : History) (e : Entry) → Live g → ((v : ℕ) → is_live (e ∷ g) v ≡ is_live g v) → live_count (e ∷ g) ≡ live_count g → joined (e ∷ g) ≡ joined g → Live (e ∷ g)
plain_live g e l here number joins = record {
  counts = number ∙ (l.counts ∙ (same (is_live g) (is_live (e ∷ g)) 1 (joined g) (λ v low high. sym (here v)) ∙ ap (counted (is_live (e ∷ g)) 1) (sym joins)));
  some = λ v q. l.some v (sym (here v) ∙ q);
  high = λ v q. rw joins (l.high v (sym (here v) ∙ q));
}

join_live : (g : History) (viewer : ℕ) (role : Role) (drawn : List Instr) → Live g → viewer ≡ joined g + 1 → Live (Join viewer role drawn ∷ g)
join_live g viewer role drawn l number = record {
  counts =
      let kept : counted (is_live g) 1 (joined g) ≡ counted (is_live h) 1 (joined g) = same (is_live g) (is_live h) 1 (joined g) (λ v low high. other v (omega (arith, number, high)) (eqb_tells viewer v)) in
      let itself : is_live h (1 + joined g) ≡ true = subst (λ (k : ℕ). is_live h k ≡ true) (omega (arith, number)) (here (viewer == viewer) (eq-eqb viewer viewer refl)) in
      let next_number : suc (joined g) ≡ joined g + 1 = omega arith in
      omega (arith, l.counts, kept, more (is_live h) 1 (joined g), ap one itself, ap (counted (is_live h) 1) next_number);
  some = λ v q. low v q (eqb_tells viewer v);
  high = λ v q. most v q (eqb_tells viewer v);
}
  where
    h : History
    h = Join viewer role drawn ∷ g

    here : (b : Bool) → b ≡ true → (b || (is_live g viewer && not false)) ≡ true
    here true e = refl
    here false e = absurd (let w : false ≡ true = e in cc)

    old : (b c : Bool) → b ≡ false → (b || (c && not false)) ≡ c
    old false true e = refl
    old false false e = refl
    old true c e = absurd (let w : true ≡ false = e in cc)

    other : (v : ℕ) → (viewer ≡ v → ⊥) → (((viewer == v) ≡ true) × (viewer ≡ v)) ⊎ (((viewer == v) ≡ false) × (viewer ≡ v → ⊥)) → is_live g v ≡ is_live h v
    other v differs (inl p) = absurd (differs p.1)
    other v differs (inr p) = sym (old (viewer == v) (is_live g v) p.0)

    low : (v : ℕ) → is_live h v ≡ true → (((viewer == v) ≡ true) × (viewer ≡ v)) ⊎ (((viewer == v) ≡ false) × (viewer ≡ v → ⊥)) → 1 ≤ v
    low v q (inl p) = omega (arith, number, p.1)
    low v q (inr p) = l.some v (sym (old (viewer == v) (is_live g v) p.0) ∙ q)

    most : (v : ℕ) → is_live h v ≡ true → (((viewer == v) ≡ true) × (viewer ≡ v)) ⊎ (((viewer == v) ≡ false) × (viewer ≡ v → ⊥)) → v ≤ joined h
    most v q (inl p) = omega (arith, number, p.1)
    most v q (inr p) = omega (arith, l.high v (sym (old (viewer == v) (is_live g v) p.0) ∙ q))

leave_live : (g : History) (viewer : ℕ) → Live g → is_live g viewer ≡ true → Live (Leave viewer ∷ g)
leave_live g viewer l live = record {
  counts = omega (arith, l.counts, fewer (is_live g) (is_live h) 1 (joined g) viewer (l.some viewer live) (omega (arith, l.high viewer live)) live (gone (is_live g viewer) (viewer == viewer) (eq-eqb viewer viewer refl)) (λ v differs. other v differs (eqb_tells viewer v)));
  some = λ v q. l.some v (was (is_live g v) (viewer == v) q);
  high = λ v q. l.high v (was (is_live g v) (viewer == v) q);
}
  where
    h : History
    h = Leave viewer ∷ g

    gone : (b c : Bool) → c ≡ true → (false || (b && not c)) ≡ false
    gone true true e = refl
    gone false true e = refl
    gone b false e = absurd (let w : false ≡ true = e in cc)

    was : (b c : Bool) → (false || (b && not c)) ≡ true → b ≡ true
    was true c e = refl
    was false c e = e

    kept : (b c : Bool) → c ≡ false → b ≡ (false || (b && not c))
    kept true false e = refl
    kept false false e = refl
    kept b true e = absurd (let w : true ≡ false = e in cc)

    other : (v : ℕ) → (viewer ≡ v → ⊥) → (((viewer == v) ≡ true) × (viewer ≡ v)) ⊎ (((viewer == v) ≡ false) × (viewer ≡ v → ⊥)) → is_live g v ≡ is_live h v
    other v differs (inl p) = absurd (differs p.1)
    other v differs (inr p) = kept (is_live g v) (viewer == v) p.0

next_live : (g : History) (e : Entry) → Live g → IsNext g e → Live (e ∷ g)
next_live g (Feed bytes stamp frame) l n = plain_live g (Feed bytes stamp frame) l (λ v. stays (is_live g v)) refl refl
next_live g (Size viewer cols rows stamp frame) l n = plain_live g (Size viewer cols rows stamp frame) l (λ v. stays (is_live g v)) refl refl
next_live g (Join viewer role first) l n = join_live g viewer role first l n.is_next
next_live g (Read viewer how) l n = plain_live g (Read viewer how) l (λ v. stays (is_live g v)) refl refl
next_live g (Write viewer acts) l n = plain_live g (Write viewer acts) l (λ v. stays (is_live g v)) refl refl
next_live g (Take count) l n = plain_live g (Take count) l (λ v. stays (is_live g v)) refl refl
next_live g (Leave viewer) l n = leave_live g viewer l n
next_live g (Close cause) l n = plain_live g (Close cause) l (λ v. stays (is_live g v)) refl refl
next_live g (Start cols rows mode term faces entries stamp frame) l n = absurd n

live_of : (h : History) → Legal h → Live h
live_of [] l = absurd l
live_of (e ∷ []) l = subst (λ (x : Entry). Live (x ∷ [])) (sym l.2.4) record {
  counts = refl;
  some = λ v q. absurd (let w : false ≡ true = q in cc);
  high = λ v q. absurd (let w : false ≡ true = q in cc);
}
live_of (e ∷ f ∷ g) l = next_live (f ∷ g) e (live_of (f ∷ g) l.0) (next e f g l)

pub live-counted : LiveAreCounted
live-counted h l = (live_of h l).counts

pub live-joined : LiveHaveJoined
live-joined h l v q = let k = live_of h l in (k.some v q, k.high v q)
