-- What steps on a shelf come to, one after the other, where it tells what is there.
use Rattle.std.proofs.Common.{◌≡◌, ◌≢◌, ◌⊎◌, inl, inr, ℕ, List, Bool, true, false, refl, ap, sym, ◌∙◌, subst, true≢false}
use Rattle.std.specs.Prelude.{Option, Some, None, IfSome}
use Rattle.std.specs.Str.{bytes_eq}
use Rattle.std.proofs.lemmas.Slice.Eq.{bytes_eq-Decides}
use Rattle.id_table.specs.Maps.{Changed, IsLent, Same, Shelved, Told, had, lent_as}

-- ---- what is told

module _ {M : Type 0} where
  -- one step after another
  pub told_on : (P Q R : M → M → Type 0) (a b c : Option M) → Told a b P → Told b c Q → ((m k n : M) → a ≡ Some m → P m k → Q k n → R m n) → Told a c R
  told_on P Q R None None None p q f = tt
  told_on P Q R None None (Some n) p q f = absurd q
  told_on P Q R None (Some k) c p q f = absurd p
  told_on P Q R (Some m) None c p q f = absurd p
  told_on P Q R (Some m) (Some k) None p q f = absurd q
  told_on P Q R (Some m) (Some k) (Some n) p q f = f m k n refl p q

  -- the same steps, told in other words
  pub told_as : (P R : M → M → Type 0) (a b : Option M) → Told a b P → ((m n : M) → a ≡ Some m → P m n → R m n) → Told a b R
  told_as P R None None p f = tt
  told_as P R None (Some n) p f = absurd p
  told_as P R (Some m) None p f = absurd p
  told_as P R (Some m) (Some n) p f = f m n refl p

  -- what holds of what is told after it
  pub after_told : (P : M → M → Type 0) (H K : M → Type 0) (a b : Option M) → Told a b P → IfSome a H → ((m n : M) → H m → P m n → K n) → IfSome b K
  after_told P H K None None p h f = tt
  after_told P H K None (Some n) p h f = absurd p
  after_told P H K (Some m) None p h f = absurd p
  after_told P H K (Some m) (Some n) p h f = f m n h p

  pub told_with : (P R : M → M → Type 0) (H : M → Type 0) (a b : Option M) → Told a b P → IfSome a H → ((m n : M) → H m → P m n → R m n) → Told a b R
  told_with P R H None None p h f = tt
  told_with P R H None (Some n) p h f = absurd p
  told_with P R H (Some m) None p h f = absurd p
  told_with P R H (Some m) (Some n) p h f = f m n h p

  -- nothing was done
  pub told_none : (R : M → M → Type 0) (a b : Option M) → b ≡ a → ((m : M) → R m m) → Told a b R
  told_none R a b same f = subst (λ (o : Option M). Told a o R) (sym same) (stays a)
    where
      stays : (o : Option M) → Told o o R
      stays None = tt
      stays (Some m) = f m

-- ---- one ID

pub same_or_not : (id k : List ℕ) → (k ≡ id) ⊎ (k ≢ id)
same_or_not id k = pick (bytes_eq id k) refl
  where
    pick : (b : Bool) → bytes_eq id k ≡ b → (k ≡ id) ⊎ (k ≢ id)
    pick true e = inl (sym ((bytes_eq-Decides id k).0 e))
    pick false e = inr (λ same. true≢false (sym ((bytes_eq-Decides id k).1 (sym same)) ∙ e))

module _ {V : Type 0} where
  pub same_refl : (m : Shelved V) → Same m m
  same_refl m k = refl

  pub same_trans : (m k n : Shelved V) → Same m k → Same k n → Same m n
  same_trans m k n a b i = b i ∙ a i

  pub changed_after : (id : List ℕ) (x : Option (Option V)) (m k n : Shelved V) → Same m k → Changed id x k n → Changed id x m n
  changed_after id x m k n s c = (c.0, λ i apart. c.1 i apart ∙ s i)

  pub changed_twice : (id : List ℕ) (x y : Option (Option V)) (m k n : Shelved V) → Changed id x m k → Changed id y k n → Changed id y m n
  changed_twice id x y m k n a b = (b.0, λ i apart. b.1 i apart ∙ a.1 i apart)

  -- an ID that stays as it was
  pub changed_none : (id : List ℕ) (x : Option (Option V)) (m n : Shelved V) → m id ≡ x → Changed id x m n → Same m n
  changed_none id x m n was c k = pick (same_or_not id k)
    where
      pick : (k ≡ id) ⊎ (k ≢ id) → n k ≡ m k
      pick (inl same) = ap n same ∙ (c.0 ∙ (sym was ∙ sym (ap m same)))
      pick (inr apart) = c.1 k apart

  -- what holds of every ID still does
  pub all_changed : (H : Option (Option V) → Type 0) (id : List ℕ) (x : Option (Option V)) (m n : Shelved V) → ((k : List ℕ) → H (m k)) → H x → Changed id x m n → (k : List ℕ) → H (n k)
  all_changed H id x m n all now c k = pick (same_or_not id k)
    where
      pick : (k ≡ id) ⊎ (k ≢ id) → H (n k)
      pick (inl same) = subst H (sym (ap n same ∙ c.0)) now
      pick (inr apart) = subst H (sym (c.1 k apart)) (all k)

  pub all_same : (H : Option (Option V) → Type 0) (m n : Shelved V) → ((k : List ℕ) → H (m k)) → Same m n → (k : List ℕ) → H (n k)
  all_same H m n all s k = subst H (sym (s k)) (all k)

  -- what a lend and what is put back then come to
  abbrev pub Swapped : List ℕ → V → V → Shelved V → Shelved V → Type 0
  Swapped id v w m n = (m id ≡ Some (Some v)) × Changed id (Some (Some w)) m n

  abbrev pub Lends : List ℕ → Option V → Shelved V → Shelved V → Type 0
  Lends id lent m n = (m id ≡ had lent) × Changed id (lent_as lent) m n

  pub swapped : (id : List ℕ) (v w : V) (a b c : Option (Shelved V)) → Told a b (Lends id (Some v)) → Told b c (Changed id (Some (Some w))) → Told a c (Swapped id v w)
  swapped id v w a b c lend back = told_on (Lends id (Some v)) (Changed id (Some (Some w))) (Swapped id v w) a b c lend back (λ m k n is p q. (p.0, changed_twice id (Some None) (Some (Some w)) m k n p.1 q))

  -- .. and is then taken out
  pub some_inj : (v w : V) → Some (Some v) ≡ Some (Some w) → v ≡ w
  some_inj v w e = cc

  pub taken_out : (id : List ℕ) (v w x : V) (a b c : Option (Shelved V)) → Told a b (Swapped id v w) → Told b c (λ m n. (m id ≡ had (Some x)) × Changed id None m n)
      → Told a c (λ m n. (m id ≡ Some (Some v)) × (x ≡ w) × Changed id None m n)
  taken_out id v w x a b c put out = told_on (Swapped id v w) (λ m n. (m id ≡ Some (Some x)) × Changed id None m n) (λ m n. (m id ≡ Some (Some v)) × (x ≡ w) × Changed id None m n) a b c put out
      (λ m k n is p q. (p.0, some_inj x w (sym q.0 ∙ p.1.0), changed_twice id (Some (Some w)) None m k n p.1 q.1))

  -- an ID whose value was put back is there and not lent
  pub not_lent : (id : List ℕ) (w : V) (a b : Option (Shelved V)) → Told a b (Changed id (Some (Some w))) → IfSome b (λ m. ¬ (IsLent id m))
  not_lent id w None None t = tt
  not_lent id w None (Some n) t = absurd t
  not_lent id w (Some m) None t = absurd t
  not_lent id w (Some m) (Some n) t = λ lent. absurd (let z : Some (Some w) ≡ Some None = sym t.0 ∙ lent in cc)

  pub is_lent : (id : List ℕ) (v : V) (a b : Option (Shelved V)) → Told a b (Lends id (Some v)) → IfSome b (IsLent id)
  is_lent id v None None t = tt
  is_lent id v None (Some n) t = absurd t
  is_lent id v (Some m) None t = absurd t
  is_lent id v (Some m) (Some n) t = t.1.0
