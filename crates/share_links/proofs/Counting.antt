-- The uses of a link, call by call.
use Rattle.std.proofs.Common.{◌≡◌, ◌≢◌, ℕ, ◌+◌, ◌-◌, ◌<◌, List, [], ◌∷◌, ◌++◌, Bool, true, false, cond, Option, Some, None, refl, ap, sym, subst, ◌∙◌, arith, inl, inr}
use Rattle.std.specs.Prelude.{◌⊎◌, bytes_eq, not}
use Rattle.std.proofs.lemmas.Bool.{false≢true, ltb-true, lt-ltb, and_parts, cases_Bool, cond-true, cond-false}
use Rattle.std.proofs.lemmas.Slice.Eq.{bytes_eq-Decides}
use Rattle.id_table.specs.Maps.{Map}
use Rattle.share_links.specs.Links.{ChangedTo, HasLeft, IsRevoked, IsSpent, Spends, is_usable}
use Rattle.share_links.specs.Histories.{Call, Make, Spend, GiveBack, Revoke, Does, Leave, granted, granted_by, UsesAreCounted, RevokedIsFinal}
use Rattle.share_links.specs.declared.link.Link.{Link}

some_same : (a b : Link) → Some a ≡ Some b → a ≡ b
some_same a b e = cc

none_some : {A : Type 0} (o : Option Link) (b : Link) → o ≡ None → o ≡ Some b → A
none_some o b e f = let g : None ≡ Some b = sym e ∙ f in cc

-- what a call that names a link leaves under a link, by whether it is that one
module _ (other link : List ℕ) where
  abbrev Apart : Type 0
  Apart = (bytes_eq other link ≡ true) × (other ≡ link) ⊎ (bytes_eq other link ≡ false) × (link ≢ other)

  apart : Apart
  apart = by_test (cases_Bool (bytes_eq other link))
    where
      by_test : (bytes_eq other link ≡ true) ⊎ (bytes_eq other link ≡ false) → Apart
      by_test (inl e) = inl (e, (bytes_eq-Decides other link).0 e)
      by_test (inr e) = inr (e, λ s. false≢true (sym e ∙ (bytes_eq-Decides other link).1 (sym s)))

-- ---- uses are counted

abbrev Counted : ℕ → Option Link → Type 0
Counted n None = n ≡ 0
Counted n (Some it) = n + it.left ≡ it.uses

at_counted : (n : ℕ) (o : Option Link) (it : Link) → o ≡ Some it → Counted n o → n + it.left ≡ it.uses
at_counted n o it e c = subst (Counted n) e c

from_counted : (n : ℕ) (o : Option Link) (it : Link) → o ≡ Some it → n + it.left ≡ it.uses → Counted n o
from_counted n o it e c = subst (Counted n) (sym e) c

-- a change of one link
changed : (other link : List ℕ) (P : Link → Link → Type 0) (m n : Map Link) (before after : ℕ) → ChangedTo other P m n → Counted before (m link)
    → (bytes_eq other link ≡ false → after ≡ before) → ((old new : Link) → bytes_eq other link ≡ true → m link ≡ Some old → P old new → before + old.left ≡ old.uses → after + new.left ≡ new.uses) → Counted after (n link)
changed other link P m n before after c counted same step = by_key (apart other link)
  where
    by_key : Apart other link → Counted after (n link)
    by_key (inl k) =
        let old : m link ≡ Some c.0 = ap m (sym k.1) ∙ c.2 in
        from_counted after (n link) c.1 (ap n (sym k.1) ∙ c.4.0) (step c.0 c.1 k.0 old c.3 (at_counted before (m link) c.0 old counted))
    by_key (inr k) = subst (λ (x : ℕ). Counted x (n link)) (sym (same k.0)) (subst (Counted before) (sym (c.4.1 link k.1)) counted)

usable_some : (it : Link) → is_usable (Some it) ≡ true → 0 < it.left
usable_some it e = ltb-true 0 it.left (and_parts _ _ e).0

one : (calls : List Call) (call : Call) (old m : Map Link) (link : List ℕ) → Does call old m → Counted (granted link calls) (old link) → Counted (granted_by link call (granted link calls)) (m link)
one calls (Make other id control uses) old m link (made, is, absent, now) counted = by_key (apart other link)
  where
    by_key : Apart other link → Counted (granted link calls) (m link)
    by_key (inl k) =
        let zero : granted link calls ≡ 0 = subst (Counted (granted link calls)) (ap old (sym k.1) ∙ absent) counted in
        from_counted (granted link calls) (m link) made (ap m (sym k.1) ∙ now.0) (omega (arith, zero, is.2, is.3))
    by_key (inr k) = subst (Counted (granted link calls)) (sym (now.1 link k.1)) counted
one calls (Spend other true) old m link (usable, c) counted =
    changed other link (λ l. HasLeft l (l.left - 1)) old m (granted link calls) (cond (bytes_eq other link) (granted link calls + 1) (granted link calls)) c counted
    (λ e. cond-false _ _ _ e)
    (λ a b k at p e.
    let some = usable_some a (subst (λ (o : Option Link). is_usable o ≡ true) (ap old ((bytes_eq-Decides other link).0 k) ∙ at) usable) in
    let n = cond-true (bytes_eq other link) (granted link calls + 1) (granted link calls) k in
    omega (arith, e, some, n, p.left_is, p.uses))
one calls (Spend other false) old m link (un, same) counted = subst (Counted (granted link calls)) (sym (same link)) counted
one calls (GiveBack other) old m link (spent, c) counted =
    changed other link (λ l. HasLeft l (l.left + 1)) old m (granted link calls) (cond (bytes_eq other link) (granted link calls - 1) (granted link calls)) c counted
    (λ e. cond-false _ _ _ e)
    (λ a b k at p e.
    let same = some_same spent.0 a (sym spent.1 ∙ ap old ((bytes_eq-Decides other link).0 k) ∙ at) in
    let less : a.left < a.uses = subst (λ (l : Link). l.left < l.uses) same (ltb-true _ _ spent.2) in
    let n = cond-true (bytes_eq other link) (granted link calls - 1) (granted link calls) k in
    omega (arith, e, less, n, p.left_is, p.uses))
one calls (Revoke other true) old m link c counted = changed other link IsRevoked old m (granted link calls) (granted link calls) c counted (λ e. refl) (λ a b k at p e. omega (arith, e, p.left_is, p.uses))
one calls (Revoke other false) old m link (none, same) counted = subst (Counted (granted link calls)) (sym (same link)) counted

all : (calls : List Call) (m : Map Link) (link : List ℕ) → Leave calls m → Counted (granted link calls) (m link)
all [] m link left = subst (Counted 0) (sym (left link)) refl
all (call ∷ before) m link (old, left, does) = one before call old m link does (all before old link left)

pub counted_uses : UsesAreCounted
counted_uses calls m link it left at = at_counted (granted link calls) (m link) it at (all calls m link left)

-- ---- revoked is final

abbrev Revoked : Option Link → Type 0
Revoked None = ⊥
Revoked (Some it) = it.revoked ≡ true

not_usable : (it : Link) → it.revoked ≡ true → is_usable (Some it) ≡ true → ⊥
not_usable it r e = false≢true (sym (ap not r) ∙ (and_parts _ _ e).1)

-- a change of a link that keeps what is revoked
kept : (other link : List ℕ) (P : Link → Link → Type 0) (m n : Map Link) → ChangedTo other P m n → ((a b : Link) → P a b → a.revoked ≡ true → b.revoked ≡ true) → Revoked (m link) → Revoked (n link)
kept other link P m n c keeps revoked = by_key (apart other link)
  where
    by_key : Apart other link → Revoked (n link)
    by_key (inl k) = subst Revoked (sym (ap n (sym k.1) ∙ c.4.0)) (keeps c.0 c.1 c.3 (subst Revoked (ap m (sym k.1) ∙ c.2) revoked))
    by_key (inr k) = subst Revoked (sym (c.4.1 link k.1)) revoked

stays : (call : Call) (old m : Map Link) (link : List ℕ) → Does call old m → Revoked (old link) → Revoked (m link)
stays (Make other id control uses) old m link (made, is, absent, now) revoked = by_key (apart other link)
  where
    by_key : Apart other link → Revoked (m link)
    by_key (inl k) = absurd (subst Revoked (ap old (sym k.1) ∙ absent) revoked)
    by_key (inr k) = subst Revoked (sym (now.1 link k.1)) revoked
stays (Spend other true) old m link (usable, c) revoked = kept other link (λ l. HasLeft l (l.left - 1)) old m c (λ a b p r. p.revoked ∙ r) revoked
stays (Spend other false) old m link (un, same) revoked = subst Revoked (sym (same link)) revoked
stays (GiveBack other) old m link (spent, c) revoked = kept other link (λ l. HasLeft l (l.left + 1)) old m c (λ a b p r. p.revoked ∙ r) revoked
stays (Revoke other true) old m link c revoked = kept other link IsRevoked old m c (λ a b p r. p.revoked) revoked
stays (Revoke other false) old m link (none, same) revoked = subst Revoked (sym (same link)) revoked

after_all : (later before : List Call) (m : Map Link) (link : List ℕ) → Leave (later ++ Revoke link true ∷ before) m → Revoked (m link)
after_all [] before m link (old, left, c) = subst Revoked (sym c.4.0) c.3.revoked
after_all (call ∷ later) before m link (old, left, does) = stays call old m link does (after_all later before old link left)

-- a link that is revoked isn't spent
other_spent : (other link : List ℕ) (given : Bool) (old m : Map Link) → Spends other given old m → Revoked (old link) → given ≡ true → other ≢ link
other_spent other link false old m s revoked e = cc
other_spent other link true old m (usable, c) revoked e =
    λ same. not_usable c.0 (subst Revoked (ap old (sym same) ∙ c.2) revoked) (subst (λ (o : Option Link). is_usable o ≡ true) c.2 usable)

pub final : RevokedIsFinal
final [] before m link left = tt
final (Make other id control uses ∷ later) before m link (old, left, does) = final later before old link left
final (Spend other given ∷ later) before m link (old, left, does) = (other_spent other link given old m does (after_all later before old link left), final later before old link left)
final (GiveBack other ∷ later) before m link (old, left, does) = final later before old link left
final (Revoke other there ∷ later) before m link (old, left, does) = final later before old link left

-- ---- a use that was taken can be given back

pub spent_after : (id : List ℕ) (m n : Map Link) → is_usable (m id) ≡ true → ChangedTo id (λ old. HasLeft old (old.left - 1)) m n → IsSpent id n
spent_after id m n usable c =
    let some = usable_some c.0 (subst (λ (o : Option Link). is_usable o ≡ true) c.2 usable) in
    let within = c.0.within in
    let less : c.1.left < c.1.uses = omega (arith, some, within, c.3.left_is, c.3.uses) in
    (c.1, c.4.0, lt-ltb _ _ less)
