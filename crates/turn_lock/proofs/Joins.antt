-- A join keeps the rule.
use Rattle.std.proofs.Common.{◌≡◌, ◌≢◌, ⊎_elim, ℕ, zero, suc, ◌≤◌, Bool, true, false, List, [], ◌∷◌, Option, Some, None, length, slice_set, slice_index, refl, ap, sym, ◌∙◌, subst, arith}
use Rattle.std.specs.Prelude.{Contains, nat_lt, if◌then◌else◌}
use Rattle.std.proofs.lemmas.List.Elements.{Contains-append_left, Contains-append_cases}
use borrow.Author.Tests.{ltb-true, ltb-false}
use mathlib.Core.Option.{some, none}
use lib.ListN.{get_elem?}
use Rattle.atomic_table.specs.Table.{Joins, Allows, step, keeps}
use Rattle.atomic_table.proofs.Lists.{set_else, at_set}
use Rattle.gate_model.specs.Sequences.{IsLater}
use Rattle.turn_lock.specs.Places.{NoneTwice}
use Rattle.turn_lock.specs.Rule.{Each, EachTwo, Knows, Apart, Ruled, is_out}
use Rattle.turn_lock.specs.Steps.{Seated, told}
use Rattle.turn_lock.specs.Views.{joined, meeting, spent, longer, shorter, HasPlaces}
use Rattle.turn_lock.specs.declared.view.View.{View}
use Rattle.turn_lock.proofs.Elements.{later_none, later_refl, later_both, contains_none, none_twice_both, none_twice_apart}
use Rattle.turn_lock.proofs.Keeping.{apart_flip, unchanged}
use Rattle.turn_lock.proofs.Pairs.{each_set, two_set, found_set}

module _ {A : Type 0} where
  -- writes at two places come in any order
  set_swap : (xs : List A) (i j : ℕ) (a b : A) → i ≢ j → slice_set (slice_set xs i a) j b ≡ slice_set (slice_set xs j b) i a
  set_swap [] i j a b ne = refl
  set_swap (x ∷ xs) zero zero a b ne = absurd (ne refl)
  set_swap (x ∷ xs) zero (suc j) a b ne = refl
  set_swap (x ∷ xs) (suc i) zero a b ne = refl
  set_swap (x ∷ xs) (suc i) (suc j) a b ne = ap (λ (l : List A). x ∷ l) (set_swap xs i j a b (λ e. ne (ap suc e)))

  one_of : (P : List A → Type 0) (b : Bool) (xs ys : List A) → P xs → P ys → P (if b then ys else xs)
  one_of P true xs ys p q = q
  one_of P false xs ys p q = p

  -- the longer of two lists is one of them
  longer_is : (P : List A → Type 0) (xs ys : List A) → P xs → P ys → P (longer xs ys)
  longer_is P xs ys p q = one_of P (nat_lt (length xs) (length ys)) xs ys p q

  longer_by : (b : Bool) (xs ys : List A) → nat_lt (length xs) (length ys) ≡ b → (length xs ≤ length (if b then ys else xs)) × (length ys ≤ length (if b then ys else xs))
  longer_by true xs ys e = let lt = ltb-true (length xs) (length ys) e in (omega arith, omega arith)
  longer_by false xs ys e = let ge = ltb-false (length xs) (length ys) e in (omega arith, omega arith)

  -- and no shorter than either
  longer_length : (xs ys : List A) → (length xs ≤ length (longer xs ys)) × (length ys ≤ length (longer xs ys))
  longer_length xs ys = longer_by (nat_lt (length xs) (length ys)) xs ys refl

  met_when : (b : Bool) (xs ys all : List A) → nat_lt (length xs) (length ys) ≡ b → IsLater xs all → IsLater ys all → IsLater (if b then xs else ys) (if b then ys else xs)
  met_when true xs ys all e a c = let lt = ltb-true (length xs) (length ys) e in later_both xs ys all a c (omega arith)
  met_when false xs ys all e a c = let ge = ltb-false (length xs) (length ys) e in later_both ys xs all c a (omega arith)

  -- of two lists that begin the same list, the shorter begins the longer
  met_by : (xs ys all : List A) → IsLater xs all → IsLater ys all → IsLater (shorter xs ys) (longer xs ys)
  met_by xs ys all a c = met_when (nat_lt (length xs) (length ys)) xs ys all refl a c

  begin_when : (b : Bool) (xs ys : List A) → IsLater (if b then xs else ys) (if b then ys else xs) → IsLater xs (if b then ys else xs) × IsLater ys (if b then ys else xs)
  begin_when true xs ys m = (m, later_refl ys)
  begin_when false xs ys m = (later_refl xs, m)

  -- then both begin the longer
  both_begin : (xs ys : List A) → IsLater (shorter xs ys) (longer xs ys) → IsLater xs (longer xs ys) × IsLater ys (longer xs ys)
  both_begin xs ys m = begin_when (nat_lt (length xs) (length ys)) xs ys m

module _ {E : Type 0} where
  spent_apart : (u : View E) → Apart spent u
  spent_apart u = record {
    tickets = λ t e. absurd (cc);
    insides = λ e. absurd (cc);
    places = λ p c. absurd (contains_none p c);
    marks = λ m e. absurd (cc);
    firsts = λ ms ns e. absurd (cc);
  }

  both_apart : (v w u : View E) → Apart v u → Apart w u → Apart (joined v w) u
  both_apart v w u a b = record {
    tickets = a.tickets;
    insides = a.insides;
    places = λ p c. ⊎_elim (a.places p) (b.places p) (Contains-append_cases v.mine w.mine p c);
    marks = a.marks;
    firsts = a.firsts;
  }

  meets_apart : (v w u : View E) → Apart v u → Apart w u → Apart (meeting w v) u
  meets_apart v w u a b = record { tickets = a.tickets; insides = a.insides; places = a.places; marks = a.marks; firsts = a.firsts }

  -- a look at the joined pass changes nothing
  same_view : {X : Type 0} (v w : View E) (held : List (ℕ × Option X)) (r : ℕ) (j n : Seated X E) → v.ticket ≡ None → j ≡ (joined v w, held) → (¬ ((j.0).ticket ≡ Some r) → n ≡ j) → n ≡ (joined v w, held)
  same_view {X} v w held r j n free is stayed =
      let none_ : (j.0).ticket ≡ None = ap {A = Seated X E} (λ m. (m.0).ticket) is ∙ free in
      stayed (λ e. absurd (cc (none_, e))) ∙ is

  -- it tells that what either had seen begins what the joined pass has
  pub did_begin : {X : Type 0} (v w : View E) (held : List (ℕ × Option X)) (r : ℕ) (j n : Seated X E) → v.ticket ≡ None → j ≡ (joined v w, held) → (¬ ((j.0).ticket ≡ Some r) → n ≡ j) → IsLater (n.0).met (n.0).seen
      → IsLater v.seen (n.0).seen × IsLater w.seen (n.0).seen
  did_begin {X} v w held r j n free is stayed met =
      let same = same_view v w held r j n free is stayed in
      let told = both_begin v.seen w.seen (subst {A = Seated X E} (λ m. IsLater (m.0).met (m.0).seen) same met) in
      subst {A = Seated X E} (λ m. IsLater v.seen (m.0).seen × IsLater w.seen (m.0).seen) (sym same) told

  -- and that the places of the two were apart
  pub were_apart : {X : Type 0} (mark : E → Option ℕ) (v w : View E) (held : List (ℕ × Option X)) (r : ℕ) (j n : Seated X E) → v.ticket ≡ None → j ≡ (joined v w, held) → (¬ ((j.0).ticket ≡ Some r) → n ≡ j) → HasPlaces mark n.0
      → (p : ℕ) → Contains v.mine p → ¬ (Contains w.mine p)
  were_apart {X} mark v w held r j n free is stayed has =
      let same = same_view v w held r j n free is stayed in
      none_twice_apart v.mine w.mine (subst {A = Seated X E} (λ m. NoneTwice (m.0).mine) same has.places.once)

  module _ (mark : E → Option ℕ) (h : List E) (next serving : ℕ) (out : Bool) (given : List ℕ) where
    spent_knows : Knows mark h next serving out given spent
    spent_knows = record {
      seen = later_none h;
      met = later_none [];
      known = omega arith;
      ticket = λ t e. absurd (cc);
      inside = λ e. absurd (cc);
      places = record { within = λ p c. absurd (contains_none p c); once = tt };
      owns = λ m p e a. absurd (cc);
      first = λ ms e. absurd (cc);
      other = λ _ m e. absurd (cc);
    }

    both_know : (v w : View E) → v.inside ≡ false → Apart v w → Knows mark h next serving out given v → Knows mark h next serving out given w → Knows mark h next serving out given (joined v w)
    both_know v w outside a k l = let long = longer_length v.seen w.seen in let low = long.0 in let high = long.1 in record {
      seen = longer_is (λ (x : List E). IsLater x h) v.seen w.seen k.seen l.seen;
      met = met_by v.seen w.seen h k.seen l.seen;
      known = let one = k.known in let two = l.known in omega arith;
      ticket = k.ticket;
      inside = λ e. absurd (cc);
      places = record {
        within = λ p c. ⊎_elim (λ t. let z = k.places.within p t in omega arith) (λ t. let z = l.places.within p t in omega arith) (Contains-append_cases v.mine w.mine p c);
        once = none_twice_both v.mine w.mine k.places.once l.places.once a.places;
      };
      owns = λ m p e x y z. Contains-append_left v.mine w.mine p (k.owns m p e x y z);
      first = k.first;
      other = k.other;
    }

    -- a pass inside has seen all that the other has
    meets_know : (v w : View E) → v.inside ≡ true → Knows mark h next serving out given v → Knows mark h next serving out given w → Knows mark h next serving out given (meeting w v)
    meets_know v w in_it k l = record {
      seen = k.seen;
      met = subst (IsLater w.seen) (sym (k.inside in_it).1) l.seen;
      known = let one = k.known in let two = l.known in omega arith;
      ticket = k.ticket;
      inside = k.inside;
      places = k.places;
      owns = k.owns;
      first = k.first;
      other = k.other;
    }

module _ {X E : Type 0} (stands : X → List E → Type 0) (mark : E → Option ℕ) where
  -- whatever the joined view is, if it knows no more than the rule allows, is apart from all that the two were apart from, and is inside or the first as the one was
  joins_as : (id other : ℕ) (v w b : View E) → (b.inside ≡ v.inside) → (b.given ≡ v.given) → w.inside ≡ false → w.given ≡ None
      → ((h : List E) (next serving : ℕ) (out : Bool) (given : List ℕ) → Apart v w → Knows mark h next serving out given v → Knows mark h next serving out given w → Knows mark h next serving out given b)
      → ((u : View E) → Apart v u → Apart w u → Apart b u)
      → Joins (Ruled stands mark) id v other w b spent
  joins_as id other v w b as_inside as_given out not_first knows parts s r at ne at_both =
      let there : get_elem? s.views other ≡ some w = sym (set_else s.views id other b ne) ∙ at_both in
      let rest = slice_set s.views other spent in
      let back : id ≢ other = λ e. ne (sym e) in
      let here : get_elem? rest id ≡ some v = set_else s.views other id spent back ∙ at in
      let K = Knows mark r.history r.next r.serving (is_out r.value) r.given in
      let each : Each K rest = each_set K s.views other spent (spent_knows mark r.history r.next r.serving (is_out r.value) r.given) (λ i u _ a. r.each i u a) in
      let apart : EachTwo Apart rest = two_set Apart apart_flip s.views other spent (λ i u _ _. spent_apart u) r.apart in
      let known = knows r.history r.next r.serving (is_out r.value) r.given (r.apart id other v w back at there) (r.each id v at) (r.each other w there) in
      subst (λ vs. Ruled stands mark record { words = s.words; homes = s.homes; views = vs }) (sym (set_swap s.views id other b spent back)) record {
        history = r.history;
        next = r.next;
        serving = r.serving;
        value = r.value;
        given = r.given;
        words = r.words;
        slots = r.slots;
        order = r.order;
        bounded = r.bounded;
        each = each_set K rest id b known (λ i u _ a. each i u a);
        apart = two_set Apart apart_flip rest id b
            (λ i u not a. ⊎_elim
            (λ h. subst (Apart b) h.1 (apart_flip spent b (spent_apart b)))
            (λ h. parts u (r.apart id i v u (λ e. not (sym e)) at h.1) (r.apart other i w u (λ e. h.0 (sym e)) there h.1))
            (at_set s.views other i spent u a))
            apart;
        stood = r.stood;
        holder = λ e. found_set (λ (u : View E). u.inside ≡ true) rest id v b here (λ f. as_inside ∙ f)
            (found_set (λ (u : View E). u.inside ≡ true) s.views other w spent there (λ f. absurd (cc)) (r.holder e));
        first = found_set (λ (u : View E). u.given ≡ Some r.given) rest id v b here (λ f. as_given ∙ f)
            (found_set (λ (u : View E). u.given ≡ Some r.given) s.views other w spent there (λ f. absurd (cc)) r.first);
        no_zero = r.no_zero;
        marked = r.marked;
      }

  pub joins : (id other : ℕ) (v w : View E) → v.inside ≡ false → w.inside ≡ false → w.given ≡ None → Joins (Ruled stands mark) id v other w (joined v w) spent
  joins id other v w outside out not_first =
      joins_as id other v w (joined v w) refl refl out not_first (λ h next serving is given a k l. both_know mark h next serving is given v w outside a k l) (both_apart v w)

  pub meets : (id other : ℕ) (v w : View E) → v.inside ≡ true → w.inside ≡ false → w.given ≡ None → Joins (Ruled stands mark) id v other w (meeting w v) spent
  meets id other v w in_it out not_first =
      joins_as id other v w (meeting w v) refl refl out not_first (λ h next serving is given a k l. meets_know mark h next serving is given v w in_it k l) (meets_apart v w)

  -- a look inside tells that all entries that are counted were seen
  pub tells : (slots id : ℕ) (me : Seated X E) → Allows (Ruled stands mark) slots id me 0 (λ n. n) (told (step slots 0 0 0 none) me)
  tells slots id me s r homes at word =
      let v = me.0 in
      let n : ℕ = slice_index s.words 0 in
      let is : n ≡ length r.history = ap (λ ws. slice_index ws 0) r.words in
      let k = r.each id v at in
      let low = k.known in (
        v,
        keeps,
        tt,
        unchanged stands mark s r 0 n id v at refl,
        (refl, (λ in_it. is ∙ sym (ap length (k.inside in_it).1)), k.met, omega arith),
      )
