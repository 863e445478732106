-- A raise keeps the rule.
use Rattle.std.proofs.Common.{◌≡◌, ◌≢◌, ⊎_elim, ℕ, ◌+◌, ◌%◌, ◌^◌, ◌<◌, Bool, true, List, [], ◌∷◌, Option, Some, None, slice_set, slice_index, length, refl, ap, sym, ◌∙◌, subst, arith}
use Rattle.std.specs.Prelude.{Contains}
use mathlib.Core.Option.{none}
use Rattle.atomic_table.specs.Table.{step, keeps, Allows}
use Rattle.turn_lock.specs.Rule.{Knows, Apart, Ruled, is_out}
use Rattle.turn_lock.specs.Steps.{Seated, raised}
use Rattle.turn_lock.specs.Views.{gained, MayAdd}
use Rattle.turn_lock.specs.declared.view.View.{View}
use Rattle.turn_lock.proofs.Elements.{later_cons, later_length, contains_head, contains_tail, contains_cases}
use Rattle.turn_lock.proofs.Keeping.{apart_flip}
use Rattle.turn_lock.proofs.Pairs.{each_set, two_set, found_set}

-- the mark of a pass, where it isn't 0, was given
mark_given : (all : List ℕ) (given : Option (List ℕ)) (mark : Option ℕ) (m : ℕ) → ((ms : List ℕ) → given ≡ Some ms → (mark ≡ Some 0) × (ms ≡ all)) → (given ≡ None → (m : ℕ) → mark ≡ Some m → Contains all m) → mark ≡ Some m → m ≢ 0
    → Contains all m
mark_given all None mark m first other is not_zero = other refl m is
mark_given all (Some ms) mark m first other is not_zero = let zero_ = (first ms refl).0 in absurd (not_zero (cc))

module _ {X E : Type 0} (stands : X → List E → Type 0) (mark : E → Option ℕ) where
  -- what another pass knows, where an entry is added that hasn't its mark
  entry_added : (h : List E) (e : E) (next serving : ℕ) (out : Bool) (given : List ℕ) (u : View E) → ¬ (u.inside ≡ true) → ((m : ℕ) → u.mark ≡ Some m → ¬ (mark e ≡ Some m)) → Knows mark h next serving out given u
      → Knows mark (e ∷ h) next serving out given u
  entry_added h e next serving out given u outside foreign k = record {
    seen = later_cons e u.seen h k.seen;
    met = k.met;
    known = let l = k.known in omega arith;
    ticket = k.ticket;
    inside = λ a. absurd (outside a);
    places = k.places;
    owns = λ m p f a b c. ⊎_elim (λ t. absurd (foreign m a (ap mark t.1 ∙ c))) (λ t. k.owns m p f a t c) b;
    first = k.first;
    other = k.other;
  }

  pub raises : ((x : X) (h : List E) → stands x h → length h < 2 ^ 62) → (adds : E → Type 0) (slots id : ℕ) (x : X) (e : E) (me : Seated X E) → me.0.inside ≡ true → adds e → MayAdd mark me.0 e → stands x (e ∷ me.0.seen)
      → Allows (Ruled stands mark) slots id me 0 (λ n. (n + 1) % 2 ^ 64) (raised adds mark (step slots 0 1 0 none) me)
  raises few adds slots id x e me in_it meets may right s r homes at word =
      let v = me.0 in
      let n : ℕ = slice_index s.words 0 in
      let counted : n ≡ length r.history = ap (λ ws. slice_index ws 0) r.words in
      let k = r.each id v at in
      let has = k.inside in_it in
      let same : length v.seen ≡ length r.history = ap length has.1 in
      let room = few x (e ∷ v.seen) right in
      let w = gained e v in
      -- the entry's mark is none, or that of the pass
      let own : (m : ℕ) → mark e ≡ Some m → v.mark ≡ Some m = λ m c. ⊎_elim (λ none_. absurd (cc (none_, c))) (λ same_. sym same_ ∙ c) may in
      let longer : ℕ → List ℕ = λ z. z ∷ r.next ∷ r.serving ∷ [] in (
        w,
        keeps,
        tt,
        record {
          history = e ∷ r.history;
          next = r.next;
          serving = r.serving;
          value = r.value;
          given = r.given;
          words = ap (λ ws. slice_set ws 0 ((n + 1) % 2 ^ 64)) r.words ∙ ap longer (omega arith);
          slots = r.slots;
          order = r.order;
          bounded = r.bounded;
          each = each_set (Knows mark (e ∷ r.history) r.next r.serving (is_out r.value) r.given) s.views id w
              record {
                seen = ([], ap (λ (l : List E). e ∷ l) (sym has.1));
                met = later_cons e v.met v.seen k.met;
                known = let l = k.known in omega arith;
                ticket = k.ticket;
                inside = λ _. (has.0, ap (λ (l : List E). e ∷ l) has.1, has.2);
                places = record {
                  within = λ p c. ⊎_elim (λ t. omega arith) (λ t. let l = k.places.within p t in omega arith) (contains_cases (length v.seen) p v.mine c);
                  once = ((λ c. let l = k.places.within (length v.seen) c in absurd (omega arith)), k.places.once);
                };
                owns = λ m p f a b c. ⊎_elim (λ t. subst (Contains (length v.seen ∷ v.mine)) (same ∙ sym t.0) (contains_head (length v.seen) v.mine)) (λ t. contains_tail (length v.seen) p v.mine (k.owns m p f a t c)) b;
                first = k.first;
                other = k.other;
              }
              (λ i u other a. let z = r.apart id i v u (λ b. other (sym b)) at a in
              entry_added r.history e r.next r.serving (is_out r.value) r.given u (z.insides in_it) (λ m b c. z.marks m (own m c) b) (r.each i u a));
          apart = two_set Apart apart_flip s.views id w
              (λ i u other a. let z = r.apart id i v u (λ b. other (sym b)) at a in let y = r.each i u a in record {
                tickets = z.tickets;
                insides = z.insides;
                places = λ p c d. ⊎_elim (λ t. let l = y.places.within p d in let b = later_length u.seen r.history y.seen in absurd (omega arith)) (λ t. z.places p t d) (contains_cases (length v.seen) p v.mine c);
                marks = z.marks;
                firsts = z.firsts;
              })
              r.apart;
          stood = λ y b. absurd (cc (ap is_out b, has.2));
          holder = λ b. found_set (λ (u : View E). u.inside ≡ true) s.views id v w at (λ f. f) (r.holder b);
          first = found_set (λ (u : View E). u.given ≡ Some r.given) s.views id v w at (λ f. f) r.first;
          no_zero = r.no_zero;
          marked = λ p m f b c not_zero. ⊎_elim
              (λ t. mark_given r.given v.given v.mark m k.first k.other (own m (ap mark t.1 ∙ c)) not_zero)
              (λ t. r.marked p m f t c not_zero)
              b;
        },
        (e, meets, may, refl),
      )
