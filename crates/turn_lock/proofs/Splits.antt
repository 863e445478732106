-- A split keeps the rule.
use Rattle.std.proofs.Common.{◌≡◌, ◌≢◌, ◌⊎◌, inl, inr, ⊎_elim, ℕ, Bool, true, List, ◌∷◌, Option, Some, None, slice_set, refl, ap, sym, ◌∙◌, subst}
use Rattle.std.specs.Prelude.{Contains}
use Rattle.atomic_table.specs.Table.{Splits}
use Rattle.atomic_table.proofs.Lists.{set_again}
use Rattle.turn_lock.specs.Places.{IsAt}
use Rattle.turn_lock.specs.Rule.{Each, EachTwo, Found, Knows, Apart, Ruled, is_out}
use Rattle.turn_lock.specs.Views.{giving, part_of, MayGive, more_given}
use Rattle.turn_lock.specs.declared.view.View.{View}
use Rattle.turn_lock.proofs.Elements.{later_none, contains_none, contains_head, contains_tail, contains_cases}
use Rattle.turn_lock.proofs.Keeping.{apart_flip}
use Rattle.turn_lock.proofs.Pairs.{each_set, each_end, two_set, two_end, found_set, found_end, set_at}

module _ {X E : Type 0} (stands : X → List E → Type 0) (mark : E → Option ℕ) where
  -- what another pass than the first knows, where a mark is given
  mark_given : (h : List E) (next serving : ℕ) (out : Bool) (given : List ℕ) (m : ℕ) (u : View E) → ((ms : List ℕ) → ¬ (u.given ≡ Some ms)) → Knows mark h next serving out given u → Knows mark h next serving out (m ∷ given) u
  mark_given h next serving out given m u not_first k = record {
    seen = k.seen;
    met = k.met;
    known = k.known;
    ticket = k.ticket;
    inside = k.inside;
    places = k.places;
    owns = k.owns;
    first = λ ms e. absurd (not_first ms e);
    other = λ e n f. contains_tail m n given (k.other e n f);
  }

  -- what the new pass knows
  part_knows : (h : List E) (next serving : ℕ) (out : Bool) (given : List ℕ) (mine : Option ℕ) (v : View E) → Knows mark h next serving out given v → ((m p : ℕ) (e : E) → mine ≡ Some m → IsAt h p e → ¬ (mark e ≡ Some m)) → ((m : ℕ) → mine ≡ Some m → Contains given m)
      → Knows mark h next serving out given (part_of mine v)
  part_knows h next serving out given mine v k free there = record {
    seen = k.seen;
    met = later_none v.seen;
    known = k.known;
    ticket = λ t e. absurd (cc);
    inside = λ e. absurd (cc);
    places = record { within = λ p c. absurd (contains_none p c); once = tt };
    owns = λ m p e a b c. absurd (free m p e a b c);
    first = λ ms e. absurd (cc);
    other = λ _ m e. there m e;
  }

  -- a new pass is apart from any that hasn't its mark
  part_apart : (mine : Option ℕ) (v u : View E) → ((m : ℕ) → mine ≡ Some m → ¬ (u.mark ≡ Some m)) → Apart (part_of mine v) u
  part_apart mine v u differ = record {
    tickets = λ t e. absurd (cc);
    insides = λ e. absurd (cc);
    places = λ p c. absurd (contains_none p c);
    marks = differ;
    firsts = λ ms ns e. absurd (cc);
  }

  -- whether the pass is the first
  is_first : (o : Option (List ℕ)) → ((ms : List ℕ) × (o ≡ Some ms)) ⊎ (o ≡ None)
  is_first None = inr refl
  is_first (Some ms) = inl (ms, refl)

  -- a mark that was not given is no pass's
  no_mark : (h : List E) (next serving : ℕ) (out : Bool) (given : List ℕ) (m : ℕ) (u : View E) → Knows mark h next serving out given u → m ≢ 0 → ¬ (Contains given m) → ¬ (u.mark ≡ Some m)
  no_mark h next serving out given m u k not_zero fresh e =
      ⊎_elim (λ f. let z = (k.first f.0 f.1).0 in not_zero (cc)) (λ f. fresh (k.other f m e)) (is_first u.given)

  without_mark : (id : ℕ) (v : View E) → Splits (Ruled stands mark) id v v (part_of None v)
  without_mark id v s r at =
      let same : slice_set s.views id v ≡ s.views = set_again s.views id v at in record {
        history = r.history;
        next = r.next;
        serving = r.serving;
        value = r.value;
        given = r.given;
        words = r.words;
        slots = r.slots;
        order = r.order;
        bounded = r.bounded;
        each = each_end (Knows mark r.history r.next r.serving (is_out r.value) r.given) (slice_set s.views id v) (part_of None v)
            (part_knows r.history r.next r.serving (is_out r.value) r.given None v (r.each id v at) (λ m p e a. absurd (cc)) (λ m a. absurd (cc)))
            (subst (Each (Knows mark r.history r.next r.serving (is_out r.value) r.given)) (sym same) r.each);
        apart = two_end Apart apart_flip (slice_set s.views id v) (part_of None v) (λ i u a. part_apart None v u (λ m b. absurd (cc))) (subst (EachTwo Apart) (sym same) r.apart);
        stood = r.stood;
        holder = λ e. found_end (λ (u : View E). u.inside ≡ true) (slice_set s.views id v) (part_of None v) (subst (Found (λ (u : View E). u.inside ≡ true)) (sym same) (r.holder e));
        first = found_end (λ (u : View E). u.given ≡ Some r.given) (slice_set s.views id v) (part_of None v) (subst (Found (λ (u : View E). u.given ≡ Some r.given)) (sym same) r.first);
        no_zero = r.no_zero;
        marked = r.marked;
      }

  with_mark : (id m : ℕ) (v : View E) (ms : List ℕ) → v.given ≡ Some ms → m ≢ 0 → ¬ (Contains ms m) → Splits (Ruled stands mark) id v (giving (Some m) v) (part_of (Some m) v)
  with_mark id m v ms is_first not_zero new s r at =
      let k = r.each id v at in
      let all : ms ≡ r.given = (k.first ms is_first).1 in
      let fresh : ¬ (Contains r.given m) = λ c. new (subst (λ (l : List ℕ). Contains l m) (sym all) c) in
      let w = giving (Some m) v in
      let gave : w.given ≡ Some (m ∷ r.given) = ap (more_given m) is_first ∙ ap (λ (l : List ℕ). Some (m ∷ l)) all in
      let mine : Knows mark r.history r.next r.serving (is_out r.value) (m ∷ r.given) w = record {
        seen = k.seen;
        met = k.met;
        known = k.known;
        ticket = k.ticket;
        inside = k.inside;
        places = k.places;
        owns = k.owns;
        first = λ ns e. ((k.first ms is_first).0, cc (e, gave));
        other = λ e. absurd (cc (e, gave));
      } in
      let differs : (u : View E) → Knows mark r.history r.next r.serving (is_out r.value) r.given u → (n : ℕ) → Some m ≡ Some n → ¬ (u.mark ≡ Some n) = λ u y n e f. no_mark r.history r.next r.serving (is_out r.value) r.given m u y not_zero fresh (f ∙ sym e) in record {
        history = r.history;
        next = r.next;
        serving = r.serving;
        value = r.value;
        given = m ∷ r.given;
        words = r.words;
        slots = r.slots;
        order = r.order;
        bounded = r.bounded;
        each = each_end (Knows mark r.history r.next r.serving (is_out r.value) (m ∷ r.given)) (slice_set s.views id w) (part_of (Some m) v)
            (part_knows r.history r.next r.serving (is_out r.value) (m ∷ r.given) (Some m) w mine
            (λ n p e a b c. fresh (r.marked p m e b (c ∙ sym a) not_zero))
            (λ n a. subst (Contains (m ∷ r.given)) (cc) (contains_head m r.given)))
            (each_set (Knows mark r.history r.next r.serving (is_out r.value) (m ∷ r.given)) s.views id w mine
            (λ i u other a. mark_given r.history r.next r.serving (is_out r.value) r.given m u (λ ns e. (r.apart id i v u (λ f. other (sym f)) at a).firsts ms ns is_first e) (r.each i u a)));
        apart = two_end Apart apart_flip (slice_set s.views id w) (part_of (Some m) v)
            (each_set (Apart (part_of (Some m) v)) s.views id w (part_apart (Some m) v w (differs v k)) (λ i u other a. part_apart (Some m) v u (differs u (r.each i u a))))
            (two_set Apart apart_flip s.views id w
            (λ i u other a. let z = r.apart id i v u (λ f. other (sym f)) at a in record {
              tickets = z.tickets;
              insides = z.insides;
              places = z.places;
              marks = z.marks;
              firsts = λ _ ns _ f. z.firsts ms ns is_first f;
            })
            r.apart);
        stood = r.stood;
        holder = λ e. found_end (λ (u : View E). u.inside ≡ true) (slice_set s.views id w) (part_of (Some m) v) (found_set (λ (u : View E). u.inside ≡ true) s.views id v w at (λ f. f) (r.holder e));
        first = found_end (λ (u : View E). u.given ≡ Some (m ∷ r.given)) (slice_set s.views id w) (part_of (Some m) v) (id, w, set_at s.views id v w at, gave);
        no_zero = λ c. ⊎_elim not_zero r.no_zero (contains_cases m 0 r.given c);
        marked = λ p n e a b c. contains_tail m n r.given (r.marked p n e a b c);
      }

  pub splits : (id : ℕ) (v : View E) (m : Option ℕ) → MayGive m v → Splits (Ruled stands mark) id v (giving m v) (part_of m v)
  splits id v None may = without_mark id v
  splits id v (Some m) may = with_mark id m v may.0 may.1 may.2 may.3
