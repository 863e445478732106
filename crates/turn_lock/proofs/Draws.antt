-- A draw keeps the rule.
use Rattle.std.proofs.Common.{◌≡◌, ◌==◌, ℕ, ◌+◌, ◌-◌, ◌^◌, ◌<◌, ◌≤◌, Bool, true, false, List, [], ◌∷◌, Option, Some, slice_set, slice_index, length, refl, ap, sym, ◌∙◌, arith}
use mathlib.Core.Logic.{dite}
use mathlib.Core.Option.{none}
use native.Mathlib.Decide.{ℕ_discrete}
use prog.Atomic.{either}
use Rattle.atomic_table.specs.Table.{step, keeps, Allows}
use Rattle.atomic_table.proofs.Lists.{exchanged}
use Rattle.turn_lock.specs.Rule.{Knows, Apart, Ruled, is_out}
use Rattle.turn_lock.specs.Steps.{Seated, drawn}
use Rattle.turn_lock.specs.Views.{with_ticket}
use Rattle.turn_lock.specs.declared.view.View.{View}
use Rattle.turn_lock.proofs.Keeping.{apart_flip, unchanged}
use Rattle.turn_lock.proofs.Pairs.{each_set, two_set, found_set}

module _ {X E : Type 0} (stands : X → List E → Type 0) (mark : E → Option ℕ) where
  -- what another pass knows, where more tickets are drawn
  more_tickets : (h : List E) (next more serving : ℕ) (out : Bool) (given : List ℕ) (u : View E) → next ≤ more → Knows mark h next serving out given u → Knows mark h more serving out given u
  more_tickets h next more serving out given u le k = record {
    seen = k.seen;
    met = k.met;
    known = k.known;
    ticket = λ t e. let z = k.ticket t e in (z.0, (let y = z.1 in omega arith));
    inside = k.inside;
    places = k.places;
    owns = k.owns;
    first = k.first;
    other = k.other;
  }

  pub draws : (slots id t : ℕ) (me : Seated X E) → me.0.inside ≡ false → t < 2 ^ 64 - 1 → Allows (Ruled stands mark) slots id me 1 (λ n. either (n == t) (t + 1) n) (drawn (step slots 1 t (t + 1) none) me)
  draws slots id t me out small s r homes at word =
      let v = me.0 in
      let n : ℕ = slice_index s.words 1 in
      let is_next : n ≡ r.next = ap (λ ws. slice_index ws 1) r.words in
      let put : ℕ → List ℕ = λ k. length r.history ∷ k ∷ r.serving ∷ [] in
      let k = r.each id v at in
      let le = r.order in
      dite (ℕ_discrete n t)
      (λ hit. let w = with_ticket t v in (
        w,
        keeps,
        tt,
        record {
          history = r.history;
          next = t + 1;
          serving = r.serving;
          value = r.value;
          given = r.given;
          words = ap (λ ws. slice_set ws 1 (either (n == t) (t + 1) n)) r.words ∙ ap put (exchanged n t (t + 1) (λ k. k ≡ t + 1) (λ _. refl) (λ miss. absurd (miss hit)));
          slots = r.slots;
          order = omega arith;
          bounded = omega arith;
          each = each_set (Knows mark r.history (t + 1) r.serving (is_out r.value) r.given) s.views id w
              record {
                seen = k.seen;
                met = k.met;
                known = k.known;
                ticket = λ u e. let same : t ≡ u = cc in (omega arith, omega arith);
                inside = λ e. absurd (cc);
                places = k.places;
                owns = k.owns;
                first = k.first;
                other = k.other;
              }
              (λ i u _ a. more_tickets r.history r.next (t + 1) r.serving (is_out r.value) r.given u (omega arith) (r.each i u a));
          apart = two_set Apart apart_flip s.views id w
              (λ i u other a. let z = r.apart id i v u (λ e. other (sym e)) at a in record {
                tickets = λ c e f. let same : t ≡ c = cc in let y = ((r.each i u a).ticket c f).1 in absurd (omega arith);
                insides = z.insides;
                places = z.places;
                marks = z.marks;
                firsts = z.firsts;
              })
              r.apart;
          stood = r.stood;
          holder = λ e. found_set (λ (u : View E). u.inside ≡ true) s.views id v w at (λ f. f) (r.holder e);
          first = found_set (λ (u : View E). u.given ≡ Some r.given) s.views id v w at (λ f. f) r.first;
          no_zero = r.no_zero;
          marked = r.marked;
        },
        (refl, (λ _. refl), (λ miss. absurd (miss hit))),
      ))
      (λ miss. (
        v,
        keeps,
        tt,
        unchanged stands mark s r 1 (either (n == t) (t + 1) n) id v at (exchanged n t (t + 1) (λ k. k ≡ n) (λ hit. absurd (miss hit)) (λ _. refl)),
        (refl, (λ hit. absurd (miss hit)), (λ _. refl)),
      ))
