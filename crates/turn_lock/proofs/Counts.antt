-- A look at the number of entries keeps the rule.
use Rattle.std.proofs.Common.{◌≡◌, ℕ, true, List, Option, Some, slice_index, length, refl, ap, sym, ◌∙◌, arith}
use mathlib.Core.Option.{none}
use lib.Seq.{set-get_or}
use Rattle.atomic_table.specs.Table.{step, keeps, Allows}
use Rattle.turn_lock.specs.Rule.{Knows, Apart, Ruled, is_out}
use Rattle.turn_lock.specs.Steps.{Seated, counted}
use Rattle.turn_lock.specs.Views.{knowing}
use Rattle.turn_lock.specs.declared.view.View.{View}
use Rattle.turn_lock.proofs.Elements.{later_length}
use Rattle.turn_lock.proofs.Keeping.{apart_flip}
use Rattle.turn_lock.proofs.Pairs.{each_set, two_set, found_set}

module _ {X E : Type 0} (stands : X → List E → Type 0) (mark : E → Option ℕ) where
  pub counts : (slots id : ℕ) (me : Seated X E) → Allows (Ruled stands mark) slots id me 0 (λ n. n) (counted (step slots 0 0 0 none) me)
  counts slots id me s r homes at word =
      let v = me.0 in
      let n : ℕ = slice_index s.words 0 in
      let is : n ≡ length r.history = ap (λ ws. slice_index ws 0) r.words in
      let k = r.each id v at in
      let seen = later_length v.seen r.history k.seen in
      let known = k.known in
      let w = knowing n v in (
        w,
        keeps,
        tt,
        record {
          history = r.history;
          next = r.next;
          serving = r.serving;
          value = r.value;
          given = r.given;
          words = set-get_or s.words 0 0 ∙ r.words;
          slots = r.slots;
          order = r.order;
          bounded = r.bounded;
          each = each_set (Knows mark r.history r.next r.serving (is_out r.value) r.given) s.views id w
              record {
                seen = k.seen;
                met = k.met;
                known = omega arith;
                ticket = k.ticket;
                inside = k.inside;
                places = k.places;
                owns = k.owns;
                first = k.first;
                other = k.other;
              }
              (λ i u _ a. r.each i u a);
          apart = two_set Apart apart_flip s.views id w
              (λ i u other a. let z = r.apart id i v u (λ e. other (sym e)) at a in record {
                tickets = z.tickets;
                insides = z.insides;
                places = z.places;
                marks = z.marks;
                firsts = z.firsts;
              })
              r.apart;
          stood = r.stood;
          holder = λ e. found_set (λ (u : View E). u.inside ≡ true) s.views id v w at (λ f. f) (r.holder e);
          first = found_set (λ (u : View E). u.given ≡ Some r.given) s.views id v w at (λ f. f) r.first;
          no_zero = r.no_zero;
          marked = r.marked;
        },
        (refl, omega arith, omega arith),
      )
