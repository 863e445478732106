-- Passing on keeps the rule.
use Rattle.std.proofs.Common.{◌≡◌, ◌≢◌, ℕ, ◌+◌, ◌%◌, ◌^◌, Bool, true, false, List, [], ◌∷◌, Option, Some, slice_set, slice_index, length, ap, sym, ◌∙◌, subst, arith}
use mathlib.Core.Option.{none, some, some-injective}
use Rattle.atomic_table.specs.Table.{step, gives, Allows, put_back, rest}
use Rattle.turn_lock.specs.Rule.{Knows, Apart, Ruled, is_out}
use Rattle.turn_lock.specs.Steps.{Seated, passed_on}
use Rattle.turn_lock.specs.Views.{passed}
use Rattle.turn_lock.specs.declared.view.View.{View}
use Rattle.turn_lock.proofs.Keeping.{apart_flip, seen_places}
use Rattle.turn_lock.proofs.Pairs.{each_set, two_set, found_set}

module _ {X E : Type 0} (stands : X → List E → Type 0) (mark : E → Option ℕ) where
  -- what another pass knows, where the next ticket is served: it isn't inside, and its ticket isn't the one that was served
  next_served : (h : List E) (next serving : ℕ) (out : Bool) (given : List ℕ) (u : View E) → ¬ (u.inside ≡ true) → ¬ (u.ticket ≡ Some serving) → Knows mark h next serving out given u → Knows mark h next (serving + 1) false given u
  next_served h next serving out given u outside later k = record {
    seen = k.seen;
    met = k.met;
    known = k.known;
    ticket = λ t e. let z = k.ticket t e in let low = z.0 in let not : t ≢ serving = λ f. later (e ∙ ap Some f) in (omega arith, z.1);
    inside = λ e. absurd (outside e);
    places = k.places;
    owns = k.owns;
    first = k.first;
    other = k.other;
  }

  -- the value is back in the slot, and stands for all that was seen
  pub is_back : (value : X) (v : View E) (n : Seated X E) → n ≡ (v, (0, Some value) ∷ []) → stands value v.seen → (x : X) × (n.1 ≡ (0, Some x) ∷ []) × stands x (n.0).seen
  is_back value v n is right = (value, ap {A = Seated X E} (λ m. m.1) is, subst {A = Seated X E} (λ m. stands value (m.0).seen) (sym is) right)

  pub passes_on : (slots id : ℕ) (x : X) (me : Seated X E) → me.0.inside ≡ true → me.1 ≡ (0, Some x) ∷ [] → stands x me.0.seen → Allows (Ruled stands mark) slots id me 2 (λ n. (n + 1) % 2 ^ 64) (passed_on mark (step slots 2 1 0 none) me)
  passes_on slots id x me in_it slot right s r homes at word =
      let v = me.0 in
      let n : ℕ = slice_index s.words 2 in
      let served : n ≡ r.serving = ap (λ ws. slice_index ws 2) r.words in
      let k = r.each id v at in
      let has = k.inside in_it in
      let below = (k.ticket r.serving has.0).1 in
      let bound = r.bounded in
      let w = passed v in (
        w,
        gives,
        tt,
        record {
          history = r.history;
          next = r.next;
          serving = r.serving + 1;
          value = some x;
          given = r.given;
          words = ap (λ ws. slice_set ws 2 ((n + 1) % 2 ^ 64)) r.words ∙ ap (λ (z : ℕ). length r.history ∷ r.next ∷ z ∷ []) (omega arith);
          slots = ap (put_back s.homes) slot ∙ ap (λ hs. slice_set hs 0 (some (Some x))) r.slots;
          order = omega arith;
          bounded = bound;
          each = each_set (Knows mark r.history r.next (r.serving + 1) false r.given) s.views id w
              record {
                seen = k.seen;
                met = k.met;
                known = k.known;
                ticket = λ t e. absurd (cc);
                inside = λ e. absurd (cc);
                places = k.places;
                owns = k.owns;
                first = k.first;
                other = k.other;
              }
              (λ i u other a. let z = r.apart id i v u (λ e. other (sym e)) at a in
              next_served r.history r.next r.serving (is_out r.value) r.given u (z.insides in_it) (z.tickets r.serving has.0) (r.each i u a));
          apart = two_set Apart apart_flip s.views id w
              (λ i u other a. let z = r.apart id i v u (λ e. other (sym e)) at a in record {
                tickets = λ t e. absurd (cc);
                insides = λ e. absurd (cc);
                places = z.places;
                marks = z.marks;
                firsts = z.firsts;
              })
              r.apart;
          stood = λ y e. subst (stands y) has.1 (subst (λ (z : X). stands z v.seen) (some-injective x y e) right);
          holder = λ e. absurd (cc);
          first = found_set (λ (u : View E). u.given ≡ Some r.given) s.views id v w at (λ f. f) r.first;
          no_zero = r.no_zero;
          marked = r.marked;
        },
        (ap (λ l. (w, rest l)) slot, (let z = seen_places mark r.history r.next r.serving (is_out r.value) r.given v k in record { places = z.places; owns = z.owns })),
      )
