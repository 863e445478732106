-- A look keeps the rule.
use Rattle.std.proofs.Common.{◌≡◌, ◌⊎◌, inl, inr, ⊎_elim, ℕ, Bool, true, false, List, [], ◌∷◌, Option, Some, None, slice_set, slice_index, length, refl, ap, sym, ◌∙◌, arith}
use mathlib.Core.Logic.{dite}
use mathlib.Core.Option as maybe
use mathlib.Core.Option.{none, some}
use native.Mathlib.Decide.{ℕ_discrete}
use lib.ListN.{get_elem?}
use lib.Seq.{set-get_or}
use Rattle.atomic_table.specs.Table.{step, keeps, takes, Allows}
use Rattle.turn_lock.specs.Places.{ArePlaces}
use Rattle.turn_lock.specs.Rule.{Knows, Apart, Ruled, is_out, slot_of}
use Rattle.turn_lock.specs.Steps.{Seated, looked}
use Rattle.turn_lock.specs.Views.{entered}
use Rattle.turn_lock.specs.declared.view.View.{View}
use Rattle.turn_lock.proofs.Elements.{later_refl, later_trans, later_length}
use Rattle.turn_lock.proofs.Keeping.{apart_flip, unchanged, seen_places}
use Rattle.turn_lock.proofs.Pairs.{each_set, two_set, found_set, set_at}

-- whether the ticket is n
is_ticket : (o : Option ℕ) (n : ℕ) → (o ≡ Some n) ⊎ ¬ (o ≡ Some n)
is_ticket None n = inr (λ e. absurd (cc))
is_ticket (Some m) n = dite (ℕ_discrete m n) (λ e. inl (ap Some e)) (λ ne. inr (λ e. ne (cc)))

-- whether there is a value
is_there : {X : Type 0} (o : maybe.Option X) → ((x : X) × (o ≡ some x)) ⊎ (o ≡ none)
is_there none = inr refl
is_there (some x) = inl (x, refl)

module _ {X E : Type 0} (stands : X → List E → Type 0) (mark : E → Option ℕ) where
  -- what another pass knows, where the slot is taken
  slot_taken : (h : List E) (next serving : ℕ) (out : Bool) (given : List ℕ) (u : View E) → Knows mark h next serving out given u → Knows mark h next serving true given u
  slot_taken h next serving out given u k = record {
    seen = k.seen;
    met = k.met;
    known = k.known;
    ticket = k.ticket;
    inside = λ e. let z = k.inside e in (z.0, z.1, refl);
    places = k.places;
    owns = k.owns;
    first = k.first;
    other = k.other;
  }

  pub looks : (slots id : ℕ) (me : Seated X E) → me.0.inside ≡ false → me.1 ≡ [] → Allows (Ruled stands mark) slots id me 2 (λ n. n) (looked stands mark (step slots 2 0 0 none) me)
  looks slots id me out empty s r homes at word =
      let v = me.0 in
      let n : ℕ = slice_index s.words 2 in
      let served : n ≡ r.serving = ap (λ ws. slice_index ws 2) r.words in
      let k = r.each id v at in
      let wide = later_length v.seen r.history k.seen in
      ⊎_elim
      (λ (hit : v.ticket ≡ Some n). ⊎_elim
      (λ (there : (x : X) × (r.value ≡ some x)).
      let w = entered r.history v in
      let x = there.0 in
      let met = later_trans v.met v.seen r.history k.met k.seen in
      let own : v.ticket ≡ Some r.serving = hit ∙ ap Some served in
      let places : ArePlaces (length r.history) v.mine = record { within = λ p c. let y = k.places.within p c in omega arith; once = k.places.once } in (
        w,
        takes 0 (Some x),
        ap (λ hs. get_elem? hs 0) r.slots ∙ ap (λ (o : maybe.Option X). some (slot_of o)) there.1,
        record {
          history = r.history;
          next = r.next;
          serving = r.serving;
          value = none;
          given = r.given;
          words = set-get_or s.words 2 0 ∙ r.words;
          slots = ap (λ hs. slice_set hs 0 none) r.slots;
          order = r.order;
          bounded = r.bounded;
          each = each_set (Knows mark r.history r.next r.serving true r.given) s.views id w
              record {
                seen = later_refl r.history;
                met = met;
                known = k.known;
                ticket = k.ticket;
                inside = λ _. (own, refl, refl);
                places = places;
                owns = k.owns;
                first = k.first;
                other = k.other;
              }
              (λ i u _ a. slot_taken r.history r.next r.serving (is_out r.value) r.given u (r.each i u a));
          apart = two_set Apart apart_flip s.views id w
              (λ i u other a. let z = r.apart id i v u (λ e. other (sym e)) at a in record {
                tickets = z.tickets;
                insides = λ _ e. z.tickets r.serving own ((r.each i u a).inside e).0;
                places = z.places;
                marks = z.marks;
                firsts = z.firsts;
              })
              r.apart;
          stood = λ y e. absurd (cc);
          holder = λ _. (id, w, set_at s.views id v w at, refl);
          first = found_set (λ (u : View E). u.given ≡ Some r.given) s.views id v w at (λ f. f) r.first;
          no_zero = r.no_zero;
          marked = r.marked;
        },
        ((λ _. (r.history, x, ap (λ l. (w, (0, Some x) ∷ l)) empty, k.seen, k.known, r.stood x there.1)), (λ miss. absurd (miss hit)), record { places = places; owns = k.owns }, met),
      ))
      (λ (gone : r.value ≡ none).
      let f = r.holder (ap is_out gone) in
      let there = (r.each f.0 f.1 f.2).inside f.3 in
      absurd (dite (ℕ_discrete f.0 id)
      (λ same. absurd (cc (f.2, f.3, at, ap (get_elem? s.views) same)))
      (λ other. (r.apart f.0 id f.1 v other f.2 at).tickets r.serving there.0 (hit ∙ ap Some served))))
      (is_there r.value))
      (λ miss. (
        v,
        keeps,
        tt,
        unchanged stands mark s r 2 n id v at refl,
        ((λ hit. absurd (miss hit)), (λ _. refl), seen_places mark r.history r.next r.serving (is_out r.value) r.given v k, k.met),
      ))
      (is_ticket v.ticket n)
