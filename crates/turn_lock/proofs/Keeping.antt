-- What the proofs of all kinds of step have in common.
use Rattle.std.proofs.Common.{◌≡◌, ℕ, Bool, List, Option, slice_set, slice_index, sym, ◌∙◌, ap, subst}
use mathlib.Core.Option.{some}
use lib.ListN.{get_elem?}
use lib.Seq.{set-get_or}
use Rattle.atomic_table.specs.Table.{State}
use Rattle.atomic_table.proofs.Lists.{set_again}
use Rattle.turn_lock.specs.Rule.{Knows, Apart, Ruled}
use Rattle.turn_lock.specs.Views.{HasPlaces}
use Rattle.turn_lock.specs.declared.view.View.{View}
use Rattle.turn_lock.proofs.Elements.{at_later}

module _ {E : Type 0} where
  pub apart_flip : (v w : View E) → Apart v w → Apart w v
  apart_flip v w a = record {
    tickets = λ t x y. a.tickets t y x;
    insides = λ x y. a.insides y x;
    places = λ p x y. a.places p y x;
    marks = λ m x y. a.marks m y x;
    firsts = λ ms ns x y. a.firsts ns ms y x;
  }

  -- what the rule says of the own places, told of what was seen
  pub seen_places : (mark : E → Option ℕ) (h : List E) (next serving : ℕ) (out : Bool) (given : List ℕ) (v : View E) → Knows mark h next serving out given v → HasPlaces mark v
  seen_places mark h next serving out given v k = record { places = k.places; owns = λ m p e a b c. k.owns m p e a (at_later v.seen h p e k.seen b) c }

  -- a step that leaves the word and the view
  pub unchanged : {X : Type 0} (stands : X → List E → Type 0) (mark : E → Option ℕ) (s : State (Option X) (View E)) → Ruled stands mark s → (i n id : ℕ) (v : View E) → get_elem? s.views id ≡ some v → n ≡ slice_index s.words i
      → Ruled stands mark record { words = slice_set s.words i n; homes = s.homes; views = slice_set s.views id v }
  unchanged stands mark s r i n id v at same = subst (Ruled stands mark)
      (λ k. record { words = sym (ap (slice_set s.words i) same ∙ set-get_or s.words i 0) k; homes = s.homes; views = sym (set_again s.views id v at) k }) r
