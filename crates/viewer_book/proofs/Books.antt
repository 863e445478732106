-- The laws about books: each change touches one viewer, and leaves a book.
use Rattle.std.proofs.Common.{◌≡◌, ℕ, ◌+◌, List, [], ◌∷◌, length, map, inl, inr, refl, ap, ap₂, sym, arith, length-append}
use Rattle.std.specs.Prelude.{Bool, true, false, not}
use Rattle.std.proofs.lemmas.Bool.Decides.{eqb_tells}
use Rattle.std.proofs.lemmas.List.{length-map}
use Rattle.std.proofs.lemmas.List.Filters.{length-filter_both}
use Rattle.viewer_book.specs.declared.viewer.Viewer.{Viewer}
use Rattle.viewer_book.specs.Book.{BookState, IsBook, has_number, nobody, newcomer, changed}
use Rattle.viewer_book.specs.Laws.{AdditionsAddOne, ChangesChangeOne, RemovalsRemoveOne, LiveHaveJoined, NextIsNew}
use Rattle.viewer_book.proofs.Lists.{KeepsNumber, only, is_other, rising-append, rising-map, rising-filter, find-high, find-own, find-append_other, find-append_same, find-map_same, find-map_other, find-filter_same, find-filter_other, length-filter_found}

not-twice : (b : Bool) → b ≡ not (not b)
not-twice true = refl
not-twice false = refl

-- the book in which nobody has joined
pub nobody-is-book : IsBook nobody
nobody-is-book = record { few_live = omega arith; few_joined = omega arith; rising = tt }

pub next-is-new : NextIsNew
next-is-new b is = find-high (b.joined + 1) b.viewers 0 b.joined is.rising (omega arith)

pub found-is : LiveHaveJoined
found-is b number v is found =
    let own = find-own number b.viewers 0 b.joined v is.rising found in
    record { own = own.0; first = omega (arith, own.1); last = own.2 }

pub adds-one : AdditionsAddOne
adds-one b role stamp is =
    let new : Viewer = newcomer (b.joined + 1) role stamp in
    record {
      viewer = find-append_same (b.joined + 1) b.viewers new (next-is-new b is) refl;
      others = λ n differs. find-append_other n b.viewers new (λ same. differs (sym same));
      joined = refl;
      live = length-append b.viewers (new ∷ []);
      book = λ few_live few_joined. record {
        few_live = omega (arith, few_live, length-append b.viewers (new ∷ []));
        few_joined = omega (arith, few_joined);
        rising = rising-append b.viewers 0 b.joined new is.rising (omega arith) (omega arith);
      };
    }

pub changes-one : ChangesChangeOne
changes-one b number change is keeps =
    let same : length (map (only number change) b.viewers) ≡ length b.viewers = length-map b.viewers (only number change) in
    record {
      viewer = find-map_same number change b.viewers keeps;
      others = λ n differs. find-map_other number n change b.viewers keeps differs;
      joined = refl;
      live = same;
      book = record {
        few_live = omega (arith, same, is.few_live);
        few_joined = is.few_joined;
        rising = rising-map number change b.viewers 0 b.joined keeps is.rising;
      };
    }

-- one change of a viewer after another is one change
pub changes-join : (b : BookState) (number : ℕ) (first second : Viewer → Viewer) → KeepsNumber first → changed (changed b number first) number second ≡ changed b number (λ v. second (first v))
changes-join b number first second keeps = ap (λ (l : List Viewer). record { joined = b.joined; viewers = l }) (joins b.viewers)
  where
    both : (v : Viewer) → only number second (only number first v) ≡ only number (λ w. second (first w)) v
    both v = elim (eqb_tells v.number number) [
      | inl q ↦ rw q.0 (rw (keeps v, q.0) refl)
      | inr q ↦ rw q.0 (rw q.0 refl)
    ]

    joins : (l : List Viewer) → map (only number second) (map (only number first) l) ≡ map (only number (λ w. second (first w))) l
    joins [] = refl
    joins (v ∷ l) = ap₂ (λ (w : Viewer) (ws : List Viewer). w ∷ ws) (both v) (joins l)

pub removes-one : RemovalsRemoveOne
removes-one b number is = record {
  viewer = find-filter_same number b.viewers;
  others = λ n differs. find-filter_other number n b.viewers differs;
  joined = refl;
  live = λ live. length-filter_found number b.viewers 0 b.joined is.rising live;
  book = record {
    few_live = omega (arith, length-filter_both (is_other number) (has_number number) (λ v. not-twice (has_number number v)) b.viewers, is.few_live);
    few_joined = is.few_joined;
    rising = rising-filter number b.viewers 0 b.joined is.rising;
  };
}
