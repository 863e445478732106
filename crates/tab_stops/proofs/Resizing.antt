-- The stops of a line that gets another number of columns.
use Rattle.std.proofs.Common.{◌≡◌, ℕ, ◌-◌, ◌<◌, ◌≤◌, List, ◌++◌, length, take, drop, Bool, ap, sym, ◌∙◌, ◌⊎◌, inl, inr, arith}
use Rattle.std.specs.Prelude.{min}
use Rattle.std.proofs.lemmas.Bool.{cases_lt}
use Rattle.std.proofs.lemmas.List.{take_all, take_rest}
use Rattle.std.proofs.lemmas.List.FromFn.{length-map-range_with_len}
use Rattle.std.proofs.Math.ListN.{drop_of_length-le}
use Rattle.gate_model.specs.terminal.TabStops.{stops_resized}
use Rattle.gate_model.specs.terminal.Terminal.{first_stops, is_first_stop}

pub stops_kept : (columns kept : ℕ) (stops : List Bool) → kept ≡ min (length stops) (length (first_stops columns)) → take kept stops ++ drop kept (first_stops columns) ≡ stops_resized columns stops
stops_kept columns kept stops is = by_size (cases_lt (length stops) columns)
  where
    size : length (first_stops columns) ≡ columns
    size = length-map-range_with_len is_first_stop 0 columns

    by_size : (length stops < columns) ⊎ (columns ≤ length stops) → take kept stops ++ drop kept (first_stops columns) ≡ stops_resized columns stops
    by_size (inl more) =
        let all : kept ≡ length stops = omega (arith, is, size, more) in
        ap (λ n. take n stops ++ drop n (first_stops columns)) all
        ∙ ap (λ (s : List Bool). s ++ drop (length stops) (first_stops columns)) (take_all (length stops) stops (omega arith) ∙ sym (take_all columns stops (omega (arith, more))))
    by_size (inr fewer) =
        let few : kept ≡ columns = omega (arith, is, size, fewer) in
        ap (λ n. take n stops ++ drop n (first_stops columns)) few
        ∙ ap (λ (s : List Bool). take columns stops ++ s) (drop_of_length-le (first_stops columns) {i = columns} (omega (arith, size)) ∙ sym (drop_of_length-le (first_stops columns) {i = length stops} (omega (arith, size, fewer))))

pub stops_joined : (columns kept : ℕ) (stops mine first held new : List Bool) → mine ≡ stops → first ≡ first_stops columns → kept ≡ min (length mine) (length first)
    → held ≡ take kept mine → new ≡ held ++ take (length first - kept) (drop kept first) → new ≡ stops_resized columns stops
stops_joined columns kept stops mine first held new own start is front all =
    all
    ∙ ap (λ (xs : List Bool). xs ++ take (length first - kept) (drop kept first)) front
    ∙ ap (λ (xs : List Bool). take kept mine ++ xs) (take_rest first kept)
    ∙ ap (λ (xs : List Bool). take kept xs ++ drop kept first) own
    ∙ ap (λ (xs : List Bool). take kept stops ++ drop kept xs) start
    ∙ stops_kept columns kept stops (is ∙ (ap (λ (xs : List Bool). min (length xs) (length first)) own ∙ ap (λ (xs : List Bool). min (length stops) (length xs)) start))
