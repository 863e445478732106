-- Tab stops: a flag for each column (ECMA-48, HT, HTS, TBC, CHT, CBT).
use Rattle.std.specs.Prelude.{ℕ, zero, suc, ◌+◌, ◌-◌, min, List, length, take, drop, ◌++◌, replicate, slice_set, Bool, false, true, not, ◌==◌, if◌then◌else◌}
use Rattle.std.specs.List.{prefix_len, suffix_len}
use Rattle.gate_model.specs.terminal.Terminal.{first_stops}

-- the first tab stop above column x, or the last column
abbrev pub stop_above : List Bool → ℕ → ℕ
stop_above stops x = min (x + 1 + prefix_len not (drop (x + 1) stops)) (length stops - 1)

-- the last tab stop below column x, or 0
abbrev pub stop_below : List Bool → ℕ → ℕ
stop_below stops x = x - 1 - suffix_len not (take x stops)

-- the same n times
unfoldable pub stops_above : List Bool → ℕ → ℕ → ℕ
stops_above stops zero x = x
stops_above stops (suc n) x = stops_above stops n (stop_above stops x)

unfoldable pub stops_below : List Bool → ℕ → ℕ → ℕ
stops_below stops zero x = x
stops_below stops (suc n) x = stops_below stops n (stop_below stops x)

-- HTS: a stop at column x
abbrev pub with_stop : ℕ → List Bool → List Bool
with_stop x stops = slice_set stops x true

-- TBC: the stop at column x goes, or all go
abbrev pub stops_cleared : ℕ → ℕ → List Bool → List Bool
stops_cleared which x stops =
    if which == 0 then slice_set stops x false else (
    if which == 3 then replicate (length stops) false else stops)

-- the stops of another number of columns: those of the columns that stay, and the first stops of those that come in
abbrev pub stops_resized : ℕ → List Bool → List Bool
stops_resized columns stops = take columns stops ++ drop (length stops) (first_stops columns)
