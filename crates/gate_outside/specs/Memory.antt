-- Ends in memory, which fail at listed calls (this project's own).
use Rattle.std.specs.Prelude.{ℕ, ◌-◌, min, List, ◌++◌, length, take, drop, Bool, ◌||◌, ◌==◌, nat_le, if◌then◌else◌}
use Rattle.std.specs.List.{list_any}
use Rattle.gate_outside.specs.Edge.{one_more}

-- a source in memory: what is left, the most bytes of a call, the numbers of the calls that fail, and
-- how many calls and faults there were
pub record Supply : Type 0 where
  pub left : List ℕ
  pub most : ℕ
  pub fail : List ℕ
  pub calls : ℕ
  pub faults : ℕ

-- a sink in memory: what it took, the room for it, and the rest as a source has it
pub record Store : Type 0 where
  pub held : List ℕ
  pub room : ℕ
  pub most : ℕ
  pub fail : List ℕ
  pub calls : ℕ
  pub faults : ℕ

-- the call with this number, counted from 1, is one that fails
abbrev pub is_listed : List ℕ → ℕ → Bool
is_listed fail number = list_any (λ n. n == number) fail

-- the source's next call fails
abbrev pub supply_fails : Supply → Bool
supply_fails s = is_listed s.fail (one_more s.calls)

-- how many bytes it gives otherwise, to a buffer of this length
abbrev pub supply_count : Supply → ℕ → ℕ
supply_count s room = min s.most (min room (length s.left))

-- the source after a call
abbrev pub supply_after : Supply → ℕ → Supply
supply_after s room =
    if supply_fails s
    then record s { calls = one_more s.calls; faults = one_more s.faults }
    else record s { left = drop (supply_count s room) s.left; calls = one_more s.calls }

-- the sink's next call fails: it is listed, or the sink is full
abbrev pub store_fails : Store → Bool
store_fails s = is_listed s.fail (one_more s.calls) || nat_le s.room (length s.held)

-- how many bytes it takes otherwise, of a piece of this length
abbrev pub store_count : Store → ℕ → ℕ
store_count s piece = min s.most (min piece (s.room - length s.held))

-- the sink after a call
abbrev pub store_after : Store → List ℕ → Store
store_after s piece =
    if store_fails s
    then record s { calls = one_more s.calls; faults = one_more s.faults }
    else record s { held = s.held ++ take (store_count s (length piece)) piece; calls = one_more s.calls }

-- a dialer in memory: the links that are left, and the rest as a source has it
pub record Links : Type 0 where
  pub left : List (Supply × Store)
  pub fail : List ℕ
  pub calls : ℕ
  pub faults : ℕ

-- the dialer's next call fails: it is listed, or no link is left
abbrev pub links_fail : Links → Bool
links_fail s = is_listed s.fail (one_more s.calls) || length s.left == 0

-- the dialer after a call
abbrev pub links_after : Links → Links
links_after s =
    if links_fail s
    then record s { calls = one_more s.calls; faults = one_more s.faults }
    else record s { left = drop 1 s.left; calls = one_more s.calls }

-- the moments of a clock in memory after a call: the last comes again
abbrev pub moments_after : List ℕ → List ℕ
moments_after moments = if nat_le (length moments) 1 then moments else drop 1 moments
