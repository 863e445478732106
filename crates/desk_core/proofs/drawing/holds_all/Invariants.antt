use Rattle.std.proofs.Common.{◌≡◌, take, true}
use Rattle.std.specs.Prelude.{All}
use Rattle.std.specs.List.{list_all}
use Rattle.gate_model.specs.picture.Buffers.{is_held}
use Rattle.desk_core.proofs.drawing.holds_all.Given as goal

-- each key before the place has a buffer, and so has each that is remembered
abbrev pub invariant-loop-key : goal.invariant-loop-key
invariant-loop-key l = (All (λ k. is_held l.cache.keys k ≡ true) l.recent) × (list_all (is_held l.cache.keys) (take l.key-index l.shown.keys) ≡ true)
