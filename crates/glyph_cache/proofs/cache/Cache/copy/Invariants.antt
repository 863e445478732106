use Rattle.std.proofs.Common.{◌≡◌, ◌++◌}
use Rattle.glyph_cache.proofs.cache.Cache.copy.Given as goal

-- the entries that are left, and behind them those that are copied
abbrev pub invariant-loop-key : goal.invariant-loop-key
invariant-loop-key l = (l.self-inside.slots.entries ≡ l.key-iterator.iter ++ l.slots.entries) × (l.slots.cap ≡ 1024)
