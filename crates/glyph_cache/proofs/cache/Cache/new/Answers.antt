use Rattle.std.proofs.Common.{[], ap, ◌∙◌}
use Rattle.lru.specs.LruCache.{lru_cache}
use Rattle.glyph_cache.proofs.Tied.{nothing_tied}
use Rattle.glyph_cache.proofs.cache.Cache.new.Goals as goal

pub invariant_of-result : goal.invariant_of-result
invariant_of-result c = nothing_tied c.in_ok-new.field-0 c.new-2.result.items (c.in_ok-new.ensures ∙ ap (lru_cache []) c.most.ensures) c.new-2.ensures.items
