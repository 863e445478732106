use Rattle.std.proofs.Common.{subst}
use Rattle.glyph_cache.specs.Cache.{IsCache}
use Rattle.glyph_cache.proofs.Tied.{valid}
use Rattle.glyph_cache.proofs.cache.Cache.key_at.Goals as goal

pub returns-then-layer-ge0-clause-valid : goal.returns-then-layer-ge0-clause-valid
returns-then-layer-ge0-clause-valid c = subst IsCache c.self.view_is (valid c.self.inside.slots c.self.inside.by_number.items c.self.invariant)

pub returns-clause-valid : goal.returns-clause-valid
returns-clause-valid c = subst IsCache c.self.view_is (valid c.self.inside.slots c.self.inside.by_number.items c.self.invariant)
