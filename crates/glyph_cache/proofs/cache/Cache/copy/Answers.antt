use Rattle.std.proofs.Common.{◌≤◌, sym, subst}
use Rattle.glyph_cache.proofs.Tied.{copied}
use Rattle.glyph_cache.proofs.cache.Cache.copy.Goals as goal

pub loop-key-preserved : goal.loop-key-preserved
loop-key-preserved c = copied c.self.inside.slots.entries c.loop-key.key-iterator.iter c.next.new.self.iter (c.in-Some.key.now, c.in-Some.number.now) c.loop-key.slots c.push.new.self c.self.invariant.distinct (subst (λ n. n ≤ 1024) (sym c.self.invariant.room) c.self.invariant.few) c.loop-key.invariant.0 c.loop-key.invariant.1 c.in-Some.ensures.steps c.in_ok-push.ensures.entries
