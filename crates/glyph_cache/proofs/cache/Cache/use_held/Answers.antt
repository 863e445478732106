use Rattle.std.proofs.Common.{◌≡◌, ◌∷◌, sym, ap, subst, ◌∙◌}
use Rattle.std.specs.Prelude.{IfNone, IfSome, Some, false, slice_get}
use Rattle.gate_model.specs.picture.Buffers.{is_held}
use Rattle.glyph_cache.specs.Cache.{CacheState, IsCache, without}
use Rattle.glyph_cache.specs.Tied.{keys_in}
use Rattle.glyph_cache.proofs.Tied.{if_absent, if_first, if_held, if_unused, looked_up, valid}
use Rattle.glyph_cache.proofs.cache.Cache.use_held.Goals as goal

pub invariant_of-self : goal.invariant_of-self
invariant_of-self c = looked_up c.self.inside.slots c.self.inside.by_number.items c.self.invariant c.args.key c.get.follows.lender-at-none c.get.follows.holds-at-none

pub returns-clause-held : goal.returns-clause-held
returns-clause-held c = subst (λ (s : CacheState). IfSome c.copied.result (λ n. slice_get s.keys n ≡ Some c.args.key)) c.self.view_is
    (if_held c.self.inside.slots c.self.inside.by_number.items c.self.invariant c.args.key c.get.follows.lender-at-none c.get.follows.holds-at-none c.copied.result (c.copied.ensures ∙ c.get.ensures.value))

pub returns-clause-absent : goal.returns-clause-absent
returns-clause-absent c = subst (λ (s : CacheState). IfNone c.copied.result (is_held s.keys c.args.key ≡ false)) c.self.view_is
    (if_absent c.self.inside.slots c.self.inside.by_number.items c.self.invariant c.args.key c.get.follows.lender-at-none c.get.follows.holds-at-none c.copied.result (c.copied.ensures ∙ c.get.ensures.value))

pub returns-clause-first : goal.returns-clause-first
returns-clause-first c = subst (λ (s : CacheState). IfSome c.copied.result (λ _. keys_in c.get.follows.lender-at-none.entries ≡ c.args.key ∷ without c.args.key s.order)) c.self.view_is
    (if_first c.self.inside.slots c.self.inside.by_number.items c.self.invariant c.args.key c.get.follows.lender-at-none c.get.follows.holds-at-none c.copied.result (c.copied.ensures ∙ c.get.ensures.value))

pub returns-clause-unused : goal.returns-clause-unused
returns-clause-unused c = subst (λ (s : CacheState). IfNone c.copied.result (keys_in c.get.follows.lender-at-none.entries ≡ s.order)) c.self.view_is
    (if_unused c.self.inside.slots c.self.inside.by_number.items c.self.invariant c.args.key c.get.follows.lender-at-none c.get.follows.holds-at-none c.copied.result (c.copied.ensures ∙ c.get.ensures.value))

pub returns-clause-valid : goal.returns-clause-valid
returns-clause-valid c = valid c.get.follows.lender-at-none c.self.inside.by_number.items
    (looked_up c.self.inside.slots c.self.inside.by_number.items c.self.invariant c.args.key c.get.follows.lender-at-none c.get.follows.holds-at-none)
