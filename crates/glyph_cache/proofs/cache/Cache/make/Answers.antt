use Rattle.std.proofs.Common.{◌≡◌, ◌∷◌, sym, ap, subst, ◌∙◌}
use Rattle.std.specs.Prelude.{false, length}
use Rattle.gate_model.specs.picture.Buffers.{is_held}
use Rattle.glyph_cache.specs.Cache.{CacheState}
use Rattle.glyph_cache.specs.Tied.{keys_in}
use Rattle.glyph_cache.proofs.Tied.{made_as, valid}
use Rattle.glyph_cache.proofs.cache.Cache.make.Goals as goal

pub invariant_of-self-in-Ok : goal.invariant_of-self-in-Ok
invariant_of-self-in-Ok c = (made_as c.self.inside.slots c.self.inside.by_number.items c.self.invariant c.args.self.now c.self.view_is c.args.key c.requires.coloured c.requires.absent c.requires.room c.len-number.result (c.len-number.ensures ∙ c.self.inside.by_number.ok.0) c.push.new.self.items c.in_ok-push.ensures.items c.push-2.new.self c.in-Ok.ensures.entries).0

pub returns-in-Ok-clause-order : goal.returns-in-Ok-clause-order
returns-in-Ok-clause-order c = (made_as c.self.inside.slots c.self.inside.by_number.items c.self.invariant c.args.self.now c.self.view_is c.args.key c.requires.coloured c.requires.absent c.requires.room c.len-number.result (c.len-number.ensures ∙ c.self.inside.by_number.ok.0) c.push.new.self.items c.in_ok-push.ensures.items c.push-2.new.self c.in-Ok.ensures.entries).1

pub returns-in-Ok-clause-valid : goal.returns-in-Ok-clause-valid
returns-in-Ok-clause-valid c = valid c.push-2.new.self c.push.new.self.items (made_as c.self.inside.slots c.self.inside.by_number.items c.self.invariant c.args.self.now c.self.view_is c.args.key c.requires.coloured c.requires.absent c.requires.room c.len-number.result (c.len-number.ensures ∙ c.self.inside.by_number.ok.0) c.push.new.self.items c.in_ok-push.ensures.items c.push-2.new.self c.in-Ok.ensures.entries).0
