use Rattle.std.proofs.Common.{◌<◌, ap, sym, subst}
use Rattle.glyph_cache.proofs.Tied.{reused_as, valid, within_as}
use Rattle.glyph_cache.proofs.cache.Cache.reuse.Goals as goal

pub index_mut-requires : goal.index_mut-requires
index_mut-requires c = subst (λ n. c.in-Some.number.now < n) (sym c.self.inside.by_number.ok.0) (within_as c.self.inside.slots c.self.inside.by_number.items c.self.invariant c.args.self.now c.self.view_is c.args.key c.requires.coloured c.requires.absent c.requires.full (c.in-Some.field-0-0.now, c.in-Some.number.now) c.in-Some.ensures)

pub invariant_of-self-2 : goal.invariant_of-self-2
invariant_of-self-2 c = (reused_as c.self.inside.slots c.self.inside.by_number.items c.self.invariant c.args.self.now c.self.view_is c.args.key c.requires.coloured c.requires.absent c.requires.full (c.in-Some.field-0-0.now, c.in-Some.number.now) c.in-Some.ensures c.push.new.self c.in_ok-push.ensures.entries).0

pub returns-clause-slot : goal.returns-clause-slot
returns-clause-slot c =
    let done = reused_as c.self.inside.slots c.self.inside.by_number.items c.self.invariant c.args.self.now c.self.view_is c.args.key c.requires.coloured c.requires.absent c.requires.full (c.in-Some.field-0-0.now, c.in-Some.number.now) c.in-Some.ensures c.push.new.self c.in_ok-push.ensures.entries in
    (c.in-Some.number.now, ap (λ s. s.layer) c.slot_of.ensures, ap (λ s. s.kind) c.slot_of.ensures, done.1, done.2)

pub returns-clause-valid : goal.returns-clause-valid
returns-clause-valid c = valid c.push.new.self _
    (reused_as c.self.inside.slots c.self.inside.by_number.items c.self.invariant c.args.self.now c.self.view_is c.args.key c.requires.coloured c.requires.absent c.requires.full (c.in-Some.field-0-0.now, c.in-Some.number.now) c.in-Some.ensures c.push.new.self c.in_ok-push.ensures.entries).0
