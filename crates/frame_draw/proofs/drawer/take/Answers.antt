use Rattle.std.proofs.Common.{rules}
use Rattle.frame_draw.proofs.Going.{buffer_of}
use Rattle.frame_draw.proofs.Holding.{all_held, held_now}
use Rattle.frame_draw.proofs.drawer.take.Goals as goal

pub returns-clause-held : goal.returns-clause-held
returns-clause-held c =
    held_now c.args.list.now.items c.paint.new.list.items c.args.cache.now.keys c.buffer.new.self c.args.key c.in_ok-slot.slot.kind c.in_ok-slot.slot.layer _
    c.in_ok-slot.ensures.gets c.in_ok-slot.ensures.valid c.in_ok-paint.ensures (search rules)

pub returns-clause-recent : goal.returns-clause-recent
returns-clause-recent c =
    all_held c.args.cache.now.keys c.buffer.new.self.keys c.args.key c.in_ok-slot.slot.kind c.in_ok-slot.ensures.gets.0 _ _ c.args.recent.now c.remember.new.recent
    c.remember.ensures c.in_ok-slot.ensures.gets.2
    (buffer_of c.args.list.now.items c.paint.new.list.items c.args.cache.now.keys c.buffer.new.self.keys c.args.key _
    (held_now c.args.list.now.items c.paint.new.list.items c.args.cache.now.keys c.buffer.new.self c.args.key c.in_ok-slot.slot.kind c.in_ok-slot.slot.layer _
    c.in_ok-slot.ensures.gets c.in_ok-slot.ensures.valid c.in_ok-paint.ensures (search rules)))
    c.requires.recent
