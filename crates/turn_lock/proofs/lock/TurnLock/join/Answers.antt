use Rattle.std.proofs.Common.{rules}
use Rattle.turn_lock.proofs.Joins.{joins, were_apart, did_begin}
use Rattle.turn_lock.proofs.lock.TurnLock.join.Goals as goal

pub join_seat-requires : goal.join_seat-requires
join_seat-requires g c = (search rules, search rules, search rules, search rules, joins g.V.Kept.stands g.V.Kept.mark _ _ _ _ c.requires.outside.0.inside c.requires.outside.1.inside c.requires.not_first)

pub returns-clause-begins : goal.returns-clause-begins
returns-clause-begins g c =
    did_begin (c.args.into.now.seat.me).0 (c.args.other.seat.me).0 (c.args.into.now.seat.me).1 c.look.result c.join_seat.new.seat.me c.look.new.pass.seat.me
    c.requires.outside.0.ticket c.join_seat.ensures.2 c.look.ensures.stayed c.look.ensures.met

pub returns-clause-apart : goal.returns-clause-apart
returns-clause-apart g c =
    were_apart g.V.Kept.mark (c.args.into.now.seat.me).0 (c.args.other.seat.me).0 (c.args.into.now.seat.me).1 c.look.result c.join_seat.new.seat.me c.look.new.pass.seat.me
    c.requires.outside.0.ticket c.join_seat.ensures.2 c.look.ensures.stayed c.look.ensures.places
