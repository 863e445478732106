use Rattle.turn_lock.proofs.PassesOn.{is_back}
use Rattle.turn_lock.proofs.turn.Turn.pass_on.Goals as goal

pub serve_next-requires-clause-slot : goal.serve_next-requires-clause-slot
serve_next-requires-clause-slot g c = is_back g.V.Kept.stands g.V.Kept.mark c.args.self.value _ _ c.put.ensures.seat c.add.ensures.stands
