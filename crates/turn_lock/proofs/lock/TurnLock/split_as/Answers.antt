use Rattle.std.proofs.Common.{rules, sym, subst}
use Rattle.turn_lock.specs.Views.{MayGive}
use Rattle.turn_lock.proofs.Splits.{splits}
use Rattle.turn_lock.proofs.lock.TurnLock.split_as.Goals as goal

pub split_seat-seat-requires : goal.split_seat-seat-requires
split_seat-seat-requires g c = (search rules, search rules, splits g.V.Kept.stands g.V.Kept.mark _ _ g.M.Marks.mark (subst (λ m. MayGive m c.args.pass.now.seat.me.0) (sym c.requires.mark) c.requires.may))
