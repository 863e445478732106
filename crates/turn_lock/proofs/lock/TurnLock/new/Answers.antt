use Rattle.std.proofs.Common.{rules, ◌≡◌, [], ◌∷◌, Some, sym, subst}
use Rattle.atomic_table.specs.Table.{opening}
use Rattle.turn_lock.specs.Rule.{Ruled}
use Rattle.turn_lock.specs.Views.{beginning, HasPlaces}
use Rattle.turn_lock.proofs.Begins.{begins, first_places}
use Rattle.turn_lock.proofs.lock.TurnLock.new.Goals as goal

pub new-requires : goal.new-requires
new-requires g c =
    let slots : c.push_reserved.new.self.items ≡ Some c.args.value ∷ [] = search rules in
    let n = c.count.result in
    let starts = begins g.V.Kept.stands g.V.Kept.mark c.args.value g.L.Lists.list n c.requires.stands c.requires.unmarked (c.count.ensures g.L.Lists.list c.requires.stands) in
    subst (λ xs. Ruled g.V.Kept.stands g.V.Kept.mark (opening (n ∷ 0 ∷ 0 ∷ []) xs (beginning g.V.Kept.mark c.of-opening.result.items))) (sym slots)
    (subst (λ h. Ruled g.V.Kept.stands g.V.Kept.mark (opening (n ∷ 0 ∷ 0 ∷ []) (Some c.args.value ∷ []) (beginning g.V.Kept.mark h))) (sym c.of-opening.ensures) starts)

pub returns-in-Ok-clause-places : goal.returns-in-Ok-clause-places
returns-in-Ok-clause-places g c =
    let view : (c.in-Ok.seat.me).0 ≡ beginning g.V.Kept.mark g.L.Lists.list = search rules in
    subst (HasPlaces g.V.Kept.mark) (sym view) (first_places g.V.Kept.mark g.L.Lists.list)
