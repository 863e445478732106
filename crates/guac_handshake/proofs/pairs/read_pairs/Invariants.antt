use Rattle.guac_handshake.proofs.PairLaws.{Goes}
use Rattle.guac_handshake.proofs.pairs.read_pairs.Given as goal

abbrev pub invariant-loop-name : goal.invariant-loop-name
invariant-loop-name l =
    (goal.iterator-loop-name).can_next l.name-iterator
    × (goal.iterator-loop-name).is_finite l.name-iterator
    × Goes l.body l.name-iterator l.pairs.items
