-- What becomes of a turn whose value was lent (this project's own).
use Rattle.std.specs.Prelude.{[]}
use Rattle.std.specs.Borrow.{Lends, MutBor, Fml}
use denote.RattleType.{RattleType}
use mir.Syntax.{named}
use Rattle.turn_lock.specs.declared.kept.Kept.{Ghosts}
use Rattle.turn_lock.specs.declared.turn.Turn.{Turn}
use Rattle.turn_lock.specs.contracts.turn.Turn.{the_row}

-- the turn ends with the last value behind the reference, and is else as before
abbrev pub LendsValue : (V E : RattleType) → Ghosts V.Denot E.Denot → MutBor (Turn V.Denot E.Denot) → MutBor V.Denot → Fml
LendsValue V E K s r = Lends (the_row (record { mir = named 1; lft = [] }) V E K) V s r (λ w. record s.now { value = w })
