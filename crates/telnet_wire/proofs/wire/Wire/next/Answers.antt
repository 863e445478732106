use Rattle.std.proofs.Common.{take}
use Rattle.std.proofs.Math.Logic.{∥∥₁_map}
use Rattle.std.proofs.lemmas.Result.{IfOk-weaker}
use Rattle.telnet_wire.specs.Parts.{given}
use Rattle.telnet_wire.proofs.StateLaws.{next-past, steps}
use Rattle.telnet_wire.proofs.wire.Wire.next.Goals as goal

pub invariant_of-self : goal.invariant_of-self
invariant_of-self c = record {
  past = ∥∥₁_map c.args.self.now.past (next-past c.args.piece.now c.args.self.now.reader c.next.new.self c.next.result c.next.ensures.gives c.next.ensures.unchanged);
}

pub returns-clause-tokens : goal.returns-clause-tokens
returns-clause-tokens c = IfOk-weaker c.next.result _ _
    (λ r reads. λ bytes past. (steps bytes (take r.1 c.args.piece.now) (given r.0) c.args.self.now.reader c.next.new.self past reads).tokens) c.next.ensures.gives

pub returns-clause-state : goal.returns-clause-state
returns-clause-state c = IfOk-weaker c.next.result _ _
    (λ r reads. λ bytes past. (steps bytes (take r.1 c.args.piece.now) (given r.0) c.args.self.now.reader c.next.new.self past reads).past) c.next.ensures.gives
