use Rattle.std.proofs.Common.{◌++◌}
use Rattle.std.proofs.Math.Logic.{∥∥₁_map}
use Rattle.telnet_wire.proofs.StateLaws.{steps}
use Rattle.telnet_wire.proofs.wire.Wire.feed.Goals as goal

pub invariant_of-self : goal.invariant_of-self
invariant_of-self c =
    let old = c.args.self.now in
    let piece = c.args.piece.now in
    record {
      past = ∥∥₁_map old.past (λ known. (
        known.0 ++ piece,
        (steps known.0 piece c.in_ok-tokens.tokens old.reader c.read_piece.new.self known.1 c.in_ok-tokens.ensures).past,
      ));
    }

pub returns-clause-tokens : goal.returns-clause-tokens
returns-clause-tokens c = λ bytes past.
    (steps bytes c.args.piece.now c.in_ok-tokens.tokens c.args.self.now.reader c.read_piece.new.self past c.in_ok-tokens.ensures).tokens

pub returns-clause-state : goal.returns-clause-state
returns-clause-state c = λ bytes past.
    (steps bytes c.args.piece.now c.in_ok-tokens.tokens c.args.self.now.reader c.read_piece.new.self past c.in_ok-tokens.ensures).past
