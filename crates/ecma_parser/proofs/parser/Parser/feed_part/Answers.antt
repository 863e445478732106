use Rattle.std.proofs.Common.{◌++◌, ◌∷◌, [], List, ℕ}
use Rattle.std.proofs.Math.Logic.{∥∥₁_map}
use Rattle.ecma_parser.specs.Past.{HaveRead}
use Rattle.ecma_parser.proofs.ParserLaws.{step-two}
use Rattle.ecma_parser.proofs.parser.Parser.feed_part.Goals as goal

pub invariant_of-self : goal.invariant_of-self
invariant_of-self c =
    let old = c.args.self.now in
    record {
      past = ∥∥₁_map old.past (λ known. (
        known.0 ++ c.args.byte ∷ [],
        (step-two known.0 c.args.byte old.held c.push-first.new.self old.machine c.read_any-first.new.self c.read_any-second.new.self
            c.push-first.result.0 c.push-first.result.1 c.read_any-first.result c.read_any-second.result known.1
            c.push-first.ensures c.read_any-first.ensures.control c.read_any-second.ensures.control).past,
      ));
    }

pub returns : goal.returns
returns c =
    let old = c.args.self.now in
    let both = λ (bytes : List ℕ) (past : HaveRead old.held old.machine bytes).
    step-two bytes c.args.byte old.held c.push-first.new.self old.machine c.read_any-first.new.self c.read_any-second.new.self
    c.push-first.result.0 c.push-first.result.1 c.read_any-first.result c.read_any-second.result past
    c.push-first.ensures c.read_any-first.ensures.control c.read_any-second.ensures.control in
    record {
      controls = λ bytes past. (both bytes past).controls;
      state = λ bytes past. (both bytes past).past;
      few = (c.read_any-first.ensures.few, c.read_any-second.ensures.few);
    }
