use Rattle.std.proofs.Common.{List, ℕ, refl, arith}
use Rattle.ecma_parser.specs.Past.{HaveRead}
use Rattle.ecma_parser.proofs.ParserLaws.{step-print}
use Rattle.ecma_parser.proofs.parser.Parser.feed.Goals as goal

pub returns-then-byte-le126 : goal.returns-then-byte-le126
returns-then-byte-le126 c =
    let old = c.args.self.now in
    let printed = λ (bytes : List ℕ) (past : HaveRead old.held old.machine bytes).
    step-print bytes c.args.byte old.held old.machine past (c.if-not-is_empty.ensures.0 refl) (c.if-is_ground.ensures.0 refl) (omega arith) (omega arith) in
    record {
      controls = λ bytes past. (printed bytes past).controls;
      state = λ bytes past. (printed bytes past).past;
      few = (tt, tt);
    }

pub feed_ascii-requires : goal.feed_ascii-requires
feed_ascii-requires c = record { ascii = omega arith; alone = c.if-not-is_empty.ensures.0 refl }
