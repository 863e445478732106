use Rattle.std.proofs.Common.{◌∷◌, [], sym, ap, ◌∙◌, arith, inl, inr}
use Rattle.gate_model.specs.terminal.Characters.{is_unfinished}
use Rattle.ecma_parser.proofs.HeldLaws.{read-ascii, read-stray, read-held, unfinished-lead, first-taken}
use Rattle.ecma_parser.proofs.held.Held.begin.Goals as goal
use Rattle.ecma_parser.proofs.held.Held.begin.Goals.{in_default-via-then-byte-lt194, in_default-via-else-byte-lt194+else-byte-lt245}

pub invariant_of-self-in-194-to-244 : goal.invariant_of-self-in-194-to-244
invariant_of-self-in-194-to-244 c = record {
  waiting = record {
    unfinished = ap is_unfinished (first-taken c.args.self.now.bytes c.args.byte (omega arith)) ∙ unfinished-lead c.args.byte (omega arith) (omega arith);
    few = omega arith;
  };
}

pub returns-in-0-to-127 : goal.returns-in-0-to-127
returns-in-0-to-127 c = read-ascii c.args.byte (omega arith)

pub returns-in-194-to-244 : goal.returns-in-194-to-244
returns-in-194-to-244 c =
    read-held (c.args.byte ∷ []) (unfinished-lead c.args.byte (omega arith) (omega arith))
    ∙ ap (λ t. ([], t)) (sym (first-taken c.args.self.now.bytes c.args.byte (omega arith)))

pub returns-in_default : goal.returns-in_default
returns-in_default c = elim c.in_default.branch [
  | in_default-via-then-byte-lt194 w ↦ read-stray c.args.byte (omega arith) (inl (omega arith))
  | in_default-via-else-byte-lt194+else-byte-lt245 w ↦ read-stray c.args.byte (omega arith) (inr (omega arith))
]
