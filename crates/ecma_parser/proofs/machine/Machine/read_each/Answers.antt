use Rattle.std.proofs.Common.{◌++◌, ◌+◌, ◌≤◌, take, get_or, subst, arith}
use Rattle.std.proofs.lemmas.List.{take_more}
use Rattle.std.proofs.lemmas.List.Elements.{All-more}
use Rattle.ecma_parser.specs.State.{Gives, control_by}
use Rattle.ecma_parser.proofs.StateLaws.{gives-nothing, gives-next}
use Rattle.ecma_parser.proofs.machine.Machine.read_each.Goals as goal

pub loop-i-init : goal.loop-i-init
loop-i-init c = (λ k d low. absurd (omega (arith, low)), λ rest stands. gives-nothing rest c.args.self.now stands)

pub returns-in_default-clause-ascii : goal.returns-in_default-clause-ascii
returns-in_default-clause-ascii c =
    let piece = c.args.piece.now in
    All-more (λ b. b ≤ 0x7F) piece c.loop-i.i 0 c.loop-i-test.true c.loop-i.invariant.0 (omega (arith, c.if-byte-ge128.false))

pub returns-in_default-clause-gives : goal.returns-in_default-clause-gives
returns-in_default-clause-gives c = λ rest stands.
    let piece = c.args.piece.now in
    let i = c.loop-i.i in
    gives-next rest piece i (get_or piece i 0) (control_by c.read-completed.result c.read-completed.new.self.sequence) c.loop-i.self c.read-completed.new.self
    (take_more piece i 0 c.loop-i-test.true) (c.loop-i.invariant.1 rest stands) c.read-completed.ensures

pub loop-i-preserved : goal.loop-i-preserved
loop-i-preserved c =
    let piece = c.args.piece.now in
    let i = c.loop-i.i in (
      All-more (λ b. b ≤ 0x7F) piece i 0 c.loop-i-test.true c.loop-i.invariant.0 (omega (arith, c.if-byte-ge128.false)),
      λ rest stands. subst (λ done. Gives (rest ++ take (i + 1) piece) (control_by done c.read-completed.new.self.sequence) c.read-completed.new.self) c.in-Nothing.is
          (gives-next rest piece i (get_or piece i 0) (control_by c.read-completed.result c.read-completed.new.self.sequence) c.loop-i.self c.read-completed.new.self
          (take_more piece i 0 c.loop-i-test.true) (c.loop-i.invariant.1 rest stands) c.read-completed.ensures),
    )
