use Rattle.std.proofs.Common.{◌++◌, ◌∷◌, [], List, ℕ, ap, ◌∙◌, arith}
use Rattle.std.proofs.Math.Logic.{∥∥₁_map}
use Rattle.gate_model.specs.terminal.Characters.{characters}
use Rattle.gate_model.specs.terminal.Controls.{controls}
use Rattle.ecma_parser.specs.Past.{HaveRead}
use Rattle.ecma_parser.specs.State.{control_by}
use Rattle.ecma_parser.proofs.ParserLaws.{step-ascii}
use Rattle.ecma_parser.proofs.parser.Parser.feed_ascii.Goals as goal

pub invariant_of-self : goal.invariant_of-self
invariant_of-self c =
    let old = c.args.self.now in
    let new = c.read-completed.new.self in
    let given = control_by c.read-completed.result new.sequence in
    record {
      past = ∥∥₁_map old.past (λ known. (
        known.0 ++ c.args.byte ∷ [],
        (step-ascii known.0 c.args.byte old.held old.machine new given known.1 c.requires.alone (omega arith) c.read-completed.ensures).past,
      ));
    }

pub returns : goal.returns
returns c =
    let old = c.args.self.now in
    let new = c.read-completed.new.self in
    let given = control_by c.read-completed.result new.sequence in
    let ascii = λ (bytes : List ℕ) (past : HaveRead old.held old.machine bytes).
    step-ascii bytes c.args.byte old.held old.machine new given past c.requires.alone (omega arith) c.read-completed.ensures in
    record {
      controls = λ bytes past. (ascii bytes past).controls ∙ ap (λ controls_given. controls (characters bytes) ++ controls_given) c.control.ensures.control;
      state = λ bytes past. (ascii bytes past).past;
      few = (c.control.ensures.few, tt);
    }

pub returns-in-Nothing : goal.returns-in-Nothing
returns-in-Nothing c =
    let old = c.args.self.now in
    let new = c.read-completed.new.self in
    let ascii = λ (bytes : List ℕ) (past : HaveRead old.held old.machine bytes).
    step-ascii bytes c.args.byte old.held old.machine new [] past c.requires.alone (omega arith) c.in-Nothing.ensures in
    record {
      controls = λ bytes past. (ascii bytes past).controls;
      state = λ bytes past. (ascii bytes past).past;
      few = (tt, tt);
    }
