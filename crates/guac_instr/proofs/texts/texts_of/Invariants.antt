use Rattle.std.proofs.Common.{◌≡◌, ◌++◌, take}
use Rattle.gate_model.specs.text.Text.{texts}
use Rattle.guac_instr.proofs.texts.texts_of.Given as goal

abbrev pub invariant-loop-instr : goal.invariant-loop-instr
invariant-loop-instr l = l.into.items ≡ l.fn.into.items ++ texts (take l.instr-index l.instrs)
