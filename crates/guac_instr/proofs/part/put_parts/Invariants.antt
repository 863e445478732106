use Rattle.std.proofs.Common.{◌≡◌, ◌++◌, map, take, flat_map}
use Rattle.std.specs.Str.{chars}
use Rattle.gate_model.specs.text.Text.{element, next_element}
use Rattle.guac_instr.specs.Parts.{points_of}
use Rattle.guac_instr.proofs.part.put_parts.Given as goal

abbrev pub invariant-loop-part : goal.invariant-loop-part
invariant-loop-part l = l.into.items ≡ l.fn.into.items ++ (element (chars l.opcode) ++ flat_map next_element (map points_of (take l.part-index l.parts)))
