use Rattle.std.proofs.Common.{◌≡◌, ◌++◌, ◌∷◌, flat_map, take}
use Rattle.script_load.specs.Rounds.{read_and_acknowledge}
use Rattle.script_load.proofs.rounds.Rounds.push_turn.Given as goal

abbrev pub invariant-loop-viewer : goal.invariant-loop-viewer
invariant-loop-viewer l = l.lines.items ≡ l.fn.lines.items ++ flat_map read_and_acknowledge (1 ∷ take l.viewer-index l.self.others.items)
