use Rattle.std.proofs.Common.{◌≡◌, ◌∷◌, ◌++◌, [], length}
use Rattle.display_history.proofs.Ends.{trimmed}
use Rattle.display_history.proofs.history.History.push.Given as goal

-- what is left at the end is what is left of all, once the oldest are taken away while there are too many
abbrev pub invariant-loop-self : goal.invariant-loop-self
invariant-loop-self l = trimmed l.self-inside.gone l.self-inside.frames ≡ trimmed l.fn.self.gone (l.fn.self.kept ++ (l.fn.stamp, l.fn.text.items) ∷ [])

abbrev pub decreases-loop-self : goal.decreases-loop-self
decreases-loop-self l = length l.self-inside.frames
