use Rattle.std.proofs.Common.{◌≡◌, drop, map}
use Rattle.serve_options.specs.Values.{names_of}
use Rattle.serve_options.proofs.Joined.{joined}
use Rattle.serve_options.proofs.names.names_of.Given as goal

-- what was read, and then what the other texts are
abbrev pub invariant-loop-text : goal.invariant-loop-text
invariant-loop-text l = names_of (map (λ s. s.now) l.texts) ≡ joined l.held.items (names_of (map (λ s. s.now) (drop l.text-index l.texts)))
