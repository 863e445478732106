use Rattle.std.proofs.Common.{◌≡◌, ◌+◌}
use Rattle.script_load.specs.Words.{drawn}
use Rattle.script_load.specs.Rounds.{texts_of}
use Rattle.script_load.proofs.rounds.feed.Given as goal

abbrev pub invariant-loop-piece : goal.invariant-loop-piece
invariant-loop-piece l = record {
  bytes : l.bytes.items ≡ texts_of (drawn l.fn.draws.seed) l.fn.draws.place l._piece;
  place : l.draws.place ≡ l.fn.draws.place + l._piece;
  seed : l.draws.seed ≡ l.fn.draws.seed;
}
