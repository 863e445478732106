use Rattle.std.proofs.Common.{List, ℕ, ◌++◌, take, ap, inl, inr, refl, sym, ◌∙◌, arith}
use Rattle.gate_outside.specs.Edge.{came}
use Rattle.gate_outside.proofs.Moved.{came-none}
use Rattle.gate_script.proofs.PlayReading.{read_end, read_ended, read_more}
use Rattle.gate_script.proofs.play.read_parts.Goals as goal

pub loop-source-init : goal.loop-source-init
loop-source-init g c = record {
  some = c.requires;
  later = omega arith;
  read = sym (came-none (g.S.Source.left c.args.source.now)) ∙ ap (λ i. came i (g.S.Source.left c.args.source.now)) (sym c.new-bytes.ensures.items);
}

-- nothing is left
pub returns-then-count-eq0-clause-read : goal.returns-then-count-eq0-clause-read
returns-then-count-eq0-clause-read g c = (
  read_end _ _ _ c.loop-source.bytes.items _ c.in-Ok.count c.loop-source.invariant.read c.in-Ok.ensures.ok c.if-count-eq0.true,
  inl (read_ended _ _ _ c.in-Ok.count (c.in-Ok.ensures.end c.if-count-eq0.true) c.in-Ok.ensures.ok c.if-count-eq0.true),
)

-- no memory for one part more
pub returns-in-Err-extend_from_slice-clause-unread : goal.returns-in-Err-extend_from_slice-clause-unread
returns-in-Err-extend_from_slice-clause-unread g c = (c.loop-source.bytes.items ++ take c.in-Ok.count c.read.new.into, read_more _ _ _ c.loop-source.bytes.items (take c.in-Ok.count c.read.new.into) c.loop-source.invariant.read c.in-Ok.ensures.ok, tt)

-- a fault of the source
pub returns-in-Err-clause-unread : goal.returns-in-Err-clause-unread
returns-in-Err-clause-unread g c = (
  c.loop-source.bytes.items,
  c.loop-source.invariant.read ∙ ap (came c.loop-source.bytes.items) (sym c.in-Err.ensures.unchanged),
  omega (arith, c.loop-source.invariant.later, c.in-Err.ensures.faults.0 refl),
)

-- more than a recording may have
pub returns-clause-read : goal.returns-clause-read
returns-clause-read g c = (c.loop-source.invariant.read, inr (omega (arith, c.loop-source-test.false, c.len.ensures)))
