use Rattle.std.proofs.Common.{List, ℕ, ◌++◌, take, ap, sym, ◌∙◌, arith}
use Rattle.gate_outside.specs.Edge.{came}
use Rattle.gate_outside.proofs.Moved.{came-none}
use Rattle.look.proofs.Coming.{read_end, read_more, written_back}
use Rattle.look.proofs.running.read_all.Goals as goal

pub loop-read-init : goal.loop-read-init
loop-read-init g c = record {
  room = c.in_ok-buffer.ensures.len;
  later = omega arith;
  read = sym (came-none (g.S.Source.left c.args.source.now)) ∙ ap (λ i. came i (g.S.Source.left c.args.source.now)) (sym c.new-input.ensures.items);
}

pub returns-then-count-eq0-clause-read : goal.returns-then-count-eq0-clause-read
returns-then-count-eq0-clause-read g c = read_end _ _ _ c.loop-read.input.items _ c.in-Ok.count c.loop-read.invariant.read c.in-Ok.ensures.ok c.if-count-eq0.true

pub loop-read-preserved : goal.loop-read-preserved
loop-read-preserved g c = record {
  room = c.loop-read.invariant.room;
  later = omega (arith, c.loop-read.invariant.later, c.in-Ok.ensures.faults.1);
  read = read_more _ _ _ c.loop-read.input.items _ c.extend_from_slice.new.self.items c.loop-read.invariant.read c.in-Ok.ensures.ok (c.in_ok-extend_from_slice-in-Ok.ensures.items ∙ ap (λ (b : List ℕ). c.loop-read.input.items ++ take c.in-Ok.count b) (c.deref.ensures.value ∙ written_back c.loop-read.buffer.len c.read.new.into c.loop-read.buffer.items (omega (arith, c.read.auto.into, c.deref_mut.ensures.len))));
}
