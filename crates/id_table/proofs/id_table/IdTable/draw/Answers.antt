use Rattle.std.proofs.Common.{rules, arith, ◌≡◌, ◌∙◌}
use Rattle.std.specs.Prelude.{IsSome}
use Rattle.id_table.specs.Tables.{held}
use Rattle.id_table.proofs.Drawing.{drew_nth, first_absent, gone_more, next_more, there_more}
use Rattle.id_table.proofs.id_table.IdTable.draw.Goals as goal

pub returns-then-is_none-clause-first : goal.returns-then-is_none-clause-first
returns-then-is_none-clause-first g c =
    let inv = c.loop-n.invariant in
    let absent : held c.args.self.now c.into_uuid-id.result ≡ _ = search rules in
    first_absent (held c.args.self.now) (g.D.Counted.helper c.args.dice.now).draws c.loop-n.n c.loop-n.drawn c.into_uuid-id.result (omega arith) inv.there inv.next
    (drew_nth _ _ _ _ _ _ (c.into_uuid-id.ensures ∙ c.from_random_bytes.ensures.value) inv.gone c.bytes.ensures.drawn)
    absent

pub loop-n-preserved : goal.loop-n-preserved
loop-n-preserved g c =
    let inv = c.loop-n.invariant in
    let is = drew_nth _ _ _ _ _ _ (c.into_uuid-id.ensures ∙ c.from_random_bytes.ensures.value) inv.gone c.bytes.ensures.drawn in
    let there : IsSome (held c.args.self.now c.into_uuid-id.result) = search rules in
    record {
      there = there_more (held c.args.self.now) _ _ _ (omega arith) inv.there there;
      gone = gone_more _ _ _ _ _ inv.gone c.bytes.ensures.drawn;
      next = next_more _ _ _ _ (omega arith) inv.next is;
      counts = record { dials = c.bytes.ensures.counts.dials ∙ inv.counts.dials; starts = c.bytes.ensures.counts.starts ∙ inv.counts.starts };
    }
