use Rattle.std.proofs.Common.{◌≡◌, ℕ, [], ◌∷◌, sym, subst, arith, inl, inr}
use Rattle.guac_framing.specs.declared.character.Due.{Due}
use Rattle.guac_framing.specs.Begun.{Begins}
use Rattle.guac_framing.proofs.Begins.{lead_ascii, lead_two}
use Rattle.guac_framing.proofs.Leads.{lead_none}
use Rattle.guac_framing.proofs.Seconds.{three_short, three_surrogate, three_other, four_short, four_last, four_other}
use Rattle.guac_framing.proofs.character.due_after.Goals as goal

begins_as : (lead n least most : ℕ) (d : Due) → d ≡ record { bytes = n; least = least; most = most } → Begins (lead ∷ []) n least most → Begins (lead ∷ []) d.bytes d.least d.most
begins_as lead n least most d is k = subst (λ (e : Due). Begins (lead ∷ []) e.bytes e.least e.most) (sym is) k

pub returns-in-0-to-127-clause-some : goal.returns-in-0-to-127-clause-some
returns-in-0-to-127-clause-some c = begins_as c.args.lead _ _ _ c.new-in-0-to-127.result c.new-in-0-to-127.ensures (lead_ascii c.args.lead (omega arith))

pub returns-in-194-to-223-clause-some : goal.returns-in-194-to-223-clause-some
returns-in-194-to-223-clause-some c = begins_as c.args.lead _ _ _ c.new-in-194-to-223.result c.new-in-194-to-223.ensures (lead_two c.args.lead (omega arith) (omega arith))

pub returns-in-224-clause-some : goal.returns-in-224-clause-some
returns-in-224-clause-some c = begins_as c.args.lead _ _ _ c.new.result c.new.ensures (three_short c.args.lead c.in-224.is)

pub returns-in-237-clause-some : goal.returns-in-237-clause-some
returns-in-237-clause-some c = begins_as c.args.lead _ _ _ c.new-in-237.result c.new-in-237.ensures (three_surrogate c.args.lead c.in-237.is)

pub returns-in-225-to-239-clause-some : goal.returns-in-225-to-239-clause-some
returns-in-225-to-239-clause-some c = begins_as c.args.lead _ _ _ c.new-in-225-to-239.result c.new-in-225-to-239.ensures (three_other c.args.lead (omega arith) (omega arith) (omega arith) (omega arith))

pub returns-in-240-clause-some : goal.returns-in-240-clause-some
returns-in-240-clause-some c = begins_as c.args.lead _ _ _ c.new-in-240.result c.new-in-240.ensures (four_short c.args.lead c.in-240.is)

pub returns-in-241-to-243-clause-some : goal.returns-in-241-to-243-clause-some
returns-in-241-to-243-clause-some c = begins_as c.args.lead _ _ _ c.new-in-241-to-243.result c.new-in-241-to-243.ensures (four_other c.args.lead (omega arith) (omega arith) (omega arith) (omega arith))

pub returns-in-244-clause-some : goal.returns-in-244-clause-some
returns-in-244-clause-some c = begins_as c.args.lead _ _ _ c.new-in-244.result c.new-in-244.ensures (four_last c.args.lead c.in-244.is)

pub returns-in_default-clause-none : goal.returns-in_default-clause-none
returns-in_default-clause-none c = lead_none c.args.lead (omega arith) (inl (omega arith))

pub returns-in_default-2-clause-none : goal.returns-in_default-2-clause-none
returns-in_default-2-clause-none c = lead_none c.args.lead (omega arith) (inr (omega arith))
