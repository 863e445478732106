use Rattle.std.proofs.Common.{rules, ◌≡◌, ℕ, Bool, true, false, if◌then◌else◌, subst}
use Rattle.frame_draw.specs.Leads.{AreFlags}
use mir.Val.{bool_byte}
use Rattle.frame_draw.proofs.Leading.{flagging_more, flagging_none}
use Rattle.frame_draw.proofs.wanted.flags_of_each.Goals as goal

pub loop-place-init : goal.loop-place-init
loop-place-init c = flagging_none c.args.cols c.args.total c.args.wanted c.in_ok-flags.flags.items c.in_ok-flags.ensures.items

as_number : (b : Bool) (n : ℕ) → n ≡ bool_byte b → n ≡ (if b then 1 else 0)
as_number true n e = e
as_number false n e = e

pub loop-place-preserved : goal.loop-place-preserved
loop-place-preserved c =
    flagging_more c.args.cols c.args.total c.args.wanted c.loop-place.place c.loop-place.at c.from-at.result c.loop-place.flags.items c.push.new.self.items c.is_next-on.result
    c.loop-place-test.true c.is_next-on.ensures c.in_ok-push.ensures.items (as_number c.is_next-on.result c.from-at.result c.from-at.ensures) c.loop-place.invariant

pub returns-clause-told : goal.returns-clause-told
returns-clause-told c = λ copies left. let e : c.loop-place.place ≡ c.args.total = search rules in subst (λ (n : ℕ). AreFlags c.loop-place.flags.items n copies) e (c.loop-place.invariant.told copies left).1
