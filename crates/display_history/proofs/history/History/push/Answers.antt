use Rattle.std.proofs.Common.{◌∷◌, ◌++◌, [], subst, arith}
use Rattle.display_history.specs.Keeping.{IsHistory}
use Rattle.display_history.proofs.Stands.{kept_few, pushed, state}
use Rattle.display_history.proofs.history.History.push.Goals as goal

pub push-requires : goal.push-requires
push-requires c =
    let few = kept_few (state c.self.inside.frames c.self.inside.gone) c.self.invariant.0 c.self.invariant.1 in
    omega (arith, few.1, c.args.text.small, c.args.text.ok.0)

pub returns-clause-pushed : goal.returns-clause-pushed
returns-clause-pushed c =
    pushed c.args.self.now c.args.stamp c.args.text.items c.loop-self.self-inside.frames c.close_up.new.self c.loop-self.self-inside.gone c.loop-self.invariant
    (omega (arith, c.len.ensures, c.if-len-gt-MOST_KEPT_FRAMES.false))
    (omega (arith, c.bytes.ensures, c.if-bytes-gt-MOST_KEPT_TEXT.false))
    c.close_up.ensures c.requires

pub invariant_of-self-2 : goal.invariant_of-self-2
invariant_of-self-2 c =
    let old : IsHistory c.args.self.now = subst IsHistory c.self.view_is c.self.invariant in (
      old.0 ++ (c.args.stamp, c.args.text.items) ∷ [],
      pushed c.args.self.now c.args.stamp c.args.text.items c.loop-self.self-inside.frames c.close_up.new.self c.loop-self.self-inside.gone c.loop-self.invariant
          (omega (arith, c.len.ensures, c.if-len-gt-MOST_KEPT_FRAMES.false))
          (omega (arith, c.bytes.ensures, c.if-bytes-gt-MOST_KEPT_TEXT.false))
          c.close_up.ensures c.requires old.0 old.1,
    )
