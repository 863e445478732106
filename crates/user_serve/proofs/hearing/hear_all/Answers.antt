use Rattle.std.proofs.Common.{◌∙◌, refl, arith}
use Rattle.user_serve.proofs.Heard.{far_last, far_next, far_none}
use Rattle.user_serve.proofs.hearing.hear_all.Goals as goal

pub loop-init : goal.loop-init
loop-init g c = record { stays = record { session = refl; viewer = refl }; within = omega arith; so_far = far_none _ _ _ _; later = omega arith }

pub loop-preserved : goal.loop-preserved
loop-preserved g c = record {
  stays = record { session = c.hear_next.ensures.stays.session ∙ c.loop.invariant.stays.session; viewer = c.hear_next.ensures.stays.viewer ∙ c.loop.invariant.stays.viewer };
  within = c.hear_next.ensures.within;
  so_far = far_next _ _ _ _ _ _ _ _ _ _ c.loop.invariant.so_far _ c.loop.invariant.stays.viewer _ c.in-Ok.ensures.heard;
  later = omega (arith, c.loop.invariant.later, c.hear_next.ensures.faults.1);
}

pub returns-in-Err-clause-stopped : goal.returns-in-Err-clause-stopped
returns-in-Err-clause-stopped g c = far_last _ _ _ _ _ _ _ _ _ _ c.loop.invariant.so_far _ c.loop.invariant.stays.viewer c.in-Err.end _ c.cut.ensures c.in-Err.ensures.heard
