use Rattle.vt_screen.proofs.MendedActs.{now_mended}
use Rattle.vt_screen.proofs.screen.Screen.resize.Goals as goal

pub invariant_of-self-2 : goal.invariant_of-self-2
invariant_of-self-2 c = now_mended c.refit.new.self c.mend.new.self c.fits.ensures.full c.mend.ensures
