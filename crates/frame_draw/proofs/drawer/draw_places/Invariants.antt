use Rattle.frame_draw.proofs.Walking.{IsGoing}
use Rattle.frame_draw.proofs.drawer.draw_places.Given as goal

abbrev pub invariant-loop-place : goal.invariant-loop-place
invariant-loop-place l = IsGoing l.now l.wanted l.fn.list.items l.fn.cache.keys l.place l.at l.recent l.list.items l.cache.keys
