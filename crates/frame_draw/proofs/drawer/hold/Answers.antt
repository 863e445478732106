use Rattle.std.proofs.Common.{rules}
use Rattle.frame_draw.proofs.Holding.{held_again, one_held}
use Rattle.frame_draw.proofs.drawer.hold.Goals as goal

pub returns-then-eq-clause-held : goal.returns-then-eq-clause-held
returns-then-eq-clause-held c =
    held_again c.args.list.now.items c.args.cache.now.keys c.in-Some.held.key c.args.key c.in-Some.held.layer (search rules)
    (one_held c.args.cache.now.keys c.args.recent.now _ _ c.in-Some.held c.requires.recent (search rules) c.in-Some.is)
