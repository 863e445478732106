use Rattle.std.proofs.Common.{Bool, subst}
use Rattle.share_links.specs.Links.{Spends, links_of}
use Rattle.share_links.proofs.Counting.{spent_after}
use Rattle.try_links.proofs.histories.back.Goals as goal

-- a use that was taken can be given back
pub give_back-requires : goal.give_back-requires
give_back-requires c =
    let h = subst (λ (given : Bool). Spends c.args.link.now given (links_of c.args.links.now) (links_of c.take_use-given.new.self)) c.if-given.true c.take_use-given.ensures in
    spent_after c.args.link.now (links_of c.args.links.now) (links_of c.take_use-given.new.self) h.0 h.1
