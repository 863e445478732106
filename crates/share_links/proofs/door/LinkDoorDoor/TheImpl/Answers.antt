use Rattle.std.proofs.Common.{refl}
use Rattle.share_links.proofs.door.LinkDoorDoor.TheImpl.Goals as goal

-- what the inner door tells before and after, it tells on, but for its sessions and what it was asked
pub known-tells : goal.known-tells
known-tells g c =
    let l = c.ensures.looks in
    record { known = tt; looks = record { sessions = tt; out = l.out; asked = refl; helper = l.helper } }

pub give-tells : goal.give-tells
give-tells g c =
    let l = c.ensures.gives.gives in
    record { gives = record { ids = tt; out = l.out; asked = refl; helper = l.helper } }
