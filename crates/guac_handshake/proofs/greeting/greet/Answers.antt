use Rattle.guac_handshake.proofs.Endings.{with_rest}
use Rattle.guac_handshake.proofs.Telling.{caused}
use Rattle.guac_handshake.proofs.greeting.greet.Goals as goal

pub returns-clause-greeting : goal.returns-clause-greeting
returns-clause-greeting g c = with_rest _ _ _ _ _ _ _ _ _ _ _ c.into_vec.ensures c.converse-greeted.ensures.greeting

pub returns-clause-refused : goal.returns-clause-refused
returns-clause-refused g c =
    let k = c.converse-greeted.ensures in
    caused _ _ _ _ _ _ _ _ _ _ k.greeting k.faults.dials.0 k.faults.starts.0
