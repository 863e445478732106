-- What the threads call with may go to other threads.
use denote.Param.Send.{IsSend, sendable}
use denote.Param.SendFields.{declared_send, variants_send}
use Rattle.std.proofs.Crossing.{crosses}
use Rattle.shared_desk.proofs.Crosses.{link_send, reader_send}
use Rattle.shared_desk.proofs.Sends.{desk_send}
use Rattle.time_session.specs.contracts.passes.PassHand as by_pass
use Rattle.time_session.specs.contracts.bare.BareHand as bare

pub pass_send : IsSend by_pass.the_row
pass_send = search (link_send, reader_send, sendable, crosses, variants_send) depth 30

pub bare_send : IsSend bare.the_row
bare_send = declared_send bare.the_type (search (desk_send, crosses, sendable) depth 30, (search sendable depth 20, (search (sendable, crosses) depth 20, tt)))
