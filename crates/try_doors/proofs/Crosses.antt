-- A session and its host may go to another thread.
use denote.Param.Send.{IsSend}
use denote.Param.SendFields.{declared_send}
use Rattle.shared_desk.proofs.Crosses.{host_send, link_send, sender_send}
use Rattle.try_doors.specs.contracts.session.Session as session

pub session_send : IsSend session.the_row
session_send = declared_send session.the_type (host_send, (link_send, (sender_send, tt)))
