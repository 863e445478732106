-- A session and its jobs may go to other threads.
use denote.RattleType.{RattleType}
use denote.Hole.{as_row}
use denote.Struct.Field.{row_field}
use denote.Param.Send.{IsSend, IsSync, sendable, view_send}
use denote.Param.SendFields.{as_row_send, declared_send, declared_sync}
use Rattle.std.proofs.Crossing.{Arc-send, crosses}
use Rattle.gate_model.specs.contracts.bytes.Bytes as bytes
use Rattle.shared_desk.proofs.Crosses.{host_send, link_send, place_send, sender_send}
use Rattle.service_door.specs.contracts.jobs.PumpJob as pump
use Rattle.service_door.specs.contracts.jobs.SenderJob as sender
use Rattle.service_door.specs.contracts.marks.Flags as flags
use Rattle.service_door.specs.contracts.marks.SharedMarks as shared_marks
use Rattle.service_door.specs.contracts.recorder.RecorderJob as recorder
use Rattle.service_door.specs.contracts.session.Session as session
use Rattle.service_door.specs.contracts.session.Session.TheInside as whole_session

-- a field of a type of the caller's
pub field_send : (R : RattleType) → IsSend R → IsSend (as_row (row_field R))
field_send R r = as_row_send (row_field R) r

flags_send : IsSend flags.the_row
flags_send = search (sendable, crosses) depth 20

flags_sync : IsSync flags.the_row
flags_sync = declared_sync flags.the_type (search (sendable, crosses), (search (sendable, crosses), (search (sendable, crosses), (search (sendable, crosses), (search (sendable, crosses), (search (sendable, crosses), (search (sendable, crosses) depth 20, tt)))))))

shared_marks_send : IsSend shared_marks.the_row
shared_marks_send = declared_send shared_marks.the_type (Arc-send flags.the_row flags_send flags_sync, tt)

whole_session_send : IsSend whole_session.the_row
whole_session_send = declared_send whole_session.the_type (host_send, (search sendable, (shared_marks_send, tt)))

pub session_send : IsSend session.the_row
session_send = view_send whole_session.the_row _ _ _ _ whole_session_send

pub pump_send : (S C B : RattleType) → IsSend S → IsSend C → IsSend B → IsSend (pump.the_row S C B)
pump_send S C B s c b =
    declared_send (pump.the_type S C B) (search (sendable, crosses), (link_send, (field_send S s, (field_send C c, (field_send B b, (shared_marks_send, tt))))))

pub sending_send : (K B : RattleType) → IsSend K → IsSend B → IsSend (sender.the_row K B)
sending_send K B k b = declared_send (sender.the_type K B) (sender_send, (field_send K k, (field_send B b, (shared_marks_send, tt))))

bytes_send : IsSend bytes.the_row
bytes_send = search (sendable, crosses) depth 30

pub recorder_send : (K B : RattleType) → IsSend K → IsSend B → IsSend (recorder.the_row K B)
recorder_send K B k b = declared_send (recorder.the_type K B) (search (sendable, crosses), (place_send, (bytes_send, (field_send K k, (field_send B b, (shared_marks_send, tt))))))
