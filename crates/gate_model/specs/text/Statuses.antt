-- The statuses of the protocol that the gateway tells (the Guacamole manual, "Guacamole protocol reference", status codes),
-- and the one of each refusal (this project's own).
use Rattle.std.specs.Prelude.{ℕ}
use Rattle.gate_model.specs.declared.closed.Closed.{Closed}
use Rattle.gate_model.specs.declared.no_viewer.NoViewer.{NoViewer}
use Rattle.gate_model.specs.declared.feed_refusal.FeedRefusal.{FeedRefusal}
use Rattle.gate_model.specs.declared.feed_refusal.FeedRefusal.TheVariants.{Closed as feed_closed, Worn as feed_worn, NoMemory as feed_no_memory}
use Rattle.gate_model.specs.declared.join_refusal.JoinRefusal.{JoinRefusal}
use Rattle.gate_model.specs.declared.join_refusal.JoinRefusal.TheVariants.{Closed as join_closed, Forbidden as join_forbidden, TooMany as join_too_many, Worn as join_worn, NoMemory as join_no_memory}
use Rattle.gate_model.specs.declared.read_refusal.ReadRefusal.{ReadRefusal}
use Rattle.gate_model.specs.declared.read_refusal.ReadRefusal.TheVariants.{NoViewer as read_no_viewer, Worn as read_worn, NoMemory as read_no_memory}
use Rattle.gate_model.specs.declared.write_refusal.WriteRefusal.{WriteRefusal}
use Rattle.gate_model.specs.declared.write_refusal.WriteRefusal.TheVariants.{NoViewer as write_no_viewer, Closed as write_closed, Worn as write_worn, NoMemory as write_no_memory}

abbrev pub no_memory : ℕ
no_memory = 512

abbrev pub server_busy : ℕ
server_busy = 513

abbrev pub not_found : ℕ
not_found = 516

abbrev pub conflict : ℕ
conflict = 517

abbrev pub upstream_not_found : ℕ
upstream_not_found = 519

abbrev pub session_closed : ℕ
session_closed = 523

abbrev pub bad_request : ℕ
bad_request = 768

abbrev pub forbidden : ℕ
forbidden = 771

abbrev pub too_many : ℕ
too_many = 797

-- ---- of each refusal

abbrev pub feed_status : FeedRefusal → ℕ
feed_status (feed_closed cause) = session_closed
feed_status (feed_worn entries) = session_closed
feed_status feed_no_memory = no_memory

abbrev pub join_status : JoinRefusal → ℕ
join_status (join_closed cause) = session_closed
join_status join_forbidden = forbidden
join_status (join_too_many live joined) = too_many
join_status (join_worn entries) = session_closed
join_status join_no_memory = no_memory

abbrev pub read_status : ReadRefusal → ℕ
read_status read_no_viewer = not_found
read_status (read_worn entries) = session_closed
read_status read_no_memory = no_memory

abbrev pub write_status : WriteRefusal → ℕ
write_status write_no_viewer = not_found
write_status (write_closed cause) = session_closed
write_status (write_worn entries) = session_closed
write_status write_no_memory = no_memory

abbrev pub no_viewer_status : NoViewer → ℕ
no_viewer_status refusal = not_found

abbrev pub closed_status : Closed → ℕ
closed_status refusal = session_closed
