use Rattle.std.proofs.Common.{refl, rules}
use Rattle.guac_handshake.specs.Doors.{Grants}
use Rattle.guac_handshake.specs.Views.{MayRefuse, Names}
use Rattle.guac_handshake.proofs.Askable.{wanted}
use Rattle.guac_handshake.proofs.Endings.{greeted_ended, greeted_ok, greeted_refused, greeted_short, greeted_unread, greeted_unwritten}
use Rattle.guac_handshake.proofs.Causes.{error_fresh, error_read, not_early, served_read, told_status}
use Rattle.guac_handshake.proofs.Refusing.{may_before, names_before, served_as}
use Rattle.guac_handshake.proofs.Touching.{touched_behind, touched_early, touched_none}
use Rattle.guac_handshake.proofs.greeting.converse.Goals as goal

pub serve-requires-clause-may : goal.serve-requires-clause-may
serve-requires-clause-may g c = let asked = c.in-Ok.ensures.request in search (rules, wanted asked.known asked.instructions c.in-Ok.request asked.answers)

pub returns-in-Ok-clause-greeting : goal.returns-in-Ok-clause-greeting
returns-in-Ok-clause-greeting g c = greeted_ok g.D.Door.id_of _ _ _ _ _ _ _ _ _ _ _ c.requires c.read_request.ensures.looks.asked c.in-Ok.request _ c.in-Ok.ensures.request
    (served_as (MayRefuse g.D.Door.id_of (g.D.Door.view c.read_request.new.door) (g.D.Door.view c.serve.new.door)) (MayRefuse g.D.Door.id_of (g.D.Door.view c.args.door.now) (g.D.Door.view c.serve.new.door)) (Names g.D.Door.id_of (g.D.Door.view c.read_request.new.door) (g.D.Door.view c.serve.new.door)) (Names g.D.Door.id_of (g.D.Door.view c.args.door.now) (g.D.Door.view c.serve.new.door)) (Grants (g.D.Door.begun c.serve.new.door) (g.D.Door.joined c.serve.new.door)) _ _ _ _ _ _ (may_before g.D.Door.id_of (g.D.Door.view c.args.door.now) (g.D.Door.view c.read_request.new.door) (g.D.Door.view c.serve.new.door) c.read_request.ensures.looks) (names_before g.D.Door.id_of (g.D.Door.view c.args.door.now) (g.D.Door.view c.read_request.new.door) (g.D.Door.view c.serve.new.door) c.read_request.ensures.looks) c.serve.ensures.served)

pub returns-in-Err-Refused-clause-greeting : goal.returns-in-Err-Refused-clause-greeting
returns-in-Err-Refused-clause-greeting g c = greeted_refused g.D.Door.id_of _ _ _ _ _ _ _ _ _ _ _ c.requires c.read_request.ensures.looks.asked _ _ _ c.read_request.ensures.looks.sessions refl c.in-Err-Refused.ensures.request c.in-Err-Refused.field-0-is c.refuse.ensures.told

pub returns-in-Err-Ended-clause-greeting : goal.returns-in-Err-Ended-clause-greeting
returns-in-Err-Ended-clause-greeting g c = greeted_ended g.D.Door.id_of _ _ _ _ _ _ _ _ _ _ _ c.requires c.read_request.ensures.looks.asked c.read_request.ensures.looks.sessions refl refl _ c.in-Err-Ended.ensures.request c.in-Err-Ended.field-0-is

pub returns-in-Err-ReadFault-clause-greeting : goal.returns-in-Err-ReadFault-clause-greeting
returns-in-Err-ReadFault-clause-greeting g c = greeted_unread g.D.Door.id_of _ _ _ _ _ _ _ _ _ _ _ c.requires c.read_request.ensures.looks.asked c.read_request.ensures.looks.sessions refl refl _ c.in-Err-ReadFault.ensures.request c.in-Err-ReadFault.field-0-is

pub returns-in-Err-WriteFault-clause-greeting : goal.returns-in-Err-WriteFault-clause-greeting
returns-in-Err-WriteFault-clause-greeting g c = greeted_unwritten g.D.Door.id_of _ _ _ _ _ _ _ _ _ _ _ c.requires c.read_request.ensures.looks.asked c.read_request.ensures.looks.sessions refl refl _ c.in-Err-WriteFault.ensures.request c.in-Err-WriteFault.field-0-is

pub returns-in-Err-NoMemory-clause-greeting : goal.returns-in-Err-NoMemory-clause-greeting
returns-in-Err-NoMemory-clause-greeting g c = greeted_short g.D.Door.id_of _ _ _ _ _ _ _ _ _ _ _ c.requires c.read_request.ensures.looks.asked c.read_request.ensures.looks.sessions refl refl _ c.in-Err-NoMemory.ensures.request c.in-Err-NoMemory.field-0-is

pub returns-in-Ok-clause-touches : goal.returns-in-Ok-clause-touches
returns-in-Ok-clause-touches g c = record { out = search rules; sessions = touched_behind g.D.Door.id_of _ _ _ _ c.read_request.ensures.looks.sessions c.serve.ensures.touches.sessions }

pub returns-in-Err-Refused-clause-touches : goal.returns-in-Err-Refused-clause-touches
returns-in-Err-Refused-clause-touches g c = record { out = search rules; sessions = touched_early g.D.Door.id_of _ _ _ _ _ _ c.read_request.ensures.looks.sessions c.refuse.ensures.told }

pub returns-in-Err-WriteFault-clause-touches : goal.returns-in-Err-WriteFault-clause-touches
returns-in-Err-WriteFault-clause-touches g c = record { out = c.read_request.ensures.looks.out; sessions = touched_none _ _ c.read_request.ensures.looks.sessions }

pub returns-in-Err-NoMemory-clause-touches : goal.returns-in-Err-NoMemory-clause-touches
returns-in-Err-NoMemory-clause-touches g c = record { out = c.read_request.ensures.looks.out; sessions = touched_none _ _ c.read_request.ensures.looks.sessions }

pub returns-in-Ok-clause-reads : goal.returns-in-Ok-clause-reads
returns-in-Ok-clause-reads g c = (
  λ e. absurd (served_read _ _ (MayRefuse g.D.Door.id_of (g.D.Door.view c.read_request.new.door) (g.D.Door.view c.serve.new.door)) (Names g.D.Door.id_of (g.D.Door.view c.read_request.new.door) (g.D.Door.view c.serve.new.door)) (Grants (g.D.Door.begun c.serve.new.door) (g.D.Door.joined c.serve.new.door)) _ _ _ _ c.serve.ensures.served e),
  c.read_request.ensures.reads.1,
)

pub returns-in-Err-Refused-clause-reads : goal.returns-in-Err-Refused-clause-reads
returns-in-Err-Refused-clause-reads g c = (λ e. absurd (error_read _ _ _ _ c.refuse.ensures.told e), c.read_request.ensures.reads.1)

pub returns-in-Err-Refused-clause-faults : goal.returns-in-Err-Refused-clause-faults
returns-in-Err-Refused-clause-faults g c =
    let early = not_early _ _ _ c.in-Err-Refused.ensures.early c.in-Err-Refused.field-0-is in
    record {
      dials = (λ e. absurd (early.0 (told_status _ _ _ 519 _ c.refuse.ensures.told e)), search rules);
      starts = (λ e. absurd (early.1 (told_status _ _ _ 513 _ c.refuse.ensures.told e)), search rules);
    }

pub returns-in-Err-Refused-clause-fresh : goal.returns-in-Err-Refused-clause-fresh
returns-in-Err-Refused-clause-fresh g c = error_fresh _ _ _ _ _ c.refuse.ensures.told
