use Rattle.std.proofs.Common.{refl, subst}
use Rattle.guac_handshake.specs.Doors.{Grants}
use Rattle.id_table.specs.Maps.{Same}
use Rattle.http_tunnel.specs.Routes.{IsAsked}
use Rattle.http_tunnel.proofs.Connecting.{counted_none}
use Rattle.http_tunnel.proofs.Responses.{asked_busy, asked_dial, given_helper, not_busy, not_dial, served_as, written_kind}
use Rattle.http_tunnel.proofs.Shelves.{same_refl, told_none}
use Rattle.http_tunnel.proofs.answering.serve.Goals as goal

pub returns-in-Connect-clause-served : goal.returns-in-Connect-clause-served
returns-in-Connect-clause-served g c = served_as _ (Grants (g.D.Door.begun c.connect.new.door) (g.D.Door.joined c.connect.new.door)) _ _ _ _ _ _ _ _ _ c.in-Connect.is c.connect.ensures.connected

pub returns-in-Read-clause-served : goal.returns-in-Read-clause-served
returns-in-Read-clause-served g c = served_as _ (Grants (g.D.Door.begun c.read.new.door) (g.D.Door.joined c.read.new.door)) _ _ _ _ _ _ _ _ _ c.in-Read.is c.read.ensures.read

pub returns-in-Write-clause-served : goal.returns-in-Write-clause-served
returns-in-Write-clause-served g c =
    let k = c.write.ensures.wrote in
    served_as _ (Grants (g.D.Door.begun c.write.new.door) (g.D.Door.joined c.write.new.door)) _ _ _ _ _ _ _ _ _ c.in-Write.is (k.0, c.write.result, c.without_body.ensures, k.1, k.2)

pub returns-in-Refused-clause-served : goal.returns-in-Refused-clause-served
returns-in-Refused-clause-served g c = served_as _ (Grants (g.D.Door.begun c.args.door.now) (g.D.Door.joined c.args.door.now)) _ _ _ _ _ _ _ _ _ c.in-Refused.is (refl, refl, told_none Same _ _ refl same_refl)

pub returns-in-Read-clause-faults : goal.returns-in-Read-clause-faults
returns-in-Read-clause-faults g c = let k = c.read.ensures in counted_none _ _ (given_helper _ _ k.read.0 _ _ k.read.1) (λ e. not_dial _ _ k.kind e) (λ e. not_busy _ _ k.kind e)

pub returns-in-Write-clause-faults : goal.returns-in-Write-clause-faults
returns-in-Write-clause-faults g c =
    let k = c.write.ensures in
    let kind = written_kind c.write.result c.without_body.result c.without_body.ensures k.kind in
    counted_none _ _ (given_helper _ _ k.wrote.0 _ _ k.wrote.1) (λ e. not_dial _ _ kind e) (λ e. not_busy _ _ kind e)

pub returns-in-Refused-clause-faults : goal.returns-in-Refused-clause-faults
returns-in-Refused-clause-faults g c = let asked = subst IsAsked c.in-Refused.is c.requires.route in counted_none _ _ refl (λ e. asked_dial _ _ asked e) (λ e. asked_busy _ _ asked e)
