use Rattle.std.proofs.Common.{◌∙◌, sym, ap}
use Rattle.std.specs.Prelude.{Ok, Err}
use Rattle.gate_model.specs.text.Text.{texts}
use Rattle.http_tunnel.specs.Reads.{look_of}
use Rattle.http_tunnel.proofs.Looks.{looked_as}
use Rattle.http_tunnel.proofs.reading.look.Goals as goal

pub returns-in-Ok-clause-looked : goal.returns-in-Ok-clause-looked
returns-in-Ok-clause-looked g c =
    let r = c.read in
    let d = r.ensures.delivered in
    (texts d.0, d.2, looked_as c.args.pass.now.view r.new.self.view c.args.pass.now.viewer d.0 d.1 r.result c.args.into.now.items r.new.into.items r.ensures.gives d.2 (Ok c.end_of.result) (ap look_of c.in-Ok.is ∙ ap Ok (sym c.end_of.ensures)))

pub returns-in-Err-clause-looked : goal.returns-in-Err-clause-looked
returns-in-Err-clause-looked g c =
    let r = c.read in
    let d = r.ensures.delivered in
    (texts d.0, d.2, looked_as c.args.pass.now.view r.new.self.view c.args.pass.now.viewer d.0 d.1 r.result c.args.into.now.items r.new.into.items r.ensures.gives d.2 (Err c.from.result) (ap look_of c.in-Err.is ∙ ap Err (sym c.from.ensures)))
