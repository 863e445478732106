use Rattle.std.proofs.Common.{◌≡◌, sym, subst}
use Rattle.script_grammar.specs.declared.line.Line.{Line}
use Rattle.gate_script.specs.declared.sight.Sight.{Sight}
use Rattle.gate_script.specs.Calls.{IsAt, MaySee}
use Rattle.gate_script.proofs.SessionLaws.{pixel_seen, same_seen, totals_seen}
use Rattle.gate_script.proofs.session.Session.call.Goals as goal

pub returns-in-Pixel-clause-step : goal.returns-in-Pixel-clause-step
returns-in-Pixel-clause-step c = λ h at.
    let is = pixel_seen c.args.sight c.in-Pixel.viewer c.in-Pixel.x c.in-Pixel.y (subst (λ (l : Line). MaySee c.args.sight l) c.in-Pixel.is c.requires.sees) in
    rw (c.in-Pixel.is, is) (c.pixel.ensures h c.args.now (subst (λ (s : Sight). IsAt s c.args.self.now h) is at))

pub returns-in-Same-clause-step : goal.returns-in-Same-clause-step
returns-in-Same-clause-step c = λ h at.
    let is = same_seen c.args.sight c.in-Same.one c.in-Same.other (subst (λ (l : Line). MaySee c.args.sight l) c.in-Same.is c.requires.sees) in
    rw (c.in-Same.is, is) (c.same.ensures h c.args.now (subst (λ (s : Sight). IsAt s c.args.self.now h) is at))

pub returns-in-Totals-clause-step : goal.returns-in-Totals-clause-step
returns-in-Totals-clause-step c = λ h at.
    let is = totals_seen c.args.sight c.in-Totals.totals (subst (λ (l : Line). MaySee c.args.sight l) c.in-Totals.is c.requires.sees) in
    rw (c.in-Totals.is, is) (c.totals.ensures h c.args.now (subst (λ (s : Sight). IsAt s c.args.self.now h) is at))
