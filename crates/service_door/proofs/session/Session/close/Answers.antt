use Rattle.std.proofs.Common.{◌∙◌, ap, rules}
use Rattle.service_door.specs.Sessions.{SessionState}
use Rattle.service_door.proofs.Stopping.{close_at, close_later, close_shuts}
use Rattle.service_door.proofs.session.Session.close.Goals as goal

pub returns : goal.returns
returns g c =
    let called = close_at _ _ _ c.args.cause c.close-closed.result (ap (λ (s : SessionState). s.host.view) c.self.view_is) c.close-closed.ensures.called in
    record {
      goes_on = record {
        session = c.close-closed.ensures.stays.session ∙ ap (λ (s : SessionState). s.host.session) c.self.view_is;
        seen = close_later _ _ c.args.cause c.close-closed.result called;
      };
      called = called;
      shut = close_shuts _ _ c.args.cause c.close-closed.result c.close-closed.ensures.called;
      places = search rules;
    }
