use Rattle.std.proofs.Common.{ℕ, List, refl, sym, subst}
use Rattle.ws_tunnel.specs.Runs.{IsStart}
use Rattle.ws_tunnel.specs.Served.{HasVisited}
use Rattle.ws_tunnel.proofs.Starting.{started}
use Rattle.ws_tunnel.proofs.serving.admit.Goals as goal

pub visit-end-requires : goal.visit-end-requires
visit-end-requires g c = record { one = record { session = sym c.requires.fresh.session; viewer = sym c.requires.fresh.viewer }; start = subst (λ (bs : List ℕ). IsStart c.args.welcome.place.reader.viewer c.args.welcome.place.reader.view c.args.welcome.place.writer.view bs) (sym c.as_slice.ensures) (started c.args.welcome.place c.args.welcome.first c.requires.fresh) }

pub returns-clause-ran : goal.returns-clause-ran
returns-clause-ran g c =
    let s = c.visit-end.ensures.ran in
    let e = c.visit-end.ensures in (
      s.0,
      s.1,
      s.2,
      s.3,
      record {
        id_is = refl;
        place_is = record { fresh = c.requires.fresh; stays = e.stays; role = refl; later = s.4.2.later };
        ran = subst (λ (bs : List ℕ). HasVisited c.args.welcome.place.reader.viewer c.args.welcome.place.reader.view.seen c.args.welcome.id bs c.visit-end.new.reader.view c.visit-end.new.writer.view (g.M.Messages.left c.visit-end.new.link) s.0 s.1 c.visit-end.result) c.as_slice.ensures s.4;
      },
    )
