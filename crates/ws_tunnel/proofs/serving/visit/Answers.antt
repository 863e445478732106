use Rattle.std.proofs.Common.{◌≡◌, ℕ, subst, ◌∙◌}
use Rattle.gate_model.specs.session.Delivered.{delivered}
use Rattle.ws_tunnel.specs.Runs.{Leaves}
use Rattle.ws_tunnel.proofs.Ending.{messages_ran}
use Rattle.ws_tunnel.proofs.serving.visit.Goals as goal

pub returns-clause-ran : goal.returns-clause-ran
returns-clause-ran g c =
    let viewer = c.args.reader.now.viewer in
    let s = c.serve-end.ensures.ran in
    let e : c.serve-end.new.reader.viewer ≡ viewer = c.serve-end.ensures.stays.0.viewer in
    let ew : c.serve-end.new.writer.viewer ≡ viewer = c.serve-end.ensures.stays.1.viewer ∙ c.requires.one.viewer in
    let k = s.4 in (
      s.0,
      s.1,
      s.2,
      s.3,
      (
        k.0,
        k.1,
        messages_ran viewer _ c.serve-end.new.reader.view c.serve-end.new.writer.view c.leave_at.new.writer.view _ _ _ _ _ _ c.serve-end.result k.2
            (subst (λ (n : ℕ). Leaves c.serve-end.result n c.serve-end.new.writer.view c.leave_at.new.writer.view) ew c.leave_at.ensures.leaves)
            c.meet.ensures.met
            c.meet.ensures.own
            (subst (λ (n : ℕ). delivered c.meet.new.reader.view.seen n ≡ delivered c.serve-end.new.reader.view.seen n) e c.meet.ensures.delivered)
            c.history_is_sound.ensures.sound
            c.requires.start.some,
      ),
    )
