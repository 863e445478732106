use Rattle.std.proofs.Common.{refl, ap, ◌∙◌}
use Rattle.gate_model.specs.terminal.Terminal.{Terminal}
use Rattle.desk_core.proofs.Hearing.{recounted}
use Rattle.desk_core.proofs.host.Host.recounted.Goals as goal

pub returns : goal.returns
returns c = λ n t before h. recounted c.args.self.now _ t n before refl refl refl (c.clear_shift.ensures ∙ ap (λ (t : Terminal). record t { shift = 0 }) c.in_ok-screen.ensures) h
