use Rattle.std.proofs.Common.{ap, refl}
use Rattle.std.specs.Prelude.{Option, Err}
use Rattle.std.specs.Option.{option_map}
use Rattle.gate_model.specs.declared.answer.Answer.TheVariants.{Join as joined_as}
use Rattle.gate_model.specs.declared.join_refusal.JoinRefusal.{JoinRefusal}
use Rattle.desk_core.proofs.Answering.{join_stops}
use Rattle.desk_core.proofs.desk.Desk.refuse.Goals as goal

-- nothing else refuses it
pub returns-in-Ok : goal.returns-in-Ok
returns-in-Ok c = λ h text stood.
    let admits = c.in-Ok.ensures h stood in
    record { unstopped = ap (λ (o : Option JoinRefusal). option_map (λ r. joined_as (Err r)) o) admits.0; desk = refl; buffer = refl }

pub returns-in-Err : goal.returns-in-Err
returns-in-Err c = λ h text stood. join_stops c.args.self.now h c.args.asked c.in-Err.refusal text stood (c.in-Err.ensures h stood)
