use Rattle.std.proofs.Common.{◌≡◌, [], ap, subst, sym, ◌∙◌}
use Rattle.std.specs.Prelude.{Result, Err, IfErr}
use Rattle.std.proofs.lemmas.Result.{err_from_is_err_and}
use Rattle.gate_outside.specs.Edge.{Rose}
use Rattle.gate_outside.proofs.Moved.{came-none}
use Rattle.gate_script.specs.PlayOutcomes.{IsUnread}
use Rattle.gate_script.specs.declared.stop.Stop.{Stop}
use Rattle.gate_script.specs.declared.stop.Stop.TheVariants.{NoMemory}
use Rattle.gate_script.proofs.play.read_all.Goals as goal

pub returns-in_err-piece-clause-unread : goal.returns-in_err-piece-clause-unread
returns-in_err-piece-clause-unread g c =
    let p = err_from_is_err_and c.from_residual.result c.from_residual.ensures.1 in
    let e : c.from_residual.result ≡ Err NoMemory = p.1 ∙ ap (λ (s : Stop). Err s) p.2 in
    let left = g.S.Source.left c.args.source.now in
    let faults = g.S.Source.faults c.args.source.now in
    subst (λ (r : Result _ Stop). IfErr r (IsUnread left left (Rose faults faults))) (sym e) ([], sym (came-none left), tt)
