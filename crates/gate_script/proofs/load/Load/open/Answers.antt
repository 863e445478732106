use Rattle.std.proofs.Common.{◌≡◌, ◌∷◌, [], ap, refl, sym, ◌∙◌, subst}
use Rattle.std.specs.Prelude.{Result, Err}
use Rattle.std.proofs.lemmas.Result.{err_from_is_err_and}
use Rattle.gate_model.specs.declared.sharing.Asked.TheVariants.{Owner}
use Rattle.gate_model.specs.declared.sharing.Share.TheVariants.{View}
use Rattle.gate_model.specs.Limits.{most_entries}
use Rattle.script_grammar.specs.declared.line.Line.TheVariants.{Join, Start}
use Rattle.script_grammar.specs.declared.order.Order.TheVariants.{Untold}
use Rattle.script_load.specs.Rounds.{load_begins}
use Rattle.gate_script.specs.declared.stop.Stop.{Stop}
use Rattle.gate_script.specs.Loading.{LoadEnds}
use Rattle.gate_script.specs.Sinks.{held}
use Rattle.gate_script.proofs.LoadLaws.{stopped_more}
use Rattle.gate_script.proofs.load.Load.open.Goals as goal

pub returns-in_err-line-clause-step : goal.returns-in_err-line-clause-step
returns-in_err-line-clause-step g c = λ began w.
    let p = err_from_is_err_and c.from_residual.result c.from_residual.ensures.1 in
    let stop = c.in_err-line.field-0.0 in
    let e : c.from_residual.result ≡ Err stop = p.1 ∙ ap (λ (s : Stop). Err s) p.2 in
    let n = held (g.A.Sink.written c.line.new.answers) (g.A.Sink.faults c.line.new.answers) (g.F.Sink.written c.line.new.frames) (g.F.Sink.faults c.line.new.frames) in
    subst (λ (x : Result (Unit {0}) Stop). LoadEnds load_begins x c.line.new.self began n) (sym e)
    (stopped_more (Untold (Start record { cols = 80; rows = 24 } View most_entries) ∷ []) load_begins stop began n (Untold (Join Owner) ∷ [], refl) (c.in_err-line.ensures.step [] began w))
