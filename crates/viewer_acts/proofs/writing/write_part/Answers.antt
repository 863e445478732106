use Rattle.std.proofs.Common.{ℕ, drop, take, subst, sym, ◌∙◌, ap}
use Rattle.std.specs.Prelude.{Result, Err}
use Rattle.std.proofs.lemmas.Result.{err_from_is_err_and}
use Rattle.gate_model.specs.declared.write_refusal.WriteRefusal.{WriteRefusal}
use Rattle.viewer_acts.specs.Parts.{Others, Sized, parts_of}
use Rattle.viewer_acts.specs.Doing.{WritesPart}
use Rattle.viewer_acts.proofs.Cuts.{run_part, size_part}
use Rattle.viewer_acts.proofs.writing.write_part.Goals as goal

pub returns-in_err-resize-in-Some-clause-part : goal.returns-in_err-resize-in-Some-clause-part
returns-in_err-resize-in-Some-clause-part g c =
    let p = err_from_is_err_and c.from_residual.result c.from_residual.ensures.1 in
    let acts = c.args.acts.now in
    subst (λ (r : Result ℕ WriteRefusal). WritesPart c.args.pass.now.viewer c.args.pass.now.view c.resize.new.pass.view acts r) (sym (p.1 ∙ ap (λ (r : WriteRefusal). Err r) p.2))
    (Sized c.in-Some.size, parts_of (drop 1 acts), size_part acts _ c.size_in.result c.in-Some.size c.requires.some c.size_in.ensures c.in-Some.is, c.in_err-resize-in-Some.ensures.sized)

pub returns-in_ok-resize-in-Some-clause-part : goal.returns-in_ok-resize-in-Some-clause-part
returns-in_ok-resize-in-Some-clause-part g c = (Sized c.in-Some.size, size_part c.args.acts.now _ c.size_in.result c.in-Some.size c.requires.some c.size_in.ensures c.in-Some.is, c.in_ok-resize-in-Some.ensures.sized)

pub returns-in_err-write-in-None-clause-part : goal.returns-in_err-write-in-None-clause-part
returns-in_err-write-in-None-clause-part g c =
    let r = c.from_residual-in_err-write-in-None in
    let p = err_from_is_err_and r.result r.ensures.1 in
    let acts = c.args.acts.now in
    let count = c.run_length-count.result in
    subst (λ (x : Result ℕ WriteRefusal). WritesPart c.args.pass.now.viewer c.args.pass.now.view c.write.new.pass.view acts x) (sym (p.1 ∙ ap (λ (x : WriteRefusal). Err x) p.2))
    (Others (take count acts), parts_of (drop count acts), run_part acts _ c.size_in.result count c.requires.some c.size_in.ensures c.in-None.is c.run_length-count.ensures, c.in_err-write-in-None.ensures.wrote)

pub returns-in_ok-write-in-None-clause-part : goal.returns-in_ok-write-in-None-clause-part
returns-in_ok-write-in-None-clause-part g c =
    let acts = c.args.acts.now in
    let count = c.run_length-count.result in
    (Others (take count acts), run_part acts _ c.size_in.result count c.requires.some c.size_in.ensures c.in-None.is c.run_length-count.ensures, c.in_ok-write-in-None.ensures.wrote)
