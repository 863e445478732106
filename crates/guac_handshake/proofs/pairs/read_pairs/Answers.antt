use Rattle.std.proofs.Common.{◌∙◌, ◌++◌, ◌∷◌, [], ℕ, List, All, Err, ap, subst}
use Rattle.std.proofs.lemmas.Result.{err_from_is_err_and}
use Rattle.guac_handshake.specs.Forms.{IsText}
use Rattle.guac_handshake.specs.declared.form_refusal.FormRefusal.{FormRefusal}
use Rattle.guac_handshake.proofs.PairLaws.{done, stopped, step}
use Rattle.guac_handshake.proofs.pairs.read_pairs.Goals as goal

pub loop-name-preserved : goal.loop-name-preserved
loop-name-preserved c =
    let one = c.in_ok-pair.ensures in (
      tt,
      tt,
      step c.args.body.now c.in-Some.name.now c.in-Some.value.now _ _ _ _ c.loop-name.invariant.2 c.in-Some.ensures.steps
          (c.in_ok-push_pair.ensures ∙ ap (λ (pair : List ℕ × List ℕ). c.loop-name.pairs.items ++ pair ∷ []) one.pair) (subst IsText one.pair one.text),
    )

pub returns-clause-texts : goal.returns-clause-texts
returns-clause-texts c =
    let goes = c.loop-name.invariant.2 in
    subst (λ (pairs : List (List ℕ × List ℕ)). All IsText pairs) (done _ _ _ goes c.in-None.ensures.steps.0) goes.texts

pub returns-in_err-pair-clause-refused : goal.returns-in_err-pair-clause-refused
returns-in_err-pair-clause-refused c =
    let r = c.from_residual in
    let p = err_from_is_err_and r.result r.ensures.1 in
    stopped c.args.body.now c.in-Some.name.now c.in-Some.value.now c.loop-name.name-iterator c.next.new.self _ c.decoded_pair.result r.result c.in_err-pair.field-0.0 c.loop-name.invariant.2 c.in-Some.ensures.steps c.in_err-pair.was c.decoded_pair.ensures.refused (p.1 ∙ ap (λ (e : FormRefusal). Err e) p.2)
