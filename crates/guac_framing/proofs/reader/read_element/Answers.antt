use Rattle.std.proofs.Common.{List, [], ◌∷◌, ◌++◌, ℕ, take, sym, subst, arith}
use Rattle.std.proofs.lemmas.Result.{err_from_is_err_and}
use Rattle.guac_framing.specs.Standing.{BehindValue}
use Rattle.guac_framing.proofs.Steps.{chars_in, behind_in}
use Rattle.guac_framing.proofs.Places.{text_utf8, chars_text}
use Rattle.guac_framing.proofs.reader.read_element.Goals as goal

pub returns-in_err-count-clause-stop : goal.returns-in_err-count-clause-stop
returns-in_err-count-clause-stop c = λ values i.
    let p = err_from_is_err_and c.from_residual.result c.from_residual.ensures.1 in
    rw (p.1, p.2) (c.in_err-count.ensures.stop values i)

pub returns-in_err-end-clause-stop : goal.returns-in_err-end-clause-stop
returns-in_err-end-clause-stop c = λ values i.
    let p = err_from_is_err_and c.from_residual-in_err-end.result c.from_residual-in_err-end.ensures.1 in
    rw (p.1, p.2) (c.in_err-end.ensures.stop values (c.in_ok-count.ensures.value values i))

pub returns-clause-span : goal.returns-clause-span
returns-clause-span c = record {
  ordered = c.in_ok-end.ensures.end.2;
  within = c.in_ok-end.ensures.end.0;
  utf8 = text_utf8 c.args.bytes.now c.in_ok-count.start c.in_ok-end.end _ _ c.in_ok-end.ensures.value c.in_ok-end.ensures.end.2 c.in_ok-count.ensures.end.1;
}

pub returns-clause-later : goal.returns-clause-later
returns-clause-later c = omega (arith, c.in_ok-count.ensures.end.0, c.in_ok-end.ensures.end.2)

pub returns-clause-value : goal.returns-clause-value
returns-clause-value c = λ values i.
    let h = c.in_ok-end.ensures.value in
    subst (λ (w : List ℕ). BehindValue (take c.in_ok-end.end c.args.bytes.now) (values ++ w ∷ []))
    (sym (chars_text c.args.bytes.now c.in_ok-count.start c.in_ok-end.end _ _ h c.in_ok-end.ensures.end.2 c.in_ok-count.ensures.end.1))
    (behind_in (take c.in_ok-end.end c.args.bytes.now) h.chars values (chars_in c.args.bytes.now c.in_ok-count.start c.in_ok-end.end _ _ values (c.in_ok-count.ensures.value values i) h))
