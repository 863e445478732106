use Rattle.std.proofs.Common.{◌∙◌, ◌+◌, ◌≤◌, ap, sym, ◌++◌, decimal, length, refl, subst, vec_len, vec_capacity}
use Rattle.std.proofs.lemmas.Result.{on_ok_weaker}
use Rattle.guac_framing.specs.Appended.{separated, spelled}
use Rattle.guac_framing.proofs.Spelled.{spelled-ascii}
use Rattle.guac_framing.proofs.element.put_integer.Goals as goal

pub returns-clause-appended : goal.returns-clause-appended
returns-clause-appended g c =
    on_ok_weaker c.put_counted.result
    (λ put. put ∙ ap (λ text. c.args.into.now.items ++ text)
    (ap (λ text. spelled c.args.first (decimal (length text)) text) c.as_bytes-text.ensures.value
    ∙ spelled-ascii c.args.first (length c.format.result.now) c.format.result.now c.format.ensures.ascii refl
    ∙ ap (separated c.args.first) c.format.ensures.text))
    c.put_counted.ensures.appended

pub returns-clause-succeeds : goal.returns-clause-succeeds
returns-clause-succeeds g c room =
    c.put_counted.ensures.succeeds
    (subst (λ text. vec_len c.args.into.now + length text ≤ vec_capacity c.args.into.now)
    (sym (ap (λ text. spelled c.args.first (decimal (length text)) text) c.as_bytes-text.ensures.value
    ∙ spelled-ascii c.args.first (length c.format.result.now) c.format.result.now c.format.ensures.ascii refl
    ∙ ap (separated c.args.first) c.format.ensures.text))
    room)
