use Rattle.std.proofs.Common.{◌∙◌, ◌+◌, ◌≤◌, ap, sym, ◌++◌, decimal, length, subst, vec_len, vec_capacity}
use Rattle.std.proofs.lemmas.Result.{on_ok_weaker}
use Rattle.guac_framing.specs.Appended.{spelled}
use Rattle.guac_framing.proofs.Spelled.{spelled-text}
use Rattle.guac_framing.proofs.element.put_element.Goals as goal

pub returns-clause-appended : goal.returns-clause-appended
returns-clause-appended c =
    on_ok_weaker c.put_counted.result
    (λ put. put ∙ ap (λ text. c.args.into.now.items ++ text)
    (ap (spelled c.args.first (decimal c.characters.result)) c.as_bytes.ensures.value
    ∙ spelled-text c.args.first c.characters.result c.args.value.now c.utf8.value c.characters.ensures))
    c.put_counted.ensures.appended

pub returns-clause-succeeds : goal.returns-clause-succeeds
returns-clause-succeeds c room =
    c.put_counted.ensures.succeeds
    (subst (λ text. vec_len c.args.into.now + length text ≤ vec_capacity c.args.into.now)
    (sym (ap (spelled c.args.first (decimal c.characters.result)) c.as_bytes.ensures.value
    ∙ spelled-text c.args.first c.characters.result c.args.value.now c.utf8.value c.characters.ensures))
    room)
