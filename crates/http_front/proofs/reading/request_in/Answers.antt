use Rattle.std.proofs.Common.{◌∙◌, ap, sym, subst, Err}
use Rattle.http_header.specs.Token.{IsToken}
use Rattle.http_front.proofs.Tokens.{token}
use Rattle.http_front.proofs.reading.request_in.Goals as goal

pub unreachable-requires : goal.unreachable-requires
unreachable-requires c =
    c.from_bytes.ensures.invalid.0 (c.in-Err-Invalid.is ∙ ap Err c.in-Err-Invalid.field-0-is)
    (subst IsToken (sym (c.of.ensures ∙ c.requires.taken.method)) (token c.requires.taken.head.method c.requires.taken.begins.reads.0.method))
