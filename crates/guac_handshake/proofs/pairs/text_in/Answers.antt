use Rattle.std.proofs.Common.{ap, subst, IsUtf8, Vec, ℕ, Global}
use Rattle.std.proofs.lemmas.Str.{IsUtf8-string_bytes}
use Rattle.guac_handshake.proofs.pairs.text_in.Goals as goal

pub returns-in-Ok-clause-utf8 : goal.returns-in-Ok-clause-utf8
returns-in-Ok-clause-utf8 c = subst IsUtf8 (ap (λ (v : Vec ℕ Global). v.items) c.in-Ok.ensures.ok) (IsUtf8-string_bytes c.in-Ok.text)
