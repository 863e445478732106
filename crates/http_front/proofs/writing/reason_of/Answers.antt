use Rattle.std.proofs.Common.{◌≡◌, ◌∙◌, ℕ, ◌≤◌, ◌<◌, [], true, nat_le, nat_lt, refl, ap, sym, unwrap_or}
use Rattle.std.proofs.lemmas.Bool.{le-leb, lt-ltb}
use Rattle.http.specs.StatusCode.{reason_phrase}
use Rattle.http_front.specs.Responses.{reason_of}
use Rattle.http_front.proofs.writing.reason_of.Goals as goal

reason : (status : ℕ) → nat_le 100 status ≡ true → nat_lt status 1000 ≡ true → unwrap_or (reason_phrase status) [] ≡ reason_of status
reason status least most = rw (least, most) refl

pub returns-in-Ok : goal.returns-in-Ok
returns-in-Ok c = c.phrase.ensures ∙ ap (λ (s : ℕ). unwrap_or (reason_phrase s) []) c.in-Ok.ensures.1 ∙ reason c.args.status (le-leb 100 c.args.status c.in-Ok.ensures.0.0) (lt-ltb c.args.status 1000 c.in-Ok.ensures.0.1)
