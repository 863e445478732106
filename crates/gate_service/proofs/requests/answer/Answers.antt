use Rattle.std.proofs.Common.{inl, inr, refl, sym, []}
use Rattle.gate_outside.proofs.Moved.{gained-none}
use Rattle.gate_service.proofs.requests.answer.Goals as goal

-- the response that is due is written
pub returns-in-Ok-clause-ran : goal.returns-in-Ok-clause-ran
returns-in-Ok-clause-ran g c =
    let w = c.write.ensures.wrote in
    (w.0, w.1, inl (c.in-Ok.response, c.in-Ok.ensures.due, w.2))

-- none is due
pub returns-in-Err-clause-ran : goal.returns-in-Err-clause-ran
returns-in-Err-clause-ran g c = ([], sym (gained-none _), inr (c.in-Err.ensures.silent, refl))
