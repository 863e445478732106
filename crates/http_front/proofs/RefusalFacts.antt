-- Worked facts of refusals, computed from the definitions: beside the status of each stands its code.
use Rattle.std.proofs.Common.{◌≡◌, Some, refl}
use Rattle.http_front.specs.Refusals.{code_beside, code_of, status_of}
use Rattle.http_front.specs.declared.refusal.Refusal.{Refusal}
use Rattle.http_front.specs.declared.refusal.Refusal.TheVariants.{NotFound, Form, Method, Dial, Busy, Conflict, Forbidden, TooMany, Closed, NoMemory}

beside : (refusal : Refusal) → code_beside (status_of refusal) ≡ Some (code_of refusal)
beside NotFound = refl
beside Form = refl
beside Method = refl
beside Dial = refl
beside Busy = refl
beside Conflict = refl
beside Forbidden = refl
beside TooMany = refl
beside Closed = refl
beside NoMemory = refl
