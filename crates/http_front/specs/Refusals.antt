-- The statuses of refusals: of HTTP (RFC 9110, section 15; RFC 6585, section 4), and of Guacamole (the Guacamole manual,
-- "Guacamole protocol reference"; which comes for what is this project's own).
use Rattle.std.specs.Prelude.{◌≡◌, ℕ, List, [], Option, Some, None, Result, Ok, Err, ◌==◌, if◌then◌else◌, ◌||◌}
use Rattle.gate_model.specs.text.Statuses as statuses
use Rattle.http_front.specs.declared.refusal.Refusal.{Refusal}
use Rattle.http_front.specs.declared.refusal.Refusal.TheVariants.{NotFound, Form, Method, Dial, Busy, Conflict, Forbidden, TooMany, Closed, NoMemory}
use Rattle.http_front.specs.declared.response.Response.{Response}

abbrev pub status_of : Refusal → ℕ
status_of NotFound = 404
status_of Form = 400
status_of Method = 405
status_of Dial = 502
status_of Busy = 503
status_of Conflict = 409
status_of Forbidden = 403
status_of TooMany = 429
status_of Closed = 410
status_of NoMemory = 500

abbrev pub code_of : Refusal → ℕ
code_of NotFound = statuses.not_found
code_of Form = statuses.bad_request
code_of Method = statuses.bad_request
code_of Dial = statuses.upstream_not_found
code_of Busy = statuses.server_busy
code_of Conflict = statuses.conflict
code_of Forbidden = statuses.forbidden
code_of TooMany = statuses.too_many
code_of Closed = statuses.session_closed
code_of NoMemory = statuses.no_memory

-- the Guacamole status beside one of HTTP, where that refuses
abbrev pub code_beside : ℕ → Option ℕ
code_beside status =
    if (status == 400) || (status == 405) || (status == 413) || (status == 431) || (status == 501) then Some statuses.bad_request
    else if status == 403 then Some statuses.forbidden
    else if status == 404 then Some statuses.not_found
    else if status == 409 then Some statuses.conflict
    else if status == 410 then Some statuses.session_closed
    else if status == 429 then Some statuses.too_many
    else if status == 500 then Some statuses.no_memory
    else if status == 502 then Some statuses.upstream_not_found
    else if status == 503 then Some statuses.server_busy
    else None

-- the response to a request that was answered so
abbrev pub IsResponse : Result (List ℕ) Refusal → Response → Type 0
IsResponse (Ok body) response = (response.status ≡ 200) × (response.code ≡ 0) × (response.body ≡ body)
IsResponse (Err refusal) response = (response.status ≡ status_of refusal) × (response.code ≡ code_of refusal) × (response.body ≡ [])
