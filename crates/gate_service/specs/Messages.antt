-- A connection whose request asks for messages (this project's own).
use Rattle.std.specs.Prelude.{◌≡◌, ℕ, List, [], Option, Some, is_some, Bool, true, false, if◌then◌else◌, bytes_eq, codes}
use Rattle.gate_outside.specs.Edge.{came}
use Rattle.http_front.specs.Requests.{Receives}
use Rattle.http_front.specs.declared.request.Incoming.{Incoming}
use Rattle.http_front.specs.declared.request.Incoming.TheVariants as incoming
use Rattle.http_tunnel.specs.Routes.{stripped}

-- the query of a target whose path is that of messages; it is empty where there is none
abbrev pub query_of : List ℕ → Option (List ℕ)
query_of target = if bytes_eq target (codes "/websocket-tunnel") then Some [] else stripped (codes "/websocket-tunnel?") target

-- a whole request with that path, whatever its query is
abbrev pub asks_messages : Incoming → Bool
asks_messages (incoming.Whole request) = is_some (query_of request.target.now)
asks_messages (incoming.Refused status) = false
asks_messages incoming.Ended = false
asks_messages incoming.ReadFault = false
asks_messages incoming.NoMemory = false

-- what is left begins with such a request
abbrev pub AsksMessages : Option (List ℕ) → Type 0
AsksMessages left = (read : List ℕ) × (rest : Option (List ℕ)) × (request : Incoming) × (left ≡ came read rest) × Receives read request × (asks_messages request ≡ true)
