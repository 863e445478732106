-- What a request asks of the tunnels, by its method and its target (this project's own, after the tunnel of
-- guacamole-common).
use Rattle.std.specs.Prelude.{ℕ, ◌+◌, ◌-◌, List, [], length, take, drop, fold, nat_lt, if◌then◌else◌, bytes_eq, codes, Option, Some, None, option_and_then}
use Rattle.std.specs.Option.{option_map}
use Rattle.std.specs.Char.{is_ascii_digit}
use Rattle.uuid.specs.Text.{parsed}
use Rattle.http_front.specs.declared.refusal.Refusal.{Refusal}
use Rattle.http_front.specs.declared.refusal.Refusal.TheVariants.{NotFound, Form, Method, Dial, Busy, Conflict, Forbidden, TooMany, Closed, NoMemory}
use Rattle.http_tunnel.specs.declared.route.Route.{Route}
use Rattle.http_tunnel.specs.declared.route.Route.TheVariants.{Connect, Read, Write, Refused}

-- what stands behind the front of a text that begins so, and before the end of one that ends so
abbrev pub stripped : List ℕ → List ℕ → Option (List ℕ)
stripped front text = if bytes_eq (take (length front) text) front then Some (drop (length front) text) else None

abbrev pub stripped_end : List ℕ → List ℕ → Option (List ℕ)
stripped_end end text = if bytes_eq (drop (length text - length end) text) end then Some (take (length text - length end) text) else None

-- the query of a target whose path is `/tunnel`; it is empty where there is none
abbrev pub query_of : List ℕ → Option (List ℕ)
query_of target = if bytes_eq target (codes "/tunnel") then Some [] else stripped (codes "/tunnel?") target

-- how many digits stand at the end of a text
abbrev pub digits_after : List ℕ → ℕ
digits_after text = fold (λ n b. if is_ascii_digit b then n + 1 else 0) 0 text

-- a text without the digits at its end and the `:` before them, where there are both
abbrev pub without_number : ℕ → List ℕ → Option (List ℕ)
without_number n text = if nat_lt 0 n then stripped_end (codes ":") (take (length text - n) text) else None

-- the ID of a read, behind which a number may stand that has no meaning. The whole text is tried first, since an ID
-- may hold a `:` itself
abbrev pub or_else : Option (List ℕ) → Option (List ℕ) → Option (List ℕ)
or_else (Some id) other = Some id
or_else None other = other

abbrev pub read_id : List ℕ → Option (List ℕ)
read_id text = or_else (parsed text) (option_and_then parsed (without_number (digits_after text) text))

-- what a query asks, whatever the method is
abbrev pub write_asked : Option (List ℕ) → Option Route
write_asked None = None
write_asked (Some text) = option_map Write (parsed text)

abbrev pub read_asked : List ℕ → Option (List ℕ) → Option Route
read_asked query None = write_asked (stripped (codes "write:") query)
read_asked query (Some text) = option_map Read (read_id text)

abbrev pub asked_by : List ℕ → Option Route
asked_by query = if bytes_eq query (codes "connect") then Some Connect else read_asked query (stripped (codes "read:") query)

-- the method that it wants
abbrev pub method_of : Route → List ℕ
method_of Connect = codes "POST"
method_of (Read id) = codes "GET"
method_of (Write id) = codes "POST"
method_of (Refused refusal) = []

-- what the method and the query ask: the first that holds refuses
abbrev pub with_method : List ℕ → Option Route → Route
with_method method None = Refused Form
with_method method (Some route) = if bytes_eq method (method_of route) then route else Refused Method

abbrev pub with_query : List ℕ → Option (List ℕ) → Route
with_query method None = Refused NotFound
with_query method (Some query) = with_method method (asked_by query)

abbrev pub route_of : List ℕ → List ℕ → Route
route_of method target = with_query method (query_of target)

-- a request refuses itself for these alone
abbrev pub IsRouteRefusal : Refusal → Type 0
IsRouteRefusal NotFound = Unit {0}
IsRouteRefusal Form = Unit {0}
IsRouteRefusal Method = Unit {0}
IsRouteRefusal Dial = ⊥
IsRouteRefusal Busy = ⊥
IsRouteRefusal Conflict = ⊥
IsRouteRefusal Forbidden = ⊥
IsRouteRefusal TooMany = ⊥
IsRouteRefusal Closed = ⊥
IsRouteRefusal NoMemory = ⊥

abbrev pub IsAsked : Route → Type 0
IsAsked Connect = Unit {0}
IsAsked (Read id) = Unit {0}
IsAsked (Write id) = Unit {0}
IsAsked (Refused refusal) = IsRouteRefusal refusal
