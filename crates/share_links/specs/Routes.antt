-- What a request for links asks, by its method and its target (this project's own).
use Rattle.std.specs.Prelude.{ℕ, List, [], length, take, drop, Bool, if◌then◌else◌, bytes_eq, codes, Option, Some, None, is_some}
use Rattle.std.specs.Option.{option_map}
use Rattle.uuid.specs.Text.{parsed}
use Rattle.http_front.specs.declared.refusal.Refusal.TheVariants.{NotFound, Form, Method}
use Rattle.share_links.specs.declared.route.Route.{Route}
use Rattle.share_links.specs.declared.route.Route.TheVariants.{Make, Revoke, Refused}

-- what stands behind the front of a text that begins so
abbrev pub stripped : List ℕ → List ℕ → Option (List ℕ)
stripped front text = if bytes_eq (take (length front) text) front then Some (drop (length front) text) else None

-- the query of a target whose path is `/links`; it is empty where there is none
abbrev pub query_of : List ℕ → Option (List ℕ)
query_of target = if bytes_eq target (codes "/links") then Some [] else stripped (codes "/links?") target

-- the path of a target is `/links`
abbrev pub is_links_path : List ℕ → Bool
is_links_path target = is_some (query_of target)

-- what a query asks, whatever the method is
abbrev pub revoke_asked : Option (List ℕ) → Option Route
revoke_asked None = None
revoke_asked (Some text) = option_map Revoke (parsed text)

abbrev pub asked_by : List ℕ → Option Route
asked_by query = if bytes_eq query (codes "make") then Some Make else revoke_asked (stripped (codes "revoke:") query)

-- what the method and the query ask: the first that holds refuses
abbrev pub with_method : List ℕ → Option Route → Route
with_method method None = Refused Form
with_method method (Some route) = if bytes_eq method (codes "POST") then route else Refused Method

abbrev pub with_query : List ℕ → Option (List ℕ) → Route
with_query method None = Refused NotFound
with_query method (Some query) = with_method method (asked_by query)

abbrev pub route_of : List ℕ → List ℕ → Route
route_of method target = with_query method (query_of target)
