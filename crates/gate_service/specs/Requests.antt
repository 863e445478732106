-- What a connection that isn't a viewer's read and wrote: one request, and one response (this project's own).
use Rattle.std.specs.Prelude.{◌≡◌, ◌≤◌, ◌⊎◌, ℕ, List, [], length, take, Option, Result, Bool, true, false}
use Rattle.gate_outside.specs.Helpers.{CountsFaults}
use Rattle.guac_handshake.specs.declared.request.Request.{Request as DoorRequest}
use Rattle.guac_handshake.specs.declared.welcome.Welcome.{Welcome}
use Rattle.http_front.specs.Refusals.{IsResponse}
use Rattle.http_front.specs.Requests.{Receives}
use Rattle.http_front.specs.Responses.{response_text}
use Rattle.http_front.specs.declared.request.Incoming.{Incoming}
use Rattle.http_front.specs.declared.request.Incoming.TheVariants as incoming
use Rattle.http_front.specs.declared.request.Request.{Request}
use Rattle.http_front.specs.declared.response.Response.{Response}
use Rattle.http_tunnel.specs.Requests.{Serves}
use Rattle.http_tunnel.specs.Routes.{route_of}
use Rattle.http_front.specs.declared.refusal.Refusal.{Refusal}
use Rattle.id_table.specs.Maps.{Map}
use Rattle.share_links.specs.Doors.{told_through}
use Rattle.share_links.specs.Requests as link
use Rattle.share_links.specs.Routes.{is_links_path, route_of as link_route}
use Rattle.share_links.specs.declared.link.Link.{Link}
use Rattle.shared_desk.specs.declared.place.Place.{Place}
use Rattle.gate_service.specs.Messages.{asks_messages}
use Rattle.gate_service.specs.Views.{GateView}
use Rattle.gate_service.specs.declared.requests.HttpEnd.{HttpEnd}
use Rattle.gate_service.specs.declared.requests.HttpEnd.TheVariants.{Answered, Ended, ReadFault, WriteFault, NoMemory}

-- the response meets the contract of `tunnel_request` for the whole request, by what the service tells before and after
-- the call: 502 comes only where the count of dials that failed rose, and 503 only where that of starts did
pub record IsAnswer (id_of : List ℕ → Option (List ℕ)) (gives : DoorRequest → Welcome Place → Type 0) (before after : GateView) (request : Request) (response : Response) : Type 0 where
  pub answered : Result (List ℕ) Refusal
  pub is_response : IsResponse answered response
  pub serves : Serves id_of gives (told_through before.door) (told_through after.door) before.draws before.tunnels after.tunnels request.body.now answered (route_of request.method request.target.now)
  pub faults : CountsFaults (response.status ≡ 502) (response.status ≡ 503) before.door.helper after.door.helper

-- an empty response with this status and this code
abbrev pub IsRefusal : ℕ → ℕ → Response → Type 0
IsRefusal status code response = (response.status ≡ status) × (response.code ≡ code) × (response.body ≡ [])

-- the response meets the contract of `link_request` for the whole request, by what the door tells and what the dice draw
-- next; of what the table of links held nothing is said
abbrev pub IsLinkAnswer : (List ℕ → Option (List ℕ)) → GateView → Request → Response → Type 0
IsLinkAnswer id_of before request response =
    (answered : _) × (links : Map Link) × (links_new : Map Link) × IsResponse answered response × link.Serves id_of before.door.sessions before.draws request.body.now links links_new answered (link_route request.method request.target.now)

-- one of two, by whether a path is that of links
abbrev pub ByPath : Bool → Type 0 → Type 0 → Type 0
ByPath true links other = links
ByPath false links other = other

-- the response that is due for what came: for a whole request one that answers it, as a request for links or for tunnels;
-- else the refusal, or that of want of memory, and then nothing else was done. Bytes that ended early are due none
abbrev pub IsDue : (List ℕ → Option (List ℕ)) → (DoorRequest → Welcome Place → Type 0) → GateView → GateView → Type 0 → Incoming → Response → Type 0
IsDue id_of gives before after idle (incoming.Whole request) response = ByPath (is_links_path request.target.now) (IsLinkAnswer id_of before request response) (IsAnswer id_of gives before after request response)
IsDue id_of gives before after idle (incoming.Refused status) response = IsRefusal status 768 response × idle
IsDue id_of gives before after idle incoming.Ended response = ⊥
IsDue id_of gives before after idle incoming.ReadFault response = ⊥
IsDue id_of gives before after idle incoming.NoMemory response = IsRefusal 500 512 response × idle

-- some front of the text
abbrev pub IsFront : List ℕ → List ℕ → Type 0
IsFront written text = (n : ℕ) × (n ≤ length text) × (written ≡ take n text)

-- what of a response is written: all of it where its status is told, and a front of it where a write failed
abbrev pub Wrote : Response → HttpEnd → List ℕ → Type 0
Wrote response (Answered status) written = (response.status ≡ status) × (written ≡ response_text response)
Wrote response WriteFault written = IsFront written (response_text response)
Wrote response NoMemory written = written ≡ []
Wrote response Ended written = ⊥
Wrote response ReadFault written = ⊥

-- why bytes are due no response
abbrev pub IsSilent : Incoming → HttpEnd → Type 0
IsSilent came end = ((came ≡ incoming.Ended) × (end ≡ Ended)) ⊎ ((came ≡ incoming.ReadFault) × (end ≡ ReadFault))

-- the response that is due for what came is written; or none is due, and nothing is
abbrev pub HasAnswered : (Incoming → Response → Type 0) → Incoming → HttpEnd → List ℕ → Type 0
HasAnswered due came end written = ((response : Response) × due came response × Wrote response end written) ⊎ (IsSilent came end × (written ≡ []))

-- the bytes that were read are those of one request, which doesn't ask for messages, and it was answered
abbrev pub HttpRun : (Incoming → Response → Type 0) → HttpEnd → List ℕ → List ℕ → Type 0
HttpRun due end read written = (came : Incoming) × Receives read came × (asks_messages came ≡ false) × HasAnswered due came end written

-- a fact of the ends at which nothing was done
abbrev pub OnSilent : HttpEnd → Type 0 → Type 0
OnSilent (Answered status) P = Unit {0}
OnSilent WriteFault P = Unit {0}
OnSilent NoMemory P = Unit {0}
OnSilent Ended P = P
OnSilent ReadFault P = P
