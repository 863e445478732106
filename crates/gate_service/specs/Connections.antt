-- What one connection read and wrote, by its first byte (this project's own).
use Rattle.std.specs.Prelude.{◌≡◌, ℕ, List, [], ◌∷◌, Option, None, IfSome}
use Rattle.gate_model.specs.text.Spelling.{IsDigit}
use Rattle.gate_model.specs.Sequences.{BeginsWith}
use Rattle.gate_outside.specs.Edge.{AtEnd, came}
use Rattle.guac_handshake.specs.Causes.{HasCause}
use Rattle.guac_handshake.specs.Texts.{error_text}
use Rattle.guac_handshake.specs.Views.{DoorView}
use Rattle.guac_handshake.specs.declared.request.Request.{Request as DoorRequest}
use Rattle.guac_handshake.specs.declared.welcome.Welcome.{Welcome}
use Rattle.http_front.specs.declared.request.Incoming.{Incoming}
use Rattle.http_front.specs.declared.response.Response.{Response}
use Rattle.user_serve.specs.Users.{UserRun}
use Rattle.user_serve.specs.Users as user
use Rattle.user_serve.specs.declared.ends.UserEnd.{UserEnd}
use Rattle.gate_service.specs.Messages.{AsksMessages}
use Rattle.gate_service.specs.Requests.{HttpRun, OnSilent}
use Rattle.share_links.specs.Doors.{told_through}
use Rattle.gate_service.specs.declared.requests.HttpEnd.TheVariants as http
use Rattle.gate_service.specs.declared.routing.ConnEnd.{ConnEnd}
use Rattle.gate_service.specs.declared.routing.ConnEnd.TheVariants.{User, Http, Ws, Ended, ReadFault, NoMemory}
use Rattle.shared_desk.specs.declared.place.Place.{Place}
use Rattle.ws_tunnel.specs.Served.{AsksDoor, HasServed}
use Rattle.ws_tunnel.specs.declared.ends.WsRun.{WsRun}

-- the first byte, where the source tells what is left
abbrev pub Begins : (ℕ → Type 0) → Option (List ℕ) → Type 0
Begins P left = IfSome left (λ bytes. (first : ℕ) × (more : List ℕ) × (bytes ≡ first ∷ more) × P first)

-- by what was left before, the same with its pastes typed, and what is left now. It is a viewer's connection where it
-- begins with a digit: then the bytes that were given, in which what is pasted stands as keys, and those that were
-- written are the viewer's; or for want of memory none were given, and a front of the `error` of 512 was written. It is
-- HTTP where it begins with another byte, and then they are those of one request, as it came, and of the response that
-- is due for it. Of what messages came by nothing is said here. At every other end there were none
abbrev pub ConnRun : (Incoming → Response → Type 0) → Option (List ℕ) → Option (List ℕ) → Option (List ℕ) → ConnEnd → List ℕ → List ℕ → Type 0
ConnRun due before typed left (User end) read written = Begins IsDigit before × (typed ≡ came read left) × UserRun left end read written
ConnRun due before typed left (Http end) read written = Begins (λ first. IsDigit first → ⊥) before × (before ≡ came read left) × HttpRun due end read written
ConnRun due before typed left (Ws run) read written = ⊥
ConnRun due before typed left Ended read written = AtEnd before × (before ≡ left) × (read ≡ []) × (written ≡ [])
ConnRun due before typed left ReadFault read written = (before ≡ left) × (read ≡ []) × (written ≡ [])
ConnRun due before typed left NoMemory read written = Begins IsDigit before × (before ≡ left) × (read ≡ []) × BeginsWith (error_text 512) written

-- a read failed: a viewer's, a request's, or that of the first byte; and the same of a write
abbrev pub HasReadFault : ConnEnd → Type 0
HasReadFault (User end) = user.HasReadFault end
HasReadFault (Http end) = end ≡ http.ReadFault
HasReadFault (Ws run) = ⊥
HasReadFault Ended = ⊥
HasReadFault ReadFault = Unit {0}
HasReadFault NoMemory = ⊥

abbrev pub HasWriteFault : ConnEnd → Type 0
HasWriteFault (User end) = user.HasWriteFault end
HasWriteFault (Http end) = end ≡ http.WriteFault
HasWriteFault (Ws run) = ⊥
HasWriteFault Ended = ⊥
HasWriteFault ReadFault = ⊥
HasWriteFault NoMemory = ⊥

-- the door and both ends of a viewer's connection, as `serve_user` has them
pub record ServesViewer (id_of : List ℕ → Option (List ℕ)) (gives : DoorRequest → Welcome Place → Type 0) (before after : DoorView) (typed left written written_new : Option (List ℕ)) (end : UserEnd) : Type 0 where
  pub greeting : user.HasGreeted id_of gives (told_through before) (told_through after) typed left written written_new end
  pub door : user.LeavesDoor id_of (told_through before) (told_through after) end
  pub refused : user.IfRefused end (HasCause (told_through before) (told_through after))

-- a fact of a viewer's end
abbrev pub IfUser : ConnEnd → (UserEnd → Type 0) → Type 0
IfUser (User end) F = F end
IfUser (Http end) F = Unit {0}
IfUser (Ws run) F = Unit {0}
IfUser Ended F = Unit {0}
IfUser ReadFault F = Unit {0}
IfUser NoMemory F = Unit {0}

-- a fact of an end at which messages were served
abbrev pub IfMessages : ConnEnd → (WsRun → Type 0) → Type 0
IfMessages (Ws run) F = F run
IfMessages (User end) F = Unit {0}
IfMessages (Http end) F = Unit {0}
IfMessages Ended F = Unit {0}
IfMessages ReadFault F = Unit {0}
IfMessages NoMemory F = Unit {0}

-- the connection begins with another byte than a digit, its request asks for messages, and a viewer was served over them
-- as the door was asked; the place that it has is out
pub record HasMessages (id_of : List ℕ → Option (List ℕ)) (gives : DoorRequest → Welcome Place → Type 0) (before after : DoorView) (left : Option (List ℕ)) (run : WsRun) : Type 0 where
  pub begins : Begins (λ first. IsDigit first → ⊥) left
  pub asks : AsksMessages left
  pub served : (received : List (List ℕ)) × (sent : List (List ℕ)) × HasServed run None received sent
  pub door : AsksDoor id_of gives (told_through before) (told_through after) None run

-- a fact of every other end
abbrev pub UnlessMessages : ConnEnd → Type 0 → Type 0
UnlessMessages (Ws run) P = Unit {0}
UnlessMessages (User end) P = P
UnlessMessages (Http end) P = P
UnlessMessages Ended P = P
UnlessMessages ReadFault P = P
UnlessMessages NoMemory P = P

-- what a connection left alone, of the sink, the door and the rest: a viewer's and one of messages the rest, one that
-- was served nothing all of them, and one that was refused for want of memory the door and the rest
abbrev pub LeavesAlone : Type 0 → Type 0 → Type 0 → ConnEnd → Type 0
LeavesAlone sink door rest (User end) = rest
LeavesAlone sink door rest (Http end) = OnSilent end (sink × door × rest)
LeavesAlone sink door rest (Ws run) = rest
LeavesAlone sink door rest Ended = sink × door × rest
LeavesAlone sink door rest ReadFault = sink × door × rest
LeavesAlone sink door rest NoMemory = door × rest
