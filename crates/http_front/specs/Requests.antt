-- The requests that bytes make, and why they make none (RFC 9112 as `httparse` reads it; the limits, the statuses and
-- their order are this project's own).
use Rattle.std.specs.Prelude.{◌≡◌, ◌⊎◌, ℕ, ◌+◌, ◌<◌, ◌≤◌, List, length, take, drop, map, All, Some, None}
use Rattle.httparse.specs.Grammar.{RequestHead, ReadsRequest, HasNoRequest, MayBecomeRequest, NeverHasRequest, print_request}
use Rattle.httparse.specs.declared.spans.HeaderSpan.{HeaderSpan}
use Rattle.httparse.specs.declared.spans.RequestSpans.{RequestSpans}
use Rattle.httparse.specs.Spans.{IsHeaderWithin, IsRequestAt, IsWithin, RequestExceeds, header_bytes, name_and_value, span_bytes}
use Rattle.http_front.specs.Fields.{body_length, length_said, refusal_of}
use Rattle.http_front.specs.declared.head.Head.{Head}
use Rattle.http_front.specs.declared.head.Judged.{Judged}
use Rattle.http_front.specs.declared.head.Judged.TheVariants.{More, Taken, Refused as judged_refused}
use Rattle.http_front.specs.declared.request.Incoming.{Incoming}
use Rattle.http_front.specs.declared.request.Incoming.TheVariants.{Whole, Refused, Ended, ReadFault, NoMemory}
use Rattle.http_front.specs.declared.request.Request.{Request}
use Rattle.http_front.specs.declared.stop.Stop.{Stop}
use Rattle.http_front.specs.declared.stop.Stop.TheVariants.{Refused as stop_refused, Ended as stop_ended, ReadFault as stop_fault, NoMemory as stop_memory}

-- the most bytes of a head, and the most of its fields
abbrev pub most_head : ℕ
most_head = 16384

abbrev pub most_fields : ℕ
most_fields = 64

-- the bytes begin with this head, and then comes the rest
pub record Begins (bytes : List ℕ) (head : RequestHead) (rest : List ℕ) : Type 0 where
  pub reads : ReadsRequest bytes head rest
  pub few : length head.fields ≤ most_fields

-- no head of so few fields begins the bytes
abbrev pub HasNoHead : List ℕ → Type 0
HasNoHead bytes = (head : RequestHead) (rest : List ℕ) → ¬ (Begins bytes head rest)

-- why a head is refused, of the bytes that came: there are too many fields, or too many bytes without a whole head, which
-- more of them could make; no bytes that follow can make a head; or the fields of a head that is whole are refused
abbrev pub IsRefused : List ℕ → ℕ → Type 0
IsRefused bytes status =
    ((status ≡ 431) × HasNoHead bytes × (RequestExceeds most_fields bytes ⊎ ((length bytes ≡ most_head) × MayBecomeRequest bytes)))
    ⊎ ((status ≡ 400) × HasNoHead bytes × NeverHasRequest bytes)
    ⊎ ((head : RequestHead) × (rest : List ℕ) × Begins bytes head rest × (refusal_of (map name_and_value head.fields) ≡ Some status))

-- the length of the body that a head announces
abbrev pub announced : RequestHead → ℕ
announced head = body_length (length_said (map name_and_value head.fields))

-- the bytes have no whole request: no head, or one that is taken, and less than its body
abbrev pub IsUnfinished : List ℕ → Type 0
IsUnfinished bytes = (head : RequestHead) (rest : List ℕ) → Begins bytes head rest
    → (refusal_of (map name_and_value head.fields) ≡ None) × (length rest < announced head)

-- the bytes have this request: a head that is taken, and its body
pub record IsRequest (bytes : List ℕ) (request : Request) : Type 0 where
  pub head : RequestHead
  pub rest : List ℕ
  pub begins : Begins bytes head rest
  pub within : length (print_request head) ≤ most_head
  pub taken : refusal_of (map name_and_value head.fields) ≡ None
  pub method : request.method ≡ head.method
  pub target : request.target.now ≡ head.target
  pub whole : announced head ≤ length rest
  pub body : request.body.now ≡ take (announced head) rest

-- what the bytes of a call make
abbrev pub Receives : List ℕ → Incoming → Type 0
Receives bytes (Whole request) = IsRequest bytes request
Receives bytes (Refused status) = IsRefused bytes status
Receives bytes Ended = IsUnfinished bytes
Receives bytes ReadFault = IsUnfinished bytes
Receives bytes NoMemory = Unit {0}

-- P holds where the source was at its end
abbrev pub OnEnded : Incoming → Type 0 → Type 0
OnEnded (Whole request) P = Unit {0}
OnEnded (Refused status) P = Unit {0}
OnEnded Ended P = P
OnEnded ReadFault P = Unit {0}
OnEnded NoMemory P = Unit {0}

-- ---- while they come

-- the bytes that came when reading stopped
abbrev pub HasStopped : List ℕ → Stop → Type 0
HasStopped bytes (stop_refused status) = IsRefused bytes status
HasStopped bytes stop_ended = IsUnfinished bytes
HasStopped bytes stop_fault = IsUnfinished bytes
HasStopped bytes stop_memory = Unit {0}

-- the places of a head that is taken, and of its body
pub record IsTaken (bytes : List ℕ) (place : Head) : Type 0 where
  pub head : RequestHead
  pub begins : Begins bytes head (drop place.body bytes)
  pub ends : place.body ≡ length (print_request head)
  pub within : place.body ≤ length bytes
  pub taken : refusal_of (map name_and_value head.fields) ≡ None
  pub method : span_bytes bytes place.method ≡ head.method
  pub method_fits : IsWithin place.body place.method
  pub target : span_bytes bytes place.target ≡ head.target
  pub target_fits : IsWithin place.body place.target
  pub size : place.size ≡ announced head

-- a head of so few fields that is whole, at these places
pub record IsWholeHead (bytes : List ℕ) (fields : List HeaderSpan) (spans : RequestSpans) : Type 0 where
  pub head : RequestHead
  pub begins : Begins bytes head (drop spans.len bytes)
  pub ends : spans.len ≡ length (print_request head)
  pub within : spans.len ≤ length bytes
  pub method : span_bytes bytes spans.method ≡ head.method
  pub method_fits : IsWithin spans.len spans.method
  pub target : span_bytes bytes spans.path ≡ head.target
  pub target_fits : IsWithin spans.len spans.path
  pub fields_are : map (header_bytes bytes) fields ≡ map name_and_value head.fields
  pub fields_fit : All (IsHeaderWithin (length bytes)) fields

-- what is said of bytes of which more may come
abbrev pub Judges : List ℕ → Judged → Type 0
Judges bytes More = HasNoRequest bytes × MayBecomeRequest bytes
Judges bytes (Taken place) = IsTaken bytes place
Judges bytes (judged_refused status) = IsRefused bytes status

-- a head that is taken, with its whole body behind it
pub record IsReceived (bytes : List ℕ) (place : Head) : Type 0 where
  pub taken : IsTaken bytes place
  pub small : place.body ≤ most_head
  pub whole : place.body + place.size ≤ length bytes
