-- What moves over a link of messages (this project's own). What it has left and what was sent are optional: a real link
-- doesn't tell.
use Rattle.std.specs.Prelude.{◌≡◌, ℕ, List, [], ◌∷◌, ◌++◌, Option, Some, None, Result, Ok, Err}
use Rattle.ws_tunnel.specs.declared.ends.WsEnd.{WsEnd}
use Rattle.ws_tunnel.specs.declared.ends.WsEnd.TheVariants as ends
use Rattle.ws_tunnel.specs.declared.got.Got.{Got}
use Rattle.ws_tunnel.specs.declared.got.Got.TheVariants.{Message, Closed}
use Rattle.ws_tunnel.specs.declared.got.LinkFailed.{LinkFailed}
use Rattle.ws_tunnel.specs.declared.got.LinkFailed.TheVariants.{Failed, NoMemory}

-- the messages that were left before these came, of those that are left now
abbrev pub came_messages : List (List ℕ) → Option (List (List ℕ)) → Option (List (List ℕ))
came_messages messages None = None
came_messages messages (Some rest) = Some (messages ++ rest)

-- what was sent once these were
abbrev pub sent_messages : Option (List (List ℕ)) → List (List ℕ) → Option (List (List ℕ))
sent_messages None texts = None
sent_messages (Some sent) texts = Some (sent ++ texts)

-- these messages came and these texts were sent, of which this is told
abbrev pub Exchanges : Option (List (List ℕ)) → Option (List (List ℕ)) → Option (List (List ℕ)) → Option (List (List ℕ)) → (List (List ℕ) → List (List ℕ) → Type 0) → Type 0
Exchanges left left_new sent sent_new told = (received : List (List ℕ)) × (texts : List (List ℕ)) × (left ≡ came_messages received left_new) × (sent_new ≡ sent_messages sent texts) × told received texts

-- none is left, where the link tells
abbrev pub NoneLeft : Option (List (List ℕ)) → Type 0
NoneLeft None = Unit {0}
NoneLeft (Some messages) = messages ≡ []

-- the next message came, or there was none; a refused call takes none
abbrev pub HasReceived : Option (List (List ℕ)) → Option (List (List ℕ)) → List ℕ → List ℕ → Result Got LinkFailed → Type 0
HasReceived old new before after (Ok Message) = (message : List ℕ) × (old ≡ came_messages (message ∷ []) new) × (after ≡ before ++ message)
HasReceived old new before after (Ok Closed) = NoneLeft old × (new ≡ old) × (after ≡ before)
HasReceived old new before after (Err refused) = (new ≡ old) × (after ≡ before)

-- the text was sent, or none was
abbrev pub HasSent : {E : Type 0} → Option (List (List ℕ)) → Option (List (List ℕ)) → List ℕ → Result (Unit {0}) E → Type 0
HasSent old new text (Ok done) = new ≡ sent_messages old (text ∷ [])
HasSent old new text (Err refused) = new ≡ old

-- the end at a call that was refused so
abbrev pub end_of_link : LinkFailed → WsEnd
end_of_link Failed = ends.LinkFault
end_of_link NoMemory = ends.NoMemory
