-- What a read of a socket puts into a buffer (this project's own).
use Rattle.std.specs.Prelude.{◌≡◌, Bool, true, false, ℕ, List, ◌++◌, Result, Ok, Err}
use Rattle.ws_tunnel.specs.declared.got.Got.{Got}
use Rattle.ws_tunnel.specs.declared.got.Got.TheVariants.{Message, Closed}
use Rattle.ws_tunnel.specs.declared.got.LinkFailed.{LinkFailed}

-- a message was appended, or the buffer is as it was
abbrev pub Appends : List ℕ → List ℕ → Result Got LinkFailed → Type 0
Appends before after (Ok Message) = (message : List ℕ) × (after ≡ before ++ message)
Appends before after (Ok Closed) = after ≡ before
Appends before after (Err refused) = after ≡ before

-- a message was appended, or is none that counts
abbrev pub Puts : List ℕ → List ℕ → Result Bool LinkFailed → Type 0
Puts before after (Ok true) = (message : List ℕ) × (after ≡ before ++ message)
Puts before after (Ok false) = after ≡ before
Puts before after (Err refused) = after ≡ before
