-- What one instruction says where a reader expects a `select`, or a `connect`.
use Rattle.std.specs.Prelude.{◌≡◌, ℕ, List, ◌++◌, Option, Result, Ok, Err}
use Rattle.gate_model.specs.text.HelloMeaning.{Greeting, Selects, HasSize, Connects, SaysOther, greeting_of}
use Rattle.gate_outside.specs.Edge.{AtEnd, came}
use Rattle.guac_framing.specs.Found.{IsUnfinished, IsBadAt}
use Rattle.guac_framing.specs.declared.next.BadAt.{BadAt}
use Rattle.guac_handshake.specs.declared.expected.Expected.{Expected}
use Rattle.guac_handshake.specs.declared.expected.Expected.TheVariants as expected
use Rattle.guac_handshake.specs.declared.expected.Said.{Said}
use Rattle.guac_handshake.specs.declared.expected.Said.TheVariants as said
use Rattle.guac_handshake.specs.declared.stop.Stop.{Stop}
use Rattle.guac_handshake.specs.declared.stop.Stop.TheVariants as stop
use Rattle.guac_handshake.specs.Asks.{Wish, Unfinished, Wants, Refuses, connects_as}
use Rattle.guac_handshake.specs.declared.request.Selected.{Selected}
use Rattle.guac_handshake.specs.Splits.{IsInstruction}
use Rattle.gate_model.specs.text.Statuses.{bad_request}

-- the wish of `connect`
abbrev pub wish_said : Wish → Said
wish_said Unfinished = said.Bad
wish_said (Wants request) = said.Ask request
wish_said (Refuses status) = said.Bad

-- where a `select` is expected
abbrev pub said_first : Greeting → Said
said_first (Selects name) = said.Select name
said_first (HasSize width height) = said.Bad
said_first Connects = said.Bad
said_first SaysOther = said.Bad

-- where a `connect` is expected
abbrev pub said_behind : Greeting → Selected → List (List ℕ) → Option (ℕ × ℕ) → Said
said_behind (Selects name) selected values size = said.Other
said_behind (HasSize width height) selected values size = said.Size (width, height)
said_behind Connects selected values size = wish_said (connects_as selected values size)
said_behind SaysOther selected values size = said.Other

-- what the instruction says to a reader
abbrev pub said_of : Expected → List (List ℕ) → Said
said_of expected.Select values = said_first (greeting_of values)
said_of (expected.Connect selected size) values = said_behind (greeting_of values) selected.now values size

-- why no whole instruction was read, by the bytes that are left
abbrev pub StopsAt : Stop → List ℕ → Option (List ℕ) → Type 0
StopsAt (stop.Refused status) rest left = (status ≡ bad_request) × ((at : BadAt) × IsBadAt rest at)
StopsAt stop.Ended rest left = IsUnfinished rest × AtEnd left
StopsAt stop.ReadFault rest left = IsUnfinished rest
StopsAt stop.WriteFault rest left = ⊥
StopsAt stop.NoMemory rest left = Unit {0}

-- the bytes behind those that were unread make one instruction, and what is left is unread; or none, and all are
abbrev pub HeardBy : Expected → List ℕ → List ℕ → Option (List ℕ) → Result Said Stop → Type 0
HeardBy expected bytes rest left (Ok said) = (own : List ℕ) × (values : List (List ℕ)) × IsInstruction own values × (bytes ≡ own ++ rest) × (said ≡ said_of expected values)
HeardBy expected bytes rest left (Err stop) = (rest ≡ bytes) × StopsAt stop rest left

pub record HasHeard (expected : Expected) (left_old left_new : Option (List ℕ)) (unread rest : List ℕ) (result : Result Said Stop) : Type 0 where
  pub bytes : List ℕ
  pub came_is : left_old ≡ came bytes left_new
  pub heard : HeardBy expected (unread ++ bytes) rest left_new result
