-- What the instructions of a handshake ask (the Guacamole manual, "The Guacamole protocol"; the parameters, their
-- forms and the limits are this project's own).
use Rattle.std.specs.Prelude.{◌≡◌, ℕ, ◌/◌, min, max, List, [], ◌∷◌, ◌++◌, length, drop, take_while, find, fold, Bool, true, false, not, ◌&&◌, nat_le, nat_lt, if◌then◌else◌, Option, Some, None, bytes_eq, codes}
use Rattle.std.specs.List.{list_all}
use Rattle.gate_model.specs.Limits.{most_term}
use Rattle.gate_model.specs.session.Steps.{IsTerminalType, is_mark}
use Rattle.gate_model.specs.terminal.Sizes.{IsScreenSize}
use Rattle.gate_model.specs.text.HelloMeaning.{Greeting, Selects, HasSize, Connects, SaysOther, greeting_of}
use Rattle.gate_model.specs.text.Numerals.{number_within}
use Rattle.gate_model.specs.declared.sharing.Share.{Share}
use Rattle.gate_model.specs.declared.sharing.Share.TheVariants as share
use Rattle.gate_model.specs.declared.sharing.Asked.{Asked}
use Rattle.gate_model.specs.declared.sharing.Asked.TheVariants as role
use Rattle.guac_handshake.specs.declared.ask.Ask.{Ask}
use Rattle.guac_handshake.specs.declared.request.Request.{Request}
use Rattle.guac_handshake.specs.declared.request.Request.TheVariants.{Begin, Join}
use Rattle.guac_handshake.specs.declared.request.Selected.{Selected}
use Rattle.guac_handshake.specs.declared.request.Selected.TheVariants.{Telnet, Known}
use Rattle.gate_model.specs.text.Statuses.{not_found, bad_request}

-- an answer to come, a request to a door, or a refusal with its status
pub data Wish : Type 0 where
  Unfinished : Wish
  Wants : Request → Wish
  Refuses : ℕ → Wish

-- the most instructions between `select` and `connect`
abbrev pub most_between : ℕ
most_between = 64

-- the values of parameters; an empty one has its default
abbrev pub port_of : List ℕ → Option ℕ
port_of [] = Some 23
port_of (b ∷ bs) = number_within 1 65535 (b ∷ bs)

abbrev pub is_term : List ℕ → Bool
is_term value = nat_le (length value) most_term && list_all is_mark value

abbrev pub term_of : List ℕ → Option (List ℕ)
term_of [] = Some (codes "linux")
term_of (b ∷ bs) = if is_term (b ∷ bs) then Some (b ∷ bs) else None

abbrev pub mode_of : List ℕ → Option Share
mode_of value =
    if bytes_eq value (codes "") then Some share.Nobody else (
    if bytes_eq value (codes "none") then Some share.Nobody else (
    if bytes_eq value (codes "view") then Some share.View else (
    if bytes_eq value (codes "control") then Some share.Control else None)))

abbrev pub is_read_only : List ℕ → Bool
is_read_only value = bytes_eq value (codes "true")

-- the columns and rows of a display of 8 by 16 pixels a cell, kept within limits; 80 by 24 without a size
abbrev pub cols_of : Option (ℕ × ℕ) → ℕ
cols_of None = 80
cols_of (Some size) = max 1 (min 512 (size.0 / 8))

abbrev pub rows_of : Option (ℕ × ℕ) → ℕ
rows_of None = 24
rows_of (Some size) = max 1 (min 256 (size.1 / 16))

-- a session that is to begin, of values that are all in form
abbrev pub ask_of : List ℕ → Option ℕ → Option (List ℕ) → Option Share → Bool → Option (ℕ × ℕ) → Option Ask
ask_of host (Some port) (Some term) (Some mode) read_only size =
    Some (record { host = host; port = port; term = term; mode = mode; read_only = read_only; cols = cols_of size; rows = rows_of size })
ask_of host port term mode read_only size = None

-- a session can be opened as it is asked: its screen has a size, and its terminal type is one
pub record IsAskable (ask : Ask) : Type 0 where
  pub size : IsScreenSize ask.cols ask.rows
  pub term : IsTerminalType ask.term

-- what a door may be asked
abbrev pub MayAsk : Request → Type 0
MayAsk (Begin ask) = IsAskable ask
MayAsk (Join name role) = Unit {0}

-- the values of `connect` for a session that is to begin: the version, host, port, terminal type, read-only, sharing
abbrev pub beginning : List (List ℕ) → Option (ℕ × ℕ) → Option Ask
beginning (version ∷ host ∷ port ∷ term ∷ read_only ∷ sharing ∷ []) size = ask_of host (port_of port) (term_of term) (mode_of sharing) (is_read_only read_only) size
beginning values size = None

-- a joiner types only where it didn't ask to look on
abbrev pub role_asked : List ℕ → Asked
role_asked read_only = if is_read_only read_only then role.View else role.Control

-- the values of `connect` for a joiner: the version, read-only
abbrev pub joining : List (List ℕ) → Option Asked
joining (version ∷ read_only ∷ []) = Some (role_asked read_only)
joining values = None

-- the request of `connect`
abbrev pub begin_wish : Option Ask → Wish
begin_wish (Some ask) = Wants (Begin ask)
begin_wish None = Refuses bad_request

abbrev pub join_wish : List ℕ → Option Asked → Wish
join_wish id (Some asked) = Wants (Join id asked)
join_wish id None = Refuses bad_request

abbrev pub connects_as : Selected → List (List ℕ) → Option (ℕ × ℕ) → Wish
connects_as Telnet values size = begin_wish (beginning (drop 1 values) size)
connects_as (Known id) values size = join_wish id (joining (drop 1 values))

-- an instruction is `connect`, and the size that it says
abbrev pub connects_in : Greeting → Bool
connects_in Connects = true
connects_in (Selects name) = false
connects_in (HasSize width height) = false
connects_in SaysOther = false

abbrev pub is_connect : List (List ℕ) → Bool
is_connect values = connects_in (greeting_of values)

abbrev pub size_after : Option (ℕ × ℕ) → Greeting → Option (ℕ × ℕ)
size_after kept (HasSize width height) = Some (width, height)
size_after kept (Selects name) = kept
size_after kept Connects = kept
size_after kept SaysOther = kept

-- the last readable size of the instructions
abbrev pub last_size : List (List (List ℕ)) → Option (ℕ × ℕ)
last_size instructions = fold (λ kept values. size_after kept (greeting_of values)) None instructions

-- the instructions before the first `connect`
abbrev pub before_connect : List (List (List ℕ)) → List (List (List ℕ))
before_connect instructions = take_while (λ values. not (is_connect values)) instructions

-- the wish of the first `connect`, if it came
abbrev pub connect_wish : Selected → Option (List (List ℕ)) → Option (ℕ × ℕ) → Wish
connect_wish selected None size = Unfinished
connect_wish selected (Some values) size = connects_as selected values size

-- what the instructions behind `select` ask
abbrev pub asks_behind : Selected → List (List (List ℕ)) → Wish
asks_behind selected instructions =
    if nat_lt most_between (length (before_connect instructions))
    then Refuses bad_request
    else connect_wish selected (find is_connect instructions) (last_size (before_connect instructions))

-- what is selected, if it is known; `known` says whether the door has the ID of that name
abbrev pub selected_by : Bool → List ℕ → Option Selected
selected_by known name =
    if bytes_eq name (codes "telnet") then Some Telnet else (if known then Some (Known name) else None)

abbrev pub asks_selected : Option Selected → List (List (List ℕ)) → Wish
asks_selected (Some selected) others = asks_behind selected others
asks_selected None others = Refuses not_found

abbrev pub asks_first : Bool → Greeting → List (List (List ℕ)) → Wish
asks_first known (Selects name) others = asks_selected (selected_by known name) others
asks_first known (HasSize width height) others = Refuses bad_request
asks_first known Connects others = Refuses bad_request
asks_first known SaysOther others = Refuses bad_request

-- what the instructions ask
abbrev pub asks : Bool → List (List (List ℕ)) → Wish
asks known [] = Unfinished
asks known (first ∷ others) = asks_first known (greeting_of first) others

-- no instruction was read behind those that settle what is asked: those before any one of them leave it open
abbrev pub ReadsNoFurther : (List (List (List ℕ)) → Wish) → List (List (List ℕ)) → Type 0
ReadsNoFurther asked instructions = (front more : List (List (List ℕ))) (values : List (List ℕ)) → instructions ≡ front ++ values ∷ more → asked front ≡ Unfinished

-- what the first instruction selects
abbrev pub selection_of : Bool → Greeting → Option Selected
selection_of known (Selects name) = selected_by known name
selection_of known (HasSize width height) = None
selection_of known Connects = None
selection_of known SaysOther = None

abbrev pub selected : Bool → List (List (List ℕ)) → Option Selected
selected known [] = None
selected known (first ∷ others) = selection_of known (greeting_of first)
