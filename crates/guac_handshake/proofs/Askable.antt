-- What instructions and forms ask of a door may be asked.
use Rattle.std.proofs.Common.{◌≡◌, ◌≤◌, ℕ, List, [], ◌∷◌, Option, Some, None, Bool, true, false, ◌&&◌, if◌then◌else◌, nat_le, nat_lt, length, drop, max, min, refl, subst, arith}
use Rattle.std.specs.Prelude.{◌/◌, codes, find, option_and_then}
use Rattle.std.specs.List.{list_all}
use Rattle.std.proofs.lemmas.Bool.Decides.{nat_tests}
use Rattle.std.proofs.Math.Nat.{le-max_left, max-le, min-le_left}
use Rattle.form_urlencoded.specs.Form.{parse}
use Rattle.gate_model.specs.session.Steps.{IsTerminalType, is_mark}
use Rattle.gate_model.specs.terminal.Sizes.{IsScreenSize}
use Rattle.gate_model.specs.text.HelloMeaning.{Greeting, Selects, HasSize, Connects, SaysOther, greeting_of}
use Rattle.gate_model.specs.declared.sharing.Asked.{Asked}
use Rattle.gate_model.specs.declared.sharing.Share.{Share}
use Rattle.guac_handshake.specs.declared.ask.Ask.{Ask}
use Rattle.guac_handshake.specs.declared.form.Fields.{Fields}
use Rattle.guac_handshake.specs.declared.request.Request.{Request}
use Rattle.guac_handshake.specs.declared.request.Request.TheVariants.{Begin, Join}
use Rattle.guac_handshake.specs.declared.request.Selected.{Selected}
use Rattle.guac_handshake.specs.declared.request.Selected.TheVariants.{Telnet, Known}
use Rattle.guac_handshake.specs.Asks.{IsAskable, MayAsk, Refuses, Wants, Wish, ask_of, asks, asks_behind, asks_first, asks_selected, before_connect, begin_wish, beginning, cols_of, connect_wish, connects_as, is_connect, is_read_only, is_term, join_wish, joining, last_size, mode_of, most_between, port_of, rows_of, selected_by, term_of}
use Rattle.guac_handshake.specs.Forms.{IsForm, ask_in, asked_by, fields_of, is_size_text, request_of, role_of, size_of, text_of}
use Rattle.gate_model.specs.text.Statuses.{bad_request}

-- ---- sizes and terminal types

kept_within : (least most n : ℕ) → least ≤ most → (least ≤ max least (min most n)) × (max least (min most n) ≤ most)
kept_within least most n le = (le-max_left least (min most n), max-le le (min-le_left most n))

columns_fit : (size : Option (ℕ × ℕ)) → (1 ≤ cols_of size) × (cols_of size ≤ 512)
columns_fit None = (omega arith, omega arith)
columns_fit (Some size) = kept_within 1 512 (size.0 / 8) (omega arith)

rows_fit : (size : Option (ℕ × ℕ)) → (1 ≤ rows_of size) × (rows_of size ≤ 256)
rows_fit None = (omega arith, omega arith)
rows_fit (Some size) = kept_within 1 256 (size.1 / 16) (omega arith)

is_size : (size : Option (ℕ × ℕ)) → IsScreenSize (cols_of size) (rows_of size)
is_size size =
    let c = columns_fit size in
    let r = rows_fit size in
    record { some_columns = c.0; few_columns = c.1; some_rows = r.0; few_rows = r.1 }

marks_only : (few marks : Bool) → (few && marks) ≡ true → (few ≡ true) × (marks ≡ true)
marks_only true marks e = (cc, e)
marks_only false marks e = (cc, absurd (cc))

some_term : (b : ℕ) (bs : List ℕ) → is_term (b ∷ bs) ≡ true → IsTerminalType (b ∷ bs)
some_term b bs is =
    let parts = marks_only (nat_le (length (b ∷ bs)) 40) (list_all is_mark (b ∷ bs)) is in
    record { some = omega arith; few = grind (arith, nat_tests, parts.0); marks = parts.1 }

given_term : (is : Bool) (b : ℕ) (bs term : List ℕ) → (is ≡ true → IsTerminalType (b ∷ bs)) → (if is then Some (b ∷ bs) else None) ≡ Some term → IsTerminalType term
given_term true b bs term f e = subst IsTerminalType (let same : b ∷ bs ≡ term = cc in same) (f (cc))
given_term false b bs term f e = absurd (cc)

-- a terminal type that is in form, or that stands for none, is one
is_terminal_type : (value term : List ℕ) → term_of value ≡ Some term → IsTerminalType term
is_terminal_type [] term e = subst IsTerminalType (let same : codes "linux" ≡ term = cc in same) (record { some = omega arith; few = omega arith; marks = refl })
is_terminal_type (b ∷ bs) term e = given_term (is_term (b ∷ bs)) b bs term (some_term b bs) e

-- ---- a session that is to begin

asked_so : (host : List ℕ) (port : ℕ) (term : List ℕ) (mode : Share) (r : Bool) (size : Option (ℕ × ℕ)) (ask : Ask) → IsTerminalType term → ask_of host (Some port) (Some term) (Some mode) r size ≡ Some ask → IsAskable ask
asked_so host port term mode r size ask is e =
    subst IsAskable (let same : record { host = host; port = port; term = term; mode = mode; read_only = r; cols = cols_of size; rows = rows_of size } ≡ ask = cc in same) (record { size = is_size size; term = is })

pub ask_fits : (host : List ℕ) (port : Option ℕ) (term : Option (List ℕ)) (mode : Option Share) (r : Bool) (size : Option (ℕ × ℕ)) (ask : Ask) → ((t : List ℕ) → term ≡ Some t → IsTerminalType t) → ask_of host port term mode r size ≡ Some ask → IsAskable ask
ask_fits host (Some port) (Some term) (Some mode) r size ask f e = asked_so host port term mode r size ask (f term refl) e
ask_fits host None term mode r size ask f e = absurd (cc)
ask_fits host (Some port) None mode r size ask f e = absurd (cc)
ask_fits host (Some port) (Some term) None r size ask f e = absurd (cc)

-- ---- instructions

begins_fit : (values : List (List ℕ)) (size : Option (ℕ × ℕ)) (ask : Ask) → beginning values size ≡ Some ask → IsAskable ask
begins_fit (version ∷ host ∷ port ∷ term ∷ read_only ∷ sharing ∷ []) size ask e = ask_fits host (port_of port) (term_of term) (mode_of sharing) (is_read_only read_only) size ask (is_terminal_type term) e
begins_fit [] size ask e = absurd (cc)
begins_fit (a ∷ []) size ask e = absurd (cc)
begins_fit (a ∷ b ∷ []) size ask e = absurd (cc)
begins_fit (a ∷ b ∷ c ∷ []) size ask e = absurd (cc)
begins_fit (a ∷ b ∷ c ∷ d ∷ []) size ask e = absurd (cc)
begins_fit (a ∷ b ∷ c ∷ d ∷ x ∷ []) size ask e = absurd (cc)
begins_fit (a ∷ b ∷ c ∷ d ∷ x ∷ y ∷ z ∷ more) size ask e = absurd (cc)

wished_to_begin : (o : Option Ask) (request : Request) → ((ask : Ask) → o ≡ Some ask → IsAskable ask) → begin_wish o ≡ Wants request → MayAsk request
wished_to_begin None request f e = absurd (cc)
wished_to_begin (Some ask) request f e = subst MayAsk (let same : Begin ask ≡ request = cc in same) (f ask refl)

wished_to_join : (id : List ℕ) (o : Option Asked) (request : Request) → join_wish id o ≡ Wants request → MayAsk request
wished_to_join id None request e = absurd (cc)
wished_to_join id (Some asked) request e = subst MayAsk (let same : Join id asked ≡ request = cc in same) tt

connects : (chosen : Selected) (values : List (List ℕ)) (size : Option (ℕ × ℕ)) (request : Request) → connects_as chosen values size ≡ Wants request → MayAsk request
connects Telnet values size request e = wished_to_begin (beginning (drop 1 values) size) request (begins_fit (drop 1 values) size) e
connects (Known id) values size request e = wished_to_join id (joining (drop 1 values)) request e

connect_came : (chosen : Selected) (o : Option (List (List ℕ))) (size : Option (ℕ × ℕ)) (request : Request) → connect_wish chosen o size ≡ Wants request → MayAsk request
connect_came chosen None size request e = absurd (cc)
connect_came chosen (Some values) size request e = connects chosen values size request e

unless_many : (many : Bool) (wish : Wish) (request : Request) → (wish ≡ Wants request → MayAsk request) → (if many then Refuses bad_request else wish) ≡ Wants request → MayAsk request
unless_many true wish request f e = absurd (cc)
unless_many false wish request f e = f e

behind : (chosen : Selected) (others : List (List (List ℕ))) (request : Request) → asks_behind chosen others ≡ Wants request → MayAsk request
behind chosen others request e =
    unless_many (nat_lt most_between (length (before_connect others))) (connect_wish chosen (find is_connect others) (last_size (before_connect others))) request
    (connect_came chosen (find is_connect others) (last_size (before_connect others)) request) e

selects : (o : Option Selected) (others : List (List (List ℕ))) (request : Request) → asks_selected o others ≡ Wants request → MayAsk request
selects None others request e = absurd (cc)
selects (Some chosen) others request e = behind chosen others request e

begins_with : (known : Bool) (g : Greeting) (others : List (List (List ℕ))) (request : Request) → asks_first known g others ≡ Wants request → MayAsk request
begins_with known (Selects name) others request e = selects (selected_by known name) others request e
begins_with known (HasSize w h) others request e = absurd (cc)
begins_with known Connects others request e = absurd (cc)
begins_with known SaysOther others request e = absurd (cc)

-- what instructions ask
pub wanted : (known : Bool) (instructions : List (List (List ℕ))) (request : Request) → asks known instructions ≡ Wants request → MayAsk request
wanted known [] request e = absurd (cc)
wanted known (first ∷ others) request e = begins_with known (greeting_of first) others request e

-- ---- forms

asked_for : (id host : Option (List ℕ)) (ask : Ask) (request : Request) → IsAskable ask → request_of id host ask ≡ Some request → MayAsk request
asked_for (Some id) host ask request is e = subst MayAsk (let same : Join id (role_of ask) ≡ request = cc in same) tt
asked_for None (Some host) ask request is e = subst MayAsk (let same : Begin ask ≡ request = cc in same) is
asked_for None None ask request is e = absurd (cc)

asked_with : (id host : Option (List ℕ)) (o : Option Ask) (request : Request) → ((ask : Ask) → o ≡ Some ask → IsAskable ask) → option_and_then (request_of id host) o ≡ Some request → MayAsk request
asked_with id host None request f e = absurd (cc)
asked_with id host (Some ask) request f e = asked_for id host ask request (f ask refl) e

with_sizes : (are : Bool) (o : Option Request) (request : Request) → (o ≡ Some request → MayAsk request) → (if are then o else None) ≡ Some request → MayAsk request
with_sizes true o request f e = f e
with_sizes false o request f e = absurd (cc)

fields_ask : (fields : Fields) (request : Request) → asked_by fields ≡ Some request → MayAsk request
fields_ask fields request e =
    with_sizes (is_size_text fields.width && is_size_text fields.height) (option_and_then (request_of fields.id fields.host) (ask_in fields)) request
    (asked_with fields.id fields.host (ask_in fields) request (λ ask. ask_fits (text_of fields.host) (port_of (text_of fields.port)) (term_of (text_of fields.term)) (mode_of (text_of fields.sharing)) (is_read_only (text_of fields.read_only)) (size_of fields) ask (is_terminal_type (text_of fields.term)))) e

-- what a form asks
pub form_asks : (body : List ℕ) (request : Request) → IsForm body request → MayAsk request
form_asks body request form = fields_ask (fields_of (parse body)) request form.asks
