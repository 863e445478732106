-- The forms of the values of the options of `serve` (this project's own).
use Rattle.std.specs.Prelude.{ℕ, List, [], ◌∷◌, Bool, true, false, ◌&&◌, ◌||◌, length, ◌==◌, nat_le, if◌then◌else◌, Option, Some, None, codes, bytes_eq, option_and_then}
use Rattle.std.specs.Char.{is_ascii_alphanumeric}
use Rattle.std.specs.List.{list_all}
use Rattle.std.specs.Option.{option_map}
use Rattle.std.specs.Path.{rsplit_once}
use Rattle.std.specs.Result.{result_ok}
use Rattle.gate_model.specs.declared.faces.Faces.{Faces}
use Rattle.gate_model.specs.declared.faces.Faces.TheVariants.{Ascii, More}
use Rattle.gate_model.specs.text.Numerals.{number_within}
use Rattle.hex.specs.Hex.{decode_sized}
use Rattle.log.specs.declared.level.LevelFilter.{LevelFilter}
use Rattle.log.specs.declared.level.LevelFilter.TheVariants.{Error, Warn, Info}
use Rattle.serve_options.specs.declared.format.LogFormat.{LogFormat}
use Rattle.serve_options.specs.declared.format.LogFormat.TheVariants.{Json, Text}

-- a seed is 32 bytes, each of two hexadecimal digits of either case, the high four bits first
abbrev pub seed_of : List ℕ → Option (List ℕ)
seed_of text = result_ok (decode_sized text 32)

-- a port is a number from 1 to 65,535
abbrev pub port_of : List ℕ → Option ℕ
port_of text = number_within 1 65535 text

-- a level is one of three words
abbrev pub level_of : List ℕ → Option LevelFilter
level_of text =
    if bytes_eq text (codes "error") then Some Error
    else if bytes_eq text (codes "warn") then Some Warn
    else if bytes_eq text (codes "info") then Some Info
    else None

-- notes are written as text or as JSON
abbrev pub format_of : List ℕ → Option LogFormat
format_of text = if bytes_eq text (codes "text") then Some Text else if bytes_eq text (codes "json") then Some Json else None

-- sessions have the faces of ASCII alone, or more
abbrev pub faces_of : List ℕ → Option Faces
faces_of text = if bytes_eq text (codes "ascii") then Some Ascii else if bytes_eq text (codes "more") then Some More else None

-- an address of a recorder: a host, which isn't empty, and a port
abbrev pub Address : Type 0
Address = List ℕ × ℕ

-- the address of the two parts of a text
abbrev pub address_in : List ℕ × List ℕ → Option Address
address_in parts = if length parts.0 == 0 then None else option_map (λ port. (parts.0, port)) (port_of parts.1)

-- they stand round its last colon
abbrev pub address_of : List ℕ → Option Address
address_of text = option_and_then address_in (rsplit_once 0x3A text)

-- seconds are a number from 0 to 1,000,000
abbrev pub seconds_of : List ℕ → Option ℕ
seconds_of text = number_within 0 1000000 text

module _ {A : Type 0} where
  -- one more, where it and the others are there
  abbrev pub and_more : Option A → Option (List A) → Option (List A)
  and_more None more = None
  and_more (Some first) None = None
  and_more (Some first) (Some more) = Some (first ∷ more)

-- the addresses of texts, each of which is that of one
abbrev pub addresses_of : List (List ℕ) → Option (List Address)
addresses_of [] = Some []
addresses_of (text ∷ texts) = and_more (address_of text) (addresses_of texts)

-- what alone may be dialed; without the option all may
abbrev pub allowed_of : Option (List (List ℕ)) → Option (Option (List Address))
allowed_of None = Some None
allowed_of (Some texts) = option_map (λ addresses. Some addresses) (addresses_of texts)

-- the recorder that an option names; without the option none is wanted
abbrev pub recorder_of : Option (List ℕ) → Option (Option Address)
recorder_of None = Some None
recorder_of (Some text) = option_map (λ address. Some address) (address_of text)

-- where the operator asks: an address and a port, or a port of this machine alone, where no colon stands in the text
abbrev pub at_loopback : ℕ → Address
at_loopback port = (codes "127.0.0.1", port)

abbrev pub place_in : List ℕ → Option (List ℕ × List ℕ) → Option Address
place_in text None = option_map at_loopback (port_of text)
place_in text (Some parts) = address_in parts

abbrev pub place_of : List ℕ → Option Address
place_of text = place_in text (rsplit_once 0x3A text)

-- the place that an option names; without the option the operator asks nowhere
abbrev pub admin_of : Option (List ℕ) → Option (Option Address)
admin_of None = Some None
admin_of (Some text) = option_map (λ place. Some place) (place_of text)

-- whether a flag is given, by the text that the command has for it
abbrev pub flag_of : List ℕ → Option Bool
flag_of text = if bytes_eq text (codes "true") then Some true else if bytes_eq text (codes "false") then Some false else None

-- a name of a machine has 1 to 253 letters, digits, hyphens, dots and underscores (RFC 1123, section 2.1)
abbrev pub is_name_sign : ℕ → Bool
is_name_sign sign = is_ascii_alphanumeric sign || sign == 0x2D || sign == 0x2E || sign == 0x5F

abbrev pub is_name : List ℕ → Bool
is_name text = nat_le 1 (length text) && nat_le (length text) 253 && list_all is_name_sign text

-- the name of a text
abbrev pub name_of : List ℕ → Option (List ℕ)
name_of text = if is_name text then Some text else None

-- the names of texts, each of which is one
abbrev pub names_of : List (List ℕ) → Option (List (List ℕ))
names_of [] = Some []
names_of (text ∷ texts) = and_more (name_of text) (names_of texts)

-- the names by which the page may be asked for, where it is wanted; without it none may be given
abbrev pub page_of : Bool → Option (List (List ℕ)) → Option (Option (List (List ℕ)))
page_of false None = Some None
page_of false (Some texts) = None
page_of true None = Some (Some [])
page_of true (Some texts) = option_map (λ names. Some names) (names_of texts)
