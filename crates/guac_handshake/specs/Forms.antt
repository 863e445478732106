-- What the form of a connection asks (the URL standard, section 5, on `application/x-www-form-urlencoded`; the fields,
-- their forms and their defaults are this project's own).
use Rattle.std.specs.Prelude.{◌≡◌, ◌⊎◌, ℕ, List, [], fold, Bool, true, ◌&&◌, if◌then◌else◌, bytes_eq, codes, All, IsUtf8, Option, Some, None, unwrap_or, option_and_then}
use Rattle.form_urlencoded.specs.Form.{parse}
use Rattle.gate_model.specs.text.Numerals.{is_number, number_of_bits}
use Rattle.gate_model.specs.declared.sharing.Asked.{Asked}
use Rattle.gate_model.specs.declared.sharing.Asked.TheVariants as role
use Rattle.guac_handshake.specs.Asks.{ask_of, is_read_only, mode_of, port_of, term_of}
use Rattle.guac_handshake.specs.declared.ask.Ask.{Ask}
use Rattle.guac_handshake.specs.declared.form.Fields.{Fields}
use Rattle.guac_handshake.specs.declared.form_refusal.FormRefusal.{FormRefusal}
use Rattle.guac_handshake.specs.declared.form_refusal.FormRefusal.TheVariants as refusal
use Rattle.guac_handshake.specs.declared.request.Request.{Request}
use Rattle.guac_handshake.specs.declared.request.Request.TheVariants.{Begin, Join}

-- ---- the fields

-- none is given
abbrev pub no_fields : Fields
no_fields = record { id = None; host = None; port = None; term = None; read_only = None; sharing = None; width = None; height = None }

-- the fields after one more name and value: the last value of a name counts, and an unknown name is passed over
abbrev pub with_pair : Fields → List ℕ × List ℕ → Fields
with_pair fields pair =
    if bytes_eq pair.0 (codes "id") then record fields { id = Some pair.1 } else (
    if bytes_eq pair.0 (codes "hostname") then record fields { host = Some pair.1 } else (
    if bytes_eq pair.0 (codes "port") then record fields { port = Some pair.1 } else (
    if bytes_eq pair.0 (codes "terminal-type") then record fields { term = Some pair.1 } else (
    if bytes_eq pair.0 (codes "read-only") then record fields { read_only = Some pair.1 } else (
    if bytes_eq pair.0 (codes "sharing") then record fields { sharing = Some pair.1 } else (
    if bytes_eq pair.0 (codes "width") then record fields { width = Some pair.1 } else (
    if bytes_eq pair.0 (codes "height") then record fields { height = Some pair.1 } else fields)))))))

abbrev pub fields_of : List (List ℕ × List ℕ) → Fields
fields_of pairs = fold with_pair no_fields pairs

-- ---- what they ask

-- the text of a field, which is empty where it isn't given
abbrev pub text_of : Option (List ℕ) → List ℕ
text_of value = unwrap_or value []

-- a size that is given is 1 to 20 digits
abbrev pub is_size_text : Option (List ℕ) → Bool
is_size_text None = true
is_size_text (Some value) = is_number value

-- the size of the display in pixels, where both are given and neither is over 2^31 - 1
abbrev pub both : Option ℕ → Option ℕ → Option (ℕ × ℕ)
both None height = None
both (Some width) None = None
both (Some width) (Some height) = Some (width, height)

abbrev pub size_of : Fields → Option (ℕ × ℕ)
size_of fields = both (number_of_bits 31 (text_of fields.width)) (number_of_bits 31 (text_of fields.height))

-- the values of the fields, where they are all in form
abbrev pub ask_in : Fields → Option Ask
ask_in fields = ask_of (text_of fields.host) (port_of (text_of fields.port)) (term_of (text_of fields.term)) (mode_of (text_of fields.sharing)) (is_read_only (text_of fields.read_only)) (size_of fields)

-- an ID asks for a place in its session, and a host without one for a session that is to begin
abbrev pub role_of : Ask → Asked
role_of ask = if ask.read_only then role.View else role.Control

abbrev pub request_of : Option (List ℕ) → Option (List ℕ) → Ask → Option Request
request_of (Some id) host ask = Some (Join id (role_of ask))
request_of None (Some host) ask = Some (Begin ask)
request_of None None ask = None

abbrev pub asked_by : Fields → Option Request
asked_by fields = if is_size_text fields.width && is_size_text fields.height then option_and_then (request_of fields.id fields.host) (ask_in fields) else None

-- ---- forms

-- a name and a value are text
abbrev pub IsText : List ℕ × List ℕ → Type 0
IsText pair = IsUtf8 pair.0 × IsUtf8 pair.1

-- the body is a form that asks this: each pair is UTF-8 once it is decoded, and the fields ask it
pub record IsForm (body : List ℕ) (request : Request) : Type 0 where
  pub texts : All IsText (parse body)
  pub asks : asked_by (fields_of (parse body)) ≡ Some request

-- the body isn't of the form
abbrev pub IsNoForm : List ℕ → Type 0
IsNoForm body = (All IsText (parse body) → ⊥) ⊎ (asked_by (fields_of (parse body)) ≡ None)

-- why reading a form stopped: P holds where it is out of form, and memory may be wanting
abbrev pub StoppedBy : Type 0 → FormRefusal → Type 0
StoppedBy P refusal.Form = P
StoppedBy P refusal.NoMemory = Unit {0}
StoppedBy P (refusal.Door refused) = ⊥
