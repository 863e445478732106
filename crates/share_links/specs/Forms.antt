-- What the form of a link asks (the URL standard, section 5, on `application/x-www-form-urlencoded`; the fields are this
-- project's own).
use Rattle.std.specs.Prelude.{◌≡◌, ◌⊎◌, ℕ, List, fold, Bool, true, false, if◌then◌else◌, bytes_eq, codes, All, Option, Some, None, option_and_then, refl}
use Rattle.form_urlencoded.specs.Form.{parse}
use Rattle.gate_model.specs.text.Numerals.{number_within}
use Rattle.guac_handshake.specs.Forms.{IsText}
use Rattle.share_links.specs.declared.form.Fields.{Fields}
use Rattle.share_links.specs.declared.form.Wanted.{Wanted}

-- none is given
abbrev pub no_fields : Fields
no_fields = record { id = None; role = None; uses = None }

-- the fields after one more name and value: the last value of a name counts, and an unknown name is passed over
abbrev pub with_pair : Fields → List ℕ × List ℕ → Fields
with_pair fields pair =
    if bytes_eq pair.0 (codes "id") then record fields { id = Some pair.1 } else (
    if bytes_eq pair.0 (codes "role") then record fields { role = Some pair.1 } else (
    if bytes_eq pair.0 (codes "uses") then record fields { uses = Some pair.1 } else fields))

abbrev pub fields_of : List (List ℕ × List ℕ) → Fields
fields_of pairs = fold with_pair no_fields pairs

-- whether the role is Control; any other text than the two is out of form
abbrev pub control_of : List ℕ → Option Bool
control_of role = if bytes_eq role (codes "control") then Some true else (if bytes_eq role (codes "view") then Some false else None)

-- how often people may join, in 1 to 20 digits
abbrev pub uses_of : List ℕ → Option ℕ
uses_of text = number_within 1 1000000 text

most_uses : uses_of (codes "1000000") ≡ Some 1000000
most_uses = refl

too_many_uses : uses_of (codes "1000001") ≡ None
too_many_uses = refl

no_uses : uses_of (codes "0") ≡ None
no_uses = refl

-- a link is wanted where all three are given, and in form
abbrev pub wanted_of : List ℕ → Option Bool → Option ℕ → Option Wanted
wanted_of id (Some control) (Some uses) = Some (record { id = id; control = control; uses = uses })
wanted_of id (Some control) None = None
wanted_of id None uses = None

abbrev pub wanted_by : Fields → Option Wanted
wanted_by fields = option_and_then (λ id. wanted_of id (option_and_then control_of fields.role) (option_and_then uses_of fields.uses)) fields.id

-- the body is a form that wants this: each pair is UTF-8 once it is decoded, and the fields want it
pub record IsForm (body : List ℕ) (wanted : Wanted) : Type 0 where
  pub texts : All IsText (parse body)
  pub asks : wanted_by (fields_of (parse body)) ≡ Some wanted

-- the body isn't of the form
abbrev pub IsNoForm : List ℕ → Type 0
IsNoForm body = (All IsText (parse body) → ⊥) ⊎ (wanted_by (fields_of (parse body)) ≡ None)
