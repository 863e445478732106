-- What the fields of a request's head say of its body (RFC 9112, section 6; the limits, and that a length given twice
-- must be one number, are this project's own). A field is its name and its value.
use Rattle.std.specs.Prelude.{◌≡◌, ℕ, ◌≤◌, List, [], ◌∷◌, map, fold, Bool, true, false, nat_lt, ◌==◌, ◌||◌, if◌then◌else◌, bytes_eq, codes, Option, Some, None, Result, Ok, Err}
use Rattle.std.specs.Char.{to_ascii_lowercase}
use Rattle.gate_model.specs.text.Numerals.{number_in}
use Rattle.http_front.specs.declared.lengths.BodyLength.{BodyLength}
use Rattle.http_front.specs.declared.lengths.BodyLength.TheVariants.{NotGiven, Given, Unclear}

-- the most bytes of a body
abbrev pub most_body : ℕ
most_body = 1048576

-- the field has this name; letters are the same in either case
abbrev pub is_named : List ℕ → List ℕ → Bool
is_named name written = bytes_eq (map to_ascii_lowercase written) (map to_ascii_lowercase name)

-- the length after one more value of it: a value that isn't 1 to 20 digits, and two different numbers, make it
-- unclear for good
abbrev pub agreed : BodyLength → Option ℕ → BodyLength
agreed NotGiven (Some n) = Given n
agreed NotGiven None = Unclear
agreed (Given m) (Some n) = if m == n then Given m else Unclear
agreed (Given m) None = Unclear
agreed Unclear value = Unclear

abbrev pub with_field : BodyLength → List ℕ × List ℕ → BodyLength
with_field said field = if is_named (codes "content-length") field.0 then agreed said (number_in field.1) else said

-- what the fields say of the length
abbrev pub length_said : List (List ℕ × List ℕ) → BodyLength
length_said fields = fold with_field NotGiven fields

-- the body is sent in another form than as it is, after one more field
abbrev pub encoded_by : Bool → List ℕ × List ℕ → Bool
encoded_by encoded field = encoded || is_named (codes "transfer-encoding") field.0

-- .. by some field
abbrev pub is_encoded : List (List ℕ × List ℕ) → Bool
is_encoded fields = fold encoded_by false fields

-- the number of the body's bytes
abbrev pub body_length : BodyLength → ℕ
body_length NotGiven = 0
body_length (Given n) = n
body_length Unclear = 0

-- the status with which a head of these fields is refused, the first that holds
abbrev pub refused_length : BodyLength → Bool → Option ℕ
refused_length Unclear encoded = Some 400
refused_length NotGiven encoded = if encoded then Some 501 else None
refused_length (Given n) encoded = if encoded then Some 501 else (if nat_lt most_body n then Some 413 else None)

abbrev pub refusal_of : List (List ℕ × List ℕ) → Option ℕ
refusal_of fields = refused_length (length_said fields) (is_encoded fields)

-- a head is taken, with a body of that many bytes, or refused with that status
abbrev pub Decides : BodyLength → Bool → Result ℕ ℕ → Type 0
Decides said encoded (Ok size) = (refused_length said encoded ≡ None) × (size ≡ body_length said) × (size ≤ most_body)
Decides said encoded (Err status) = refused_length said encoded ≡ Some status
