-- Bytes as hexadecimal digits (this project's own): two for each byte, the greater first. They are read in
-- either case, and written in lower case.
use Rattle.std.specs.Prelude.{ℕ, ◌+◌, ◌-◌, ◌*◌, ◌/◌, ◌%◌, List, [], ◌∷◌, ◌&&◌, nat_le, nat_lt, if◌then◌else◌, Option, Some, None, flat_map}

-- the value of a digit of either case
abbrev pub digit_of : ℕ → Option ℕ
digit_of b =
    if nat_le 48 b && nat_le b 57 then Some (b - 48) else (
    if nat_le 65 b && nat_le b 70 then Some (b - 55) else (
    if nat_le 97 b && nat_le b 102 then Some (b - 87) else None))

-- the byte of two values, the greater first
abbrev pub byte_of : Option ℕ → Option ℕ → Option ℕ
byte_of (Some high) (Some low) = Some (16 * high + low)
byte_of high low = None

-- a byte, before further ones
abbrev pub before_bytes : Option ℕ → Option (List ℕ) → Option (List ℕ)
before_bytes (Some b) (Some bs) = Some (b ∷ bs)
before_bytes b bs = None

-- the bytes that pairs of digits write
abbrev pub bytes_of : List ℕ → Option (List ℕ)
bytes_of [] = Some []
bytes_of (high ∷ []) = None
bytes_of (high ∷ low ∷ digits) = before_bytes (byte_of (digit_of high) (digit_of low)) (bytes_of digits)

-- the digit of a value below 16, in lower case
abbrev pub lower_digit : ℕ → ℕ
lower_digit value = if nat_lt value 10 then value + 48 else value + 87

abbrev pub two_digits : ℕ → List ℕ
two_digits b = lower_digit (b / 16) ∷ lower_digit (b % 16) ∷ []

-- the digits that write the bytes
abbrev pub digits_of : List ℕ → List ℕ
digits_of bytes = flat_map two_digits bytes
