-- The instruction at the front of some bytes, as a function of them (the Guacamole manual, "The Guacamole protocol").
-- `IsFront` says what it finds, in the words of `Spells` of gate_model's `specs/text/Spelling.antt`.
use Rattle.std.specs.Prelude.{ℕ, zero, suc, ◌+◌, ◌-◌, ◌*◌, ◌==◌, ◌&&◌, List, [], ◌∷◌, length, take, drop, Bool, nat_lt, nat_le, if◌then◌else◌, Option, Some, None, option_map, option_and_then}
use Rattle.std.specs.Char.{is_ascii_digit}
use Rattle.std.specs.Str.{chars, is_utf8}
use Rattle.gate_model.specs.Limits.{most_bytes, most_elements}
use Rattle.gate_model.specs.text.Reading.{Head}

-- an instruction as it was sent: its bytes, and its values, the opcode first, each in UTF-8
abbrev pub Sent : Type 0
Sent = List ℕ × List (List ℕ)

-- some number below n at which a test holds
abbrev pub find : (ℕ → Bool) → ℕ → Option ℕ
find test zero = None
find test (suc n) = if test n then Some n else find test n

-- the text has so many characters
abbrev pub has_chars : ℕ → List ℕ → Bool
has_chars count text = is_utf8 text && length (chars text) == count

-- a length and its `.`, of which so many digits were read, with this number: the number, and what is behind
abbrev pub length_at : ℕ → ℕ → List ℕ → Option (ℕ × List ℕ)
length_at n digits [] = None
length_at n digits (b ∷ bytes) =
    if b == 46 then (if nat_lt 0 digits then Some (n, bytes) else None) else (
    if is_ascii_digit b && nat_lt digits 5 then length_at (10 * n + (b - 48)) (digits + 1) bytes else None)

-- a list's front and its rest
abbrev pub cut_at : List ℕ → ℕ → List ℕ × List ℕ
cut_at bytes n = (take n bytes, drop n bytes)

-- a value of so many characters, and what is behind
unfoldable pub value_at : ℕ → List ℕ → Option (List ℕ × List ℕ)
value_at count bytes = option_map (cut_at bytes) (find (λ n. has_chars count (take n bytes)) (length bytes + 1))

abbrev pub element_at : List ℕ → Option (List ℕ × List ℕ)
element_at bytes = option_and_then (λ l. value_at l.0 l.1) (length_at 0 0 bytes)

-- an element before others
abbrev pub with_first : List ℕ → List (List ℕ) × List ℕ → List (List ℕ) × List ℕ
with_first value r = (value ∷ r.0, r.1)

-- behind an element: the end of an instruction, or further elements
abbrev pub behind : (List ℕ → Option (List (List ℕ) × List ℕ)) → List ℕ × List ℕ → Option (List (List ℕ) × List ℕ)
behind others (value, []) = None
behind others (value, b ∷ bytes) =
    if b == 59 then Some (value ∷ [], bytes) else (
    if b == 44 then option_map (with_first value) (others bytes) else None)

-- at most so many elements and the `;`, and what is behind
unfoldable pub elements_at : ℕ → List ℕ → Option (List (List ℕ) × List ℕ)
elements_at zero bytes = None
elements_at (suc n) bytes = option_and_then (behind (elements_at n)) (element_at bytes)

-- an instruction that isn't too long
abbrev pub within : List ℕ → List (List ℕ) × List ℕ → Option (List Sent × List ℕ)
within bytes found =
    let n = length bytes - length found.1 in
    if nat_le n most_bytes then Some ((take n bytes, found.0) ∷ [], found.1) else None

abbrev pub instruction_at : Head ℕ Sent
instruction_at bytes = option_and_then (within bytes) (elements_at most_elements bytes)
