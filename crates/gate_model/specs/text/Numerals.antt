-- Numbers as the values of elements (the Guacamole manual has them in decimal; the number of digits, leading zeros and
-- the ranges are this project's own). A value is the list of its code points.
use Rattle.std.specs.Prelude.{ℕ, ◌-◌, ◌^◌, ℤ, pos, neg_ℤ, List, [], ◌∷◌, length, Bool, ◌&&◌, ◌==◌, Option, Some, None, option_and_then, option_map, if◌then◌else◌, slice_get}
use Rattle.std.specs.Int.{is_in_range}
use Rattle.std.specs.Char.{is_ascii_digit}
use Rattle.std.specs.List.{list_all}
use Rattle.gate_model.specs.Limits.{most_buffers}
use Rattle.gate_model.specs.text.Spelling.{number_of}

-- the value of element k as this reads it, or nothing; the opcode is element 0
abbrev pub value_at : {A : Type 0} → (List ℕ → Option A) → ℕ → List (List ℕ) → Option A
value_at reads k elements = option_and_then reads (slice_get elements k)

-- 1 to 20 digits, leading zeros among them
abbrev pub is_number : List ℕ → Bool
is_number value = is_in_range 1 20 (length value) && list_all is_ascii_digit value

-- the number, where it is one
abbrev pub number_in : List ℕ → Option ℕ
number_in value = if is_number value then Some (number_of value) else None

-- a number from `least` to `most`
abbrev pub number_within : ℕ → ℕ → List ℕ → Option ℕ
number_within least most value = if is_number value && is_in_range least most (number_of value) then Some (number_of value) else None

-- a number of at most so many bits
abbrev pub number_of_bits : ℕ → List ℕ → Option ℕ
number_of_bits bits value = number_within 0 (2 ^ bits - 1) value

-- a number of at most 31 bits, with or without a `-` before it
abbrev pub coordinate_of : List ℕ → Option ℤ
coordinate_of [] = None
coordinate_of (c ∷ cs) = if c == 0x2D then option_map (λ n. neg_ℤ (pos n)) (number_of_bits 31 cs) else option_map (λ n. pos n) (number_of_bits 31 (c ∷ cs))

-- the number of a layer: 0, or a `-` and 1 to 1,024
abbrev pub layer_of : List ℕ → Option ℤ
layer_of [] = None
layer_of (c ∷ cs) = if c == 0x2D then option_map (λ n. neg_ℤ (pos n)) (number_within 1 most_buffers cs) else option_map (λ n. pos n) (number_within 0 0 (c ∷ cs))
