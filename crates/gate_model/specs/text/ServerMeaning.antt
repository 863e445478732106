-- What an instruction that the gateway sends means when it is read back (the Guacamole manual, "Guacamole protocol
-- reference"; the ranges are this project's own). An instruction is the list of its elements, the opcode first; an element
-- is the list of its code points. Elements after those that are named are ignored.
use Rattle.std.specs.Prelude.{ℕ, ℤ, List, Option, Some, None, option_and_then, option_map, if◌then◌else◌, slice_get, bytes_eq, codes}
use Rattle.gate_model.specs.declared.instr.Instr.{Instr}
use Rattle.gate_model.specs.declared.instr.Instr.TheVariants.{Size, Rect, Cfill, Copy, Sync, Disconnect, Error}
use Rattle.gate_model.specs.Limits.{most_extent}
use Rattle.gate_model.specs.text.Numerals.{value_at, number_within, number_of_bits, layer_of}

-- the width or the height of a layer
abbrev pub extent_of : List ℕ → Option ℕ
extent_of = number_within 0 most_extent

-- the mask "over", and an opaque alpha
abbrev pub over_of : List ℕ → Option ℕ
over_of = number_within 14 14

abbrev pub opaque_of : List ℕ → Option ℕ
opaque_of = number_within 255 255

-- an instruction of values that are all there
abbrev pub size_instr : Option ℤ → Option ℕ → Option ℕ → Option Instr
size_instr (Some layer) (Some width) (Some height) = Some (Size layer width height)
size_instr layer width height = None

abbrev pub rect_instr : Option ℤ → Option ℕ → Option ℕ → Option ℕ → Option ℕ → Option Instr
rect_instr (Some layer) (Some x) (Some y) (Some width) (Some height) = Some (Rect layer x y width height)
rect_instr layer x y width height = None

abbrev pub cfill_instr : Option ℕ → Option ℤ → Option ℕ → Option ℕ → Option ℕ → Option ℕ → Option Instr
cfill_instr (Some mask) (Some layer) (Some red) (Some green) (Some blue) (Some alpha) = Some (Cfill layer red green blue)
cfill_instr mask layer red green blue alpha = None

abbrev pub copy_instr : Option ℤ → Option ℕ → Option ℕ → Option ℕ → Option ℕ → Option ℕ → Option ℤ → Option ℕ → Option ℕ → Option Instr
copy_instr (Some from) (Some x) (Some y) (Some width) (Some height) (Some mask) (Some to) (Some to_x) (Some to_y) = Some (Copy from x y width height to to_x to_y)
copy_instr from x y width height mask to to_x to_y = None

-- the text of an error is there, and may be any
abbrev pub error_instr : Option (List ℕ) → Option ℕ → Option Instr
error_instr (Some message) (Some status) = Some (Error status)
error_instr message status = None

-- by the opcode
abbrev pub instr_named : List ℕ → List (List ℕ) → Option Instr
instr_named opcode elements =
    if bytes_eq opcode (codes "size") then size_instr (value_at layer_of 1 elements) (value_at extent_of 2 elements) (value_at extent_of 3 elements) else (
    if bytes_eq opcode (codes "rect") then rect_instr (value_at layer_of 1 elements) (value_at (number_of_bits 32) 2 elements) (value_at (number_of_bits 32) 3 elements) (value_at (number_of_bits 32) 4 elements) (value_at (number_of_bits 32) 5 elements) else (
    if bytes_eq opcode (codes "cfill") then cfill_instr (value_at over_of 1 elements) (value_at layer_of 2 elements) (value_at (number_of_bits 8) 3 elements) (value_at (number_of_bits 8) 4 elements) (value_at (number_of_bits 8) 5 elements) (value_at opaque_of 6 elements) else (
    if bytes_eq opcode (codes "copy") then copy_instr (value_at layer_of 1 elements) (value_at (number_of_bits 32) 2 elements) (value_at (number_of_bits 32) 3 elements) (value_at (number_of_bits 32) 4 elements) (value_at (number_of_bits 32) 5 elements) (value_at over_of 6 elements) (value_at layer_of 7 elements) (value_at (number_of_bits 32) 8 elements) (value_at (number_of_bits 32) 9 elements) else (
    if bytes_eq opcode (codes "sync") then option_map (λ stamp. Sync stamp) (value_at (number_of_bits 64) 1 elements) else (
    if bytes_eq opcode (codes "disconnect") then Some Disconnect else (
    if bytes_eq opcode (codes "error") then error_instr (slice_get elements 1) (value_at (number_of_bits 16) 2 elements) else None))))))

-- the instruction that the elements are, or None where they are none of these
abbrev pub instr_of : List (List ℕ) → Option Instr
instr_of elements = option_and_then (λ opcode. instr_named opcode elements) (slice_get elements 0)
