-- What an instruction of a client means (the Guacamole manual, "Guacamole protocol reference"; which instructions are
-- read, and the ranges, are this project's own). An instruction is the list of its elements, the opcode first; an element
-- is the list of its code points. Elements after those that are named are ignored.
use Rattle.std.specs.Prelude.{ℕ, ℤ, List, Bool, true, false, Option, Some, None, option_and_then, option_map, if◌then◌else◌, slice_get, bytes_eq, codes}
use Rattle.gate_model.specs.declared.act.Act.{Act}
use Rattle.gate_model.specs.declared.act.Act.TheVariants.{Key, Mouse, Sync, Size, Nop, Disconnect}
use Rattle.gate_model.specs.text.Numerals.{value_at, number_of_bits, coordinate_of}

-- `1` is down, `0` is up
abbrev pub pressed_of : List ℕ → Option Bool
pressed_of value =
    if bytes_eq value (codes "1") then Some true else (
    if bytes_eq value (codes "0") then Some false else None)

-- an act of values that are all there
abbrev pub key_act : Option ℕ → Option Bool → Option Act
key_act (Some keysym) (Some pressed) = Some (Key keysym pressed)
key_act keysym pressed = None

abbrev pub mouse_act : Option ℤ → Option ℤ → Option ℕ → Option Act
mouse_act (Some x) (Some y) (Some mask) = Some (Mouse x y mask)
mouse_act x y mask = None

abbrev pub size_act : Option ℕ → Option ℕ → Option Act
size_act (Some width) (Some height) = Some (Size width height)
size_act width height = None

-- by the opcode
abbrev pub act_named : List ℕ → List (List ℕ) → Option Act
act_named opcode elements =
    if bytes_eq opcode (codes "key") then key_act (value_at (number_of_bits 32) 1 elements) (value_at pressed_of 2 elements) else (
    if bytes_eq opcode (codes "sync") then option_map (λ stamp. Sync stamp) (value_at (number_of_bits 64) 1 elements) else (
    if bytes_eq opcode (codes "mouse") then mouse_act (value_at coordinate_of 1 elements) (value_at coordinate_of 2 elements) (value_at (number_of_bits 8) 3 elements) else (
    if bytes_eq opcode (codes "size") then size_act (value_at (number_of_bits 31) 1 elements) (value_at (number_of_bits 31) 2 elements) else (
    if bytes_eq opcode (codes "nop") then Some Nop else (
    if bytes_eq opcode (codes "disconnect") then Some Disconnect else None)))))

-- the act that the elements ask for, or None where they have no meaning
abbrev pub act_of : List (List ℕ) → Option Act
act_of elements = option_and_then (λ opcode. act_named opcode elements) (slice_get elements 0)
