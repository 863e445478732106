-- The palette of 256 colours (this project's own). An index past its end has the colour black.
use Rattle.std.specs.Prelude.{ℕ, ◌+◌, ◌-◌, ◌*◌, ◌/◌, ◌%◌, nat_lt, if◌then◌else◌, slice_index_or, slice_index, List, [], ◌∷◌}
use Rattle.gate_model.specs.declared.colour.Colour.{Colour}

-- sixteen colours, as red, green and blue
abbrev pub palette : List (List ℕ)
palette =
    (0 ∷ 0 ∷ 0 ∷ [])
    ∷ (170 ∷ 0 ∷ 0 ∷ [])
    ∷ (0 ∷ 170 ∷ 0 ∷ [])
    ∷ (170 ∷ 85 ∷ 0 ∷ [])
    ∷ (0 ∷ 0 ∷ 170 ∷ [])
    ∷ (170 ∷ 0 ∷ 170 ∷ [])
    ∷ (0 ∷ 170 ∷ 170 ∷ [])
    ∷ (170 ∷ 170 ∷ 170 ∷ [])
    ∷ (85 ∷ 85 ∷ 85 ∷ [])
    ∷ (255 ∷ 85 ∷ 85 ∷ [])
    ∷ (85 ∷ 255 ∷ 85 ∷ [])
    ∷ (255 ∷ 255 ∷ 85 ∷ [])
    ∷ (85 ∷ 85 ∷ 255 ∷ [])
    ∷ (255 ∷ 85 ∷ 255 ∷ [])
    ∷ (85 ∷ 255 ∷ 255 ∷ [])
    ∷ (255 ∷ 255 ∷ 255 ∷ [])
    ∷ []

-- the first sixteen
abbrev pub first_colour : ℕ → Colour
first_colour index = let rgb = slice_index_or palette index (0 ∷ 0 ∷ 0 ∷ []) in
    record { red = slice_index rgb 0; green = slice_index rgb 1; blue = slice_index rgb 2 }

-- the 216 that follow have six levels each of red, green and blue
abbrev pub level : ℕ → ℕ
level n = slice_index (0 ∷ 95 ∷ 135 ∷ 175 ∷ 215 ∷ 255 ∷ []) n

abbrev pub mixed_colour : ℕ → Colour
mixed_colour n = record { red = level (n / 36); green = level (n / 6 % 6); blue = level (n % 6) }

-- the last 24 are greys
abbrev pub grey : ℕ → Colour
grey n = let shade = 8 + 10 * n in record { red = shade; green = shade; blue = shade }

abbrev pub black : Colour
black = record { red = 0; green = 0; blue = 0 }

unfoldable pub colour_of : ℕ → Colour
colour_of index =
    if nat_lt index 16 then first_colour index else (
    if nat_lt index 232 then mixed_colour (index - 16) else (
    if nat_lt index 256 then grey (index - 232) else black))
