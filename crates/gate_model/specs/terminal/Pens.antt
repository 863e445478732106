-- The pen: what SGR makes of it, and the cell that it prints (ECMA-48, SGR; the numbers that have an
-- effect are this project's own).
use Rattle.std.specs.Prelude.{ℕ, suc, zero, ◌+◌, ◌-◌, List, [], ◌∷◌, Bool, true, false, ◌||◌, ◌&&◌, ◌==◌, nat_le, nat_lt, if◌then◌else◌, Option, Some, None, unwrap_or}
use Rattle.std.specs.Int.{is_in_range}
use Rattle.gate_model.specs.declared.cell.Cell.{Cell}
use Rattle.gate_model.specs.declared.cell.Half.TheVariants.{Whole}
use Rattle.gate_model.specs.terminal.Arguments.{choice}
use Rattle.gate_model.specs.terminal.Terminal.{Pen, plain}

-- the pen after one number
abbrev pub styled_by : ℕ → Pen → Pen
styled_by n pen =
    if n == 0 then plain else (
    if n == 1 then record pen { bold = true } else (
    if n == 4 then record pen { underline = true } else (
    if n == 7 then record pen { reverse = true } else (
    if n == 22 then record pen { bold = false } else (
    if n == 24 then record pen { underline = false } else (
    if n == 27 then record pen { reverse = false } else (
    if is_in_range 30 37 n then record pen { ink = Some (n - 30) } else (
    if n == 39 then record pen { ink = None } else (
    if is_in_range 40 47 n then record pen { paper = Some (n - 40) } else (
    if n == 49 then record pen { paper = None } else pen))))))))))

-- 38 chooses an ink and 48 a paper; what follows says which, and how many parameters it takes
abbrev pub is_colour : ℕ → Bool
is_colour n = n == 38 || n == 48

-- after 38 or 48: 5 and one more, 2 and three more, or none
abbrev pub colour_size : List ℕ → ℕ
colour_size [] = 0
colour_size (p ∷ ps) = if p == 5 then 2 else (if p == 2 then 4 else 0)

-- .. and which: after 5 the index that follows, where the palette has it
abbrev pub chosen_index : List ℕ → Option ℕ
chosen_index (p ∷ n ∷ ps) = if p == 5 && nat_le (choice n) 255 then Some (choice n) else None
chosen_index ps = None

abbrev pub with_colour : ℕ → Option ℕ → Pen → Pen
with_colour p None pen = pen
with_colour p (Some n) pen = if p == 38 then record pen { ink = Some n } else record pen { paper = Some n }

-- the pen after the parameters of SGR, of which the first `skipped` have no effect
abbrev pub styled_after : ℕ → Pen → List ℕ → Pen
styled_after skipped pen [] = pen
styled_after (suc n) pen (p ∷ ps) = styled_after n pen ps
styled_after zero pen (p ∷ ps) =
    if is_colour p then styled_after (colour_size ps) (with_colour p (chosen_index ps) pen) ps else styled_after 0 (styled_by (choice p) pen) ps

abbrev pub styled : Pen → List ℕ → Pen
styled pen parameters = styled_after 0 pen parameters

-- the ink of a pen that isn't reversed: its own or 7, and 8 more when it is bold and of the first eight
abbrev pub pen_ink : Pen → ℕ
pen_ink pen = let own = unwrap_or pen.ink 7 in own + (if pen.bold && nat_lt own 8 then 8 else 0)

abbrev pub pen_paper : Pen → ℕ
pen_paper pen = unwrap_or pen.paper 0

-- a character in the pen
abbrev pub drawn_with : Pen → ℕ → Cell
drawn_with pen c = record {
  ch = c;
  ink = if pen.reverse then pen_paper pen else pen_ink pen;
  paper = if pen.reverse then pen_ink pen else pen_paper pen;
  under = pen.underline;
  half = Whole;
}
