-- The orders of `draw` (this project's own), and which lines hold what a run can do.
use Rattle.std.specs.Prelude.{ℕ, ◌≤◌, List, [], ◌∷◌, length}
use Rattle.gate_model.specs.declared.sharing.Asked.TheVariants.{Owner}
use Rattle.gate_model.specs.declared.sharing.Share.TheVariants.{Nobody}
use Rattle.gate_model.specs.Limits.{most_piece, most_entries}
use Rattle.gate_model.specs.session.Steps.{IsScreenSize}
use Rattle.script_grammar.specs.declared.line.Line.{Line}
use Rattle.script_grammar.specs.declared.line.Line.TheVariants.{Start, Server, Join, Read, Resize, Acknowledge}
use Rattle.script_grammar.specs.declared.order.Order.{Order}
use Rattle.script_grammar.specs.declared.order.Order.TheVariants.{Told, Untold}
use Rattle.script_grammar.specs.declared.size.Size.{Size}

-- the line of an order
abbrev pub line_in : Order → Line
line_in (Told line) = line
line_in (Untold line) = line

-- what is told of an answer
abbrev pub told_by : Order → List ℕ → List ℕ
told_by (Told line) answer = answer
told_by (Untold line) answer = []

-- the orders of `draw` for its pieces; orders and pieces have the newest first. The session starts and its
-- owner joins; the host sends each piece, viewer 1 reads, and acknowledges the stamp.
abbrev pub draw_lines : Size → List (List ℕ) → List Order
draw_lines size [] = Told (Join Owner) ∷ Told (Start size Nobody most_entries) ∷ []
draw_lines size (piece ∷ pieces) = Untold (Acknowledge 1) ∷ Untold (Read 1) ∷ Told (Server piece) ∷ draw_lines size pieces

-- what a line holds is in range
abbrev pub IsInRange : Line → Type 0
IsInRange (Start size mode entries) = IsScreenSize size.cols size.rows × (1 ≤ entries) × (entries ≤ most_entries)
IsInRange (Server bytes) = (1 ≤ length bytes) × (length bytes ≤ most_piece)
IsInRange (Resize viewer size) = IsScreenSize size.cols size.rows
IsInRange line = Unit {0}
