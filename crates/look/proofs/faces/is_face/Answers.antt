use Rattle.std.proofs.Common.{true, false}
use Rattle.look.proofs.faces.is_face.Goals as goal

pub returns-then-has_lines : goal.returns-then-has_lines
returns-then-has_lines c = λ m s t. record { under = false; ink = c.args.pair.ink; paper = c.args.pair.paper; pixels = c.has_lines.ensures m s t }

pub returns-else-has_lines : goal.returns-else-has_lines
returns-else-has_lines c = λ m s t. record { under = true; ink = c.args.pair.ink; paper = c.args.pair.paper; pixels = c.has_lines-else-has_lines.ensures m s t }
