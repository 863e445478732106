use Rattle.std.proofs.Common.{◌≡◌, ◌++◌, map, take}
use Rattle.glyph_strokes.specs.Strokes.{rect_at}
use Rattle.glyph_strokes.proofs.strokes.draw_glyph.Given as goal

abbrev pub invariant-loop-patch : goal.invariant-loop-patch
invariant-loop-patch l = l.list.items ≡ l.fn.list.items ++ map (rect_at l.layer l.x l.y) (take l.patch-index l.patches)
