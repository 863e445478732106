use Rattle.std.proofs.lemmas.Slice.Eq.{slice_eq-Decides}
use Rattle.canvas.proofs.Sizes.{colour_decides, option_decides}
use Rattle.canvas.proofs.pixels.is_same.Goals as goal

pub returns : goal.returns
returns c = slice_eq-Decides (option_decides _ colour_decides) c.args.left.now c.args.right.now c.eq.result c.eq.ensures
