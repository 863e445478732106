use Rattle.canvas.proofs.Copies.{copied_places}
use Rattle.canvas.proofs.canvas.Canvas.copy_part.Goals as goal

pub returns-clause-ok : goal.returns-clause-ok
returns-clause-ok c =
    copied_places c.self.inside.layers.items c.args.self.now c.args.source c.args.target c.index.result.now c.index-2.result.now c.index-3.result.now c.index_mut.result.now c.put.new.self
    c.args.area c.read.new.part.items c.deref.result.now c.args.x c.args.y c.common-width.result c.common-height.result c.width.result c.height.result c.width-2.result c.height-2.result
    c.self.view_is c.requires.source c.requires.target c.index.ensures c.index-2.ensures c.index-3.ensures c.index_mut.ensures.value
    c.width.ensures c.height.ensures c.width-2.ensures c.height-2.ensures c.common-width.ensures c.common-height.ensures c.in_ok-read.ensures c.deref.ensures.value c.put.ensures
