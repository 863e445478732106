use Rattle.std.proofs.Common.{ap, sym, ◌∙◌}
use Rattle.gate_model.specs.declared.instr.Instr.TheVariants.{Rect, Copy}
use Rattle.canvas.specs.declared.rectangle.Rectangle.{Rectangle}
use Rattle.canvas.proofs.Copies.{on_ok_both}
use Rattle.canvas.proofs.Playing.{plays_cfill, plays_copy, plays_rect, plays_size}
use Rattle.canvas.proofs.canvas.Canvas.play.Goals as goal

pub returns-in-Size-clause-played : goal.returns-in-Size-clause-played
returns-in-Size-clause-played c =
    on_ok_both c.resize.result (plays_size c.args.self.now c.resize.new.self c.args.instr.now c.in-Size.layer c.in-Size.width c.in-Size.height c.in-Size.is c.requires)
    c.resize.ensures.ok c.resize.ensures.others

pub returns-in-Rect-clause-played : goal.returns-in-Rect-clause-played
returns-in-Rect-clause-played c =
    let i = c.in-Rect in
    on_ok_both c.trace.result (plays_rect c.args.self.now c.trace.new.self c.args.instr.now i.layer c.new.result
    (i.is ∙ ap (λ (r : Rectangle). Rect i.layer r.x r.y r.width r.height) (sym c.new.ensures)) c.requires)
    c.trace.ensures.ok c.trace.ensures.others

pub returns-in-Cfill-clause-played : goal.returns-in-Cfill-clause-played
returns-in-Cfill-clause-played c =
    let i = c.in-Cfill in
    on_ok_both c.paint.result (plays_cfill c.args.self.now c.paint.new.self c.args.instr.now i.layer record { red = i.red; green = i.green; blue = i.blue } i.is c.requires)
    c.paint.ensures.ok c.paint.ensures.others

pub returns-in-Copy-clause-played : goal.returns-in-Copy-clause-played
returns-in-Copy-clause-played c =
    let i = c.in-Copy in
    on_ok_both c.copy.result (plays_copy c.args.self.now c.copy.new.self c.args.instr.now i.from i.to c.new-in-Copy.result i.to_x i.to_y
    (i.is ∙ ap (λ (r : Rectangle). Copy i.from r.x r.y r.width r.height i.to i.to_x i.to_y) (sym c.new-in-Copy.ensures)) c.requires)
    c.copy.ensures.ok c.copy.ensures.others
