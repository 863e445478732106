use Rattle.std.proofs.Common.{Bool, ◌∷◌, [], ◌++◌, ◌∙◌, ap}
use Rattle.std.specs.Prelude.{Some, if◌then◌else◌}
use Rattle.gate_script.proofs.session.Session.add_canvas.Goals as goal

pub returns-else-is_err-clause-adds : goal.returns-else-is_err-clause-adds
returns-else-is_err-clause-adds c = λ look.
    let cs = c.args.self.now.canvases.items in
    let canvas = c.in_ok-canvas-in-Played.canvas in
    record {
      canvas = canvas;
      plays = λ is readable text_is. c.in_ok-canvas-in-Played.ensures is readable (c.deref.ensures.value ∙ text_is);
      grown = c.push.ensures.items ∙ ap (λ (b : Bool). if b then cs ++ Some canvas ∷ [] else cs) c.if-is_err.ensures.negation;
    }
