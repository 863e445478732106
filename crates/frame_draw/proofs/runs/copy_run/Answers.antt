use Rattle.std.proofs.Common.{rules, [], ◌∷◌, ◌++◌, ap, ◌∙◌}
use Rattle.gate_model.specs.declared.instr.Instr.{Instr}
use Rattle.frame_draw.proofs.Moving.{run_led}
use Rattle.frame_draw.proofs.runs.copy_run.Goals as goal

pub returns : goal.returns
returns c =
    run_led c.args.now.now c.args.list.now.items c.push.new.self.items c.args.wanted.now c.strike.new.wanted _ c.args.place c.matching-length.result c.count.result c.cols.result c.as_slice-keys.result.now
    c.requires.size c.as_slice-keys.ensures.full c.as_slice-keys.ensures.keys c.cols.ensures c.matching-length.ensures (search rules) c.count.ensures (search rules)
    (c.in_ok-push.ensures.items ∙ ap (λ (i : Instr). c.args.list.now.items ++ i ∷ []) c.copy_cells.ensures) c.strike.ensures
