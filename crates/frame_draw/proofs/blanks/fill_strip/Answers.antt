use Rattle.std.proofs.Common.{rules, sym, ◌∙◌}
use Rattle.frame_draw.proofs.Leading.{strip_led}
use Rattle.frame_draw.proofs.Walking.{read_is}
use Rattle.frame_draw.proofs.blanks.fill_strip.Goals as goal

pub returns-in_ok-fill_cells-clause-fills : goal.returns-in_ok-fill_cells-clause-fills
returns-in_ok-fill_cells-clause-fills c =
    strip_led c.args.now.now c.args.list.now.items c.fill_cells.new.list.items c.args.wanted.now c.strike.new.wanted c.args.place c.strip_of-width.result.0 c.strip_of-width.result.1 c.count.result c.cols.result _
    c.as_slice-keys.result.now c.run_end.result c.requires.size c.as_slice-keys.ensures.full c.requires.all c.requires.inside c.as_slice-keys.ensures.keys c.cols.ensures
    c.run_end.ensures c.strip_of-width.ensures.strip c.strip_of-width.ensures.within
    (read_is c.as_slice-keys.result.now c.args.now.now.keys c.args.place _ c.as_slice-keys.ensures.keys (search rules))
    (sym c.is_blank.ensures ∙ (search rules)) c.count.ensures (search rules) c.in_ok-fill_cells.ensures c.strike.ensures
