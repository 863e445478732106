use Rattle.std.proofs.lemmas.Result.{on_ok_weaker}
use Rattle.frame_draw.proofs.Drawing.{along_gone, led_goes}
use Rattle.frame_draw.proofs.drawer.draw_flagged.Goals as goal

pub returns-clause-along : goal.returns-clause-along
returns-clause-along c = λ rest copies fits told.
    let now = c.args.now.now in
    let filled = c.fill_blanks.new in
    let later = c.draw_runs.new.wanted in
    on_ok_weaker c.draw_runs.result
    (λ goes. along_gone now c.args.list.now.items c.draw_runs.new.list.items c.args.cache.now.keys c.draw_runs.new.cache.keys rest copies c.args.flags.now later c.draw_runs.ensures.full fits told
    (led_goes now c.args.list.now.items filled.list.items c.draw_runs.new.list.items c.args.cache.now.keys c.args.flags.now filled.wanted later _ _ c.draw_runs.new.cache.keys c.in_ok-fill_blanks.ensures goes))
    c.draw_runs.ensures.goes
