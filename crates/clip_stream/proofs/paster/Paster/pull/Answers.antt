use Rattle.std.proofs.Common.{◌<◌, ◌∙◌, arith}
use Rattle.std.proofs.lemmas.Bool.{false_from_ne_true}
use Rattle.clip_stream.specs.Sources.{waits}
use Rattle.clip_stream.proofs.Goings.{is_over}
use Rattle.clip_stream.proofs.Steps.{done_short}
use Rattle.clip_stream.proofs.paster.Paster.pull.Goals as goal

pub returns-clause-room : goal.returns-clause-room
returns-clause-room c is =
    let s = c.settle.new.self in
    let idle = false_from_ne_true (waits s) (λ e. let some : 0 < c.give.result = c.give.ensures.some e in omega (arith, some, is)) in
    omega (arith, c.give.ensures.no_more, done_short s.is_raw s.held (c.settle.ensures.done idle))

pub returns-clause-over : goal.returns-clause-over
returns-clause-over c is was =
    let s = c.settle.new.self in
    let ended = c.settle.ensures.ended ∙ was in
    let idle = false_from_ne_true (waits s) (λ e. let some : 0 < c.give.result = c.give.ensures.some e in omega (arith, some, is)) in
    is_over s c.give.new.self c.give.new.into c.give.result c.give.ensures.gave (c.give.ensures.ended ∙ ended) ended (c.settle.ensures.raw ended idle) c.give.ensures.some is
