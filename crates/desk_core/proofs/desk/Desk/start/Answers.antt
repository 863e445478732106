use Rattle.std.proofs.Common.{◌≡◌, [], ◌∷◌, ap, sym, subst}
use Rattle.gate_model.specs.picture.KeyGrid.{KeyGrid}
use Rattle.gate_model.specs.terminal.Terminal.{Terminal, opening_screen}
use Rattle.gate_model.specs.terminal.Screens.{AreColoured, shown}
use Rattle.gate_model.specs.picture.Shape.{Shape}
use Rattle.gate_model.proofs.Painted.{opened-painted}
use Rattle.gate_model.proofs.ScreenLaws.{coloured-shown}
use Rattle.desk_core.specs.Frames.{AddsFrame, no_frames}
use Rattle.desk_core.proofs.Hearing.{silent_screen}
use Rattle.desk_core.proofs.Standing.{opened_desk}
use Rattle.desk_core.proofs.desk.Desk.start.Goals as goal

pub first-requires-clause-coloured : goal.first-requires-clause-coloured
first-requires-clause-coloured c = subst (λ (m : Terminal). AreColoured (shown m).keys) (sym c.in_ok-host.ensures.taken.screen) (coloured-shown (opening_screen c.args.setup.faces c.args.setup.cols c.args.setup.rows) (opened-painted c.args.setup.faces c.args.setup.cols c.args.setup.rows).cells)

pub invariant_of-result : goal.invariant_of-result
invariant_of-result c =
    let is : shown c.in_ok-host.host.screen ≡ shown (opening_screen c.args.setup.faces c.args.setup.cols c.args.setup.rows) = ap shown (silent_screen c.in_ok-host.host (opening_screen c.args.setup.faces c.args.setup.cols c.args.setup.rows) c.in_ok-host.ensures) in
    let o = opened_desk c.args.setup c.args.now c.next_stamp-stamp.result c.in_ok-first.first.frame c.in_ok-host.host c.new-3.result c.in_ok-frames.frames c.in_ok-first.first.drawing c.in_ok-book.book c.opened-log.result c.requires c.next_stamp-stamp.ensures
    (subst (λ (s : KeyGrid). Shape s.cols s.rows c.in_ok-first.first.frame c.next_stamp-stamp.result) is c.in_ok-first.ensures.shape) c.in_ok-first.ensures.opens c.in_ok-host.ensures c.in_ok-first.ensures.screen c.in_ok-first.ensures.layers c.in_ok-first.ensures.held
    c.new-3.ensures (subst (AddsFrame no_frames c.in_ok-frames.frames c.next_stamp-stamp.result) c.as_slice.ensures c.in_ok-frames.ensures) c.in_ok-book.ensures c.opened-log.ensures in
    (o.entry ∷ [], o.stands)

pub returns-clause-opened : goal.returns-clause-opened
returns-clause-opened c =
    let is : shown c.in_ok-host.host.screen ≡ shown (opening_screen c.args.setup.faces c.args.setup.cols c.args.setup.rows) = ap shown (silent_screen c.in_ok-host.host (opening_screen c.args.setup.faces c.args.setup.cols c.args.setup.rows) c.in_ok-host.ensures) in
    opened_desk c.args.setup c.args.now c.next_stamp-stamp.result c.in_ok-first.first.frame c.in_ok-host.host c.new-3.result c.in_ok-frames.frames c.in_ok-first.first.drawing c.in_ok-book.book c.opened-log.result c.requires c.next_stamp-stamp.ensures
    (subst (λ (s : KeyGrid). Shape s.cols s.rows c.in_ok-first.first.frame c.next_stamp-stamp.result) is c.in_ok-first.ensures.shape) c.in_ok-first.ensures.opens c.in_ok-host.ensures c.in_ok-first.ensures.screen c.in_ok-first.ensures.layers c.in_ok-first.ensures.held
    c.new-3.ensures (subst (AddsFrame no_frames c.in_ok-frames.frames c.next_stamp-stamp.result) c.as_slice.ensures c.in_ok-frames.ensures) c.in_ok-book.ensures c.opened-log.ensures
