use Rattle.std.proofs.Common.{◌≡◌, ◌-◌, ◌≤◌, ◌∙◌, length, inl, inr, sym, get_or, arith}
use Rattle.std.proofs.lemmas.List.{get_or_default}
use Rattle.std.specs.Prelude.{Some, None}
use Rattle.gate_script.proofs.ShownLaws.{played_here, played_nowhere}
use Rattle.gate_script.proofs.session.Session.play_given.Goals.{else-place-ge1-via-then-place-ge1+else-place-len, else-place-ge1-via-else-place-ge1}
use Rattle.gate_script.proofs.session.Session.play_given.Goals as goal

pub returns-else-place-ge1-clause-plays : goal.returns-else-place-ge1-clause-plays
returns-else-place-ge1-clause-plays c = played_nowhere c.args.self.now.canvases.items c.args.viewer c.args.self.now.given.items
    (elim c.else-place-ge1.branch [
      | else-place-ge1-via-then-place-ge1+else-place-len w ↦ inr (omega (arith, w.if-place-len.false, w.len.ensures))
      | else-place-ge1-via-else-place-ge1 w ↦ inl (omega (arith, w.if-place-ge1.false))
    ])

pub returns-in_ok-play_text-clause-plays : goal.returns-in_ok-play_text-clause-plays
returns-in_ok-play_text-clause-plays c =
    let cs = c.args.self.now.canvases.items in
    let some : 1 ≤ c.args.viewer = omega (arith, c.if-place-ge1.true) in
    let within : c.args.viewer ≤ length c.args.self.now.canvases.items = omega (arith, c.if-place-len.true, c.len.ensures) in
    let there : get_or c.args.self.now.canvases.items (c.args.viewer - 1) None ≡ Some c.in-Some.canvas =
    get_or_default cs (c.args.viewer - 1) None c.index_mut.result.now (omega (arith, some, within)) ∙ sym c.index_mut.ensures.value ∙ c.in-Some.is in
    played_here cs c.args.viewer c.in-Some.canvas c.play_text.new.canvas c.args.self.now.given.items some within there
    (λ is m readable spelled stands. c.in_ok-play_text.ensures.played is m readable (c.deref.ensures.value ∙ spelled) stands)
