use Rattle.std.proofs.Common.{List, [], ◌∷◌, ◌++◌, sym, ◌∙◌, ap, subst}
use Rattle.std.specs.Prelude.{Some}
use Rattle.gate_model.specs.declared.instr.Instr.{Instr}
use Rattle.canvas.specs.Standing.{ArePlayable}
use Rattle.look.specs.Shown.{IsShown}
use Rattle.look.specs.Stream.{GoesOn}
use Rattle.canvas.proofs.Playable.{one_more}
use Rattle.look.proofs.Seeing.{sync_is, sync_shown, waits}
use Rattle.look.proofs.looking.View.take.Goals as goal

pub count-requires-clause-playable : goal.count-requires-clause-playable
count-requires-clause-playable c = subst ArePlayable (sym c.in_ok-push.ensures.items) (one_more c.args.self.now.waiting.items c.args.instr c.requires.waiting c.requires.playable)

pub returns-in-Some-clause-shown : goal.returns-in-Some-clause-shown
returns-in-Some-clause-shown c = λ text before s on.
    let is = sync_is c.args.instr c.in-Some.stamp (sym c.stamp_of.ensures ∙ c.in-Some.is) in
    sync_shown text c.args.until before c.args.place c.in-Some.stamp c.args.self.now.waiting.items (record { canvas = c.args.self.now.canvas; waiting = c.push.new.self; marks = c.args.self.now.marks }) c.count.new.self s
    (subst (λ (i : Instr). GoesOn text before (Some i) c.args.place) is on)
    (c.in_ok-push.ensures.items ∙ ap (λ (i : Instr). c.args.self.now.waiting.items ++ i ∷ []) is)
    c.count.result c.count.ensures.shown c.count.ensures.others

pub returns-in-None-clause-playable : goal.returns-in-None-clause-playable
returns-in-None-clause-playable c = subst ArePlayable (sym c.in_ok-push.ensures.items) (one_more c.args.self.now.waiting.items c.args.instr c.requires.waiting c.requires.playable)

pub returns-in-None-clause-shown : goal.returns-in-None-clause-shown
returns-in-None-clause-shown c = λ text before s on.
    subst (λ (w : List Instr). IsShown text c.args.until c.args.self.now.marks c.args.place c.args.self.now.canvas w) (sym c.in_ok-push.ensures.items)
    (waits text c.args.until c.args.self.now.marks before c.args.self.now.canvas c.args.self.now.waiting.items s c.args.instr c.args.place (sym c.stamp_of.ensures ∙ c.in-None.is) on)
