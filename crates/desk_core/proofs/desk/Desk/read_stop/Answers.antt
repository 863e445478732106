use Rattle.std.proofs.Common.{◌≡◌, ◌∙◌, ℕ, ap, sym, subst, arith}
use Rattle.std.specs.Prelude.{Option, Some, Result, Ok}
use Rattle.gate_model.specs.declared.read_answer.ReadAnswer.{ReadAnswer}
use Rattle.gate_model.specs.declared.read_answer.ReadAnswer.TheVariants.{Hold}
use Rattle.gate_model.specs.declared.read_refusal.ReadRefusal.{ReadRefusal}
use Rattle.gate_model.specs.session.Waiting.{waiting}
use Rattle.desk_core.specs.Desk.{DeskState, Stands}
use Rattle.desk_core.specs.State.{state}
use Rattle.desk_core.proofs.Telling.{ended_is, position_is, waiting_is, read_is_over, read_is_last, read_is_empty, read_is_held, read_is_worn, read_is_allowed}
use Rattle.desk_core.proofs.desk.Desk.read_stop.Goals as goal

pub returns-then-ended : goal.returns-then-ended
returns-then-ended c = λ h stood.
    let d = state c.self.inside in
    let v = c.args.viewer in
    let s : Stands d h = subst (λ (k : DeskState). Stands k h) (sym c.self.view_is) stood in
    let there = sym c.is_live.ensures.live ∙ c.if-not-is_live.false in
    let over = ended_is d h v s there c.ended.result c.ended.ensures in
    sym (read_is_over d h v s there (over ∙ c.if-ended.true))

pub returns-then-is_some : goal.returns-then-is_some
returns-then-is_some c = λ h stood.
    let d = state c.self.inside in
    let v = c.args.viewer in
    let s : Stands d h = subst (λ (k : DeskState). Stands k h) (sym c.self.view_is) stood in
    let there = sym c.is_live.ensures.live ∙ c.if-not-is_live.false in
    let over = ended_is d h v s there c.ended.result c.ended.ensures in
    sym (read_is_last d h v s there (over ∙ c.if-ended.false) (sym c.is_some.ensures ∙ c.if-is_some.true))

pub returns-then-position-stamp : goal.returns-then-position-stamp
returns-then-position-stamp c = λ h stood.
    let d = state c.self.inside in
    let v = c.args.viewer in
    let s : Stands d h = subst (λ (k : DeskState). Stands k h) (sym c.self.view_is) stood in
    let there = sym c.is_live.ensures.live ∙ c.if-not-is_live.false in
    let over = ended_is d h v s there c.ended.result c.ended.ensures in
    sym (read_is_empty d h v s there (over ∙ c.if-ended.false) (sym c.is_some.ensures ∙ c.if-is_some.false) (position_is d h v s there c.position.result c.position.ensures ∙ (c.if-position-stamp.true ∙ c.stamp.ensures)))

pub returns-then-waiting-gt-MOST_WAITING : goal.returns-then-waiting-gt-MOST_WAITING
returns-then-waiting-gt-MOST_WAITING c = λ h stood.
    let d = state c.self.inside in
    let v = c.args.viewer in
    let s : Stands d h = subst (λ (k : DeskState). Stands k h) (sym c.self.view_is) stood in
    let there = sym c.is_live.ensures.live ∙ c.if-not-is_live.false in
    let over = ended_is d h v s there c.ended.result c.ended.ensures in
    let count : waiting h v ≡ c.waiting-waiting.result = waiting_is d h v s there c.waiting-waiting.result c.waiting-waiting.ensures in
    let held : ℕ → Option (Result ReadAnswer ReadRefusal) = λ n. Some (Ok (Hold n)) in
    ap held (sym count) ∙ sym (read_is_held d h v s there (over ∙ c.if-ended.false) (sym c.is_some.ensures ∙ c.if-is_some.false) (λ at. c.if-position-stamp.false (sym (position_is d h v s there c.position.result c.position.ensures) ∙ (at ∙ sym c.stamp.ensures))) (omega (arith, count, c.if-waiting-gt-MOST_WAITING.true)))

pub returns-then-is_full : goal.returns-then-is_full
returns-then-is_full c = λ h stood.
    let d = state c.self.inside in
    let v = c.args.viewer in
    let s : Stands d h = subst (λ (k : DeskState). Stands k h) (sym c.self.view_is) stood in
    let there = sym c.is_live.ensures.live ∙ c.if-not-is_live.false in
    let over = ended_is d h v s there c.ended.result c.ended.ensures in
    rw c.entries-entries.ensures (sym (read_is_worn d h v s there (over ∙ c.if-ended.false) (sym c.is_some.ensures ∙ c.if-is_some.false) (λ at. c.if-position-stamp.false (sym (position_is d h v s there c.position.result c.position.ensures) ∙ (at ∙ sym c.stamp.ensures))) (omega (arith, waiting_is d h v s there c.waiting-waiting.result c.waiting-waiting.ensures, c.if-waiting-gt-MOST_WAITING.false)) (sym c.is_full.ensures ∙ c.if-is_full.true)))

pub returns : goal.returns
returns c = λ h stood.
    let d = state c.self.inside in
    let v = c.args.viewer in
    let s : Stands d h = subst (λ (k : DeskState). Stands k h) (sym c.self.view_is) stood in
    let there = sym c.is_live.ensures.live ∙ c.if-not-is_live.false in
    let over = ended_is d h v s there c.ended.result c.ended.ensures in
    sym (read_is_allowed d h v s there (over ∙ c.if-ended.false) (sym c.is_some.ensures ∙ c.if-is_some.false) (λ at. c.if-position-stamp.false (sym (position_is d h v s there c.position.result c.position.ensures) ∙ (at ∙ sym c.stamp.ensures))) (omega (arith, waiting_is d h v s there c.waiting-waiting.result c.waiting-waiting.ensures, c.if-waiting-gt-MOST_WAITING.false)) (sym c.is_full.ensures ∙ c.if-is_full.false))
