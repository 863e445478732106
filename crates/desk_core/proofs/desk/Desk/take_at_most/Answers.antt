use Rattle.std.proofs.Common.{[], ◌∙◌, sym, subst, arith}
use Rattle.gate_model.specs.declared.answer.Answer.TheVariants.{Take as was_taken}
use Rattle.gate_model.specs.declared.event.Event.TheVariants.{Take}
use Rattle.desk_core.specs.Calls.{Answered}
use Rattle.desk_core.specs.Desk.{DeskState, Stands}
use Rattle.desk_core.specs.State.{state}
use Rattle.desk_core.proofs.Telling.{shut_is}
use Rattle.desk_core.proofs.Adding.{none_at_most, taken_at_most}
use Rattle.desk_core.proofs.desk.Desk.take_at_most.Goals as goal

pub returns-then-room-eq0 : goal.returns-then-room-eq0
returns-then-room-eq0 c = record {
  step = λ h stood.
      let d = state c.self.inside in
      let s : Stands d h = subst (λ (k : DeskState). Stands k h) (sym c.self.view_is) stood in
      subst (λ (k : DeskState). Answered h (Take c.args.most) (was_taken c.of-bytes.result c.is_some-closed.result) k [] []) c.self.view_is
      (none_at_most d h c.args.most c.of-bytes.result c.is_some-closed.result s (c.is_some-closed.ensures ∙ shut_is d h s) (omega (arith, c.if-room-eq0.true, c.min-room.ensures, c.len.ensures)) (c.of-bytes.ensures ∙ c.new.ensures.items));
}

pub returns : goal.returns
returns c = record {
  step = λ h stood.
      let d = state c.self.inside in
      let s : Stands d h = subst (λ (k : DeskState). Stands k h) (sym c.self.view_is) stood in
      taken_at_most d h c.args.most c.take-closed.result.count c.in_ok-bytes.bytes.len c.deref_mut.result.now c.take-closed.new.into c.in_ok-bytes.bytes.items c.of-bytes-2.result c.take-closed.result.closed c.take-closed.new.self s
      (omega (arith, c.deref_mut.ensures.len, c.in_ok-bytes.ensures.len, c.min-room.ensures, c.len.ensures)) (c.take-closed.ensures.step h stood) c.take-closed.ensures.within c.take-closed.ensures.rest (omega (arith, c.deref_mut.ensures.len)) c.of-bytes-2.ensures;
}
