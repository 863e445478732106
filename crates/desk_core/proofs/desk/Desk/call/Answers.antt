use Rattle.std.proofs.Common.{ℕ, List, [], sym, subst}
use Rattle.std.specs.Prelude.{Result, Ok}
use Rattle.gate_model.specs.declared.act.Act.{Act}
use Rattle.gate_model.specs.declared.answer.Answer.{Answer}
use Rattle.gate_model.specs.declared.answer.Answer.TheVariants.{Leave as was_left, Close as was_closed}
use Rattle.gate_model.specs.declared.event.Event.{Event}
use Rattle.gate_model.specs.declared.event.Event.TheVariants.{Feed, Write, Resize, Take, Leave, Close}
use Rattle.gate_model.specs.declared.memory.NoMemory.{NoMemory}
use Rattle.desk_core.specs.Calls.{Ended, feed_answer, write_answer}
use Rattle.desk_core.proofs.Running.{beside}
use Rattle.desk_core.proofs.desk.Desk.call.Goals as goal

pub returns-in-Feed : goal.returns-in-Feed
returns-in-Feed c = record {
  step = λ h stood.
      let w = c.args.into.now.items in
      subst (λ (e : Event). Ended h e c.feed_answer.result c.args.self.now c.feed.new.self w w) (sym c.in-Feed.is)
      (beside h (Feed c.in-Feed.bytes c.in-Feed.now) c.feed_answer.result c.args.self.now c.feed.new.self w
      (subst (λ (r : Result Answer NoMemory). Ended h (Feed c.in-Feed.bytes c.in-Feed.now) r c.args.self.now c.feed.new.self [] []) (sym c.feed_answer.ensures)
      (subst (λ (bytes : List ℕ). Ended h (Feed bytes c.in-Feed.now) (feed_answer c.feed.result) c.args.self.now c.feed.new.self [] []) c.as_slice.ensures (c.feed.ensures.step h stood))));
}

pub returns-in-Write : goal.returns-in-Write
returns-in-Write c = record {
  step = λ h stood.
      let w = c.args.into.now.items in
      subst (λ (e : Event). Ended h e c.write_answer.result c.args.self.now c.write.new.self w w) (sym c.in-Write.is)
      (beside h (Write c.in-Write.viewer c.in-Write.acts) c.write_answer.result c.args.self.now c.write.new.self w
      (subst (λ (r : Result Answer NoMemory). Ended h (Write c.in-Write.viewer c.in-Write.acts) r c.args.self.now c.write.new.self [] []) (sym c.write_answer.ensures)
      (subst (λ (acts : List Act). Ended h (Write c.in-Write.viewer acts) (write_answer c.write.result) c.args.self.now c.write.new.self [] []) c.as_slice-in-Write.ensures (c.write.ensures.step h stood))));
}

pub returns-in-Resize : goal.returns-in-Resize
returns-in-Resize c = record {
  step = λ h stood.
      let w = c.args.into.now.items in
      let e = Resize c.in-Resize.viewer c.in-Resize.cols c.in-Resize.rows in
      subst (λ (x : Event). Ended h x c.resize_answer.result c.args.self.now c.resize.new.self w w) (sym c.in-Resize.is)
      (beside h e c.resize_answer.result c.args.self.now c.resize.new.self w
      (subst (λ (r : Result Answer NoMemory). Ended h e r c.args.self.now c.resize.new.self [] []) (sym c.resize_answer.ensures) (c.resize.ensures.step h stood)));
}

pub returns-in-Take : goal.returns-in-Take
returns-in-Take c = record {
  step = λ h stood.
      let w = c.args.into.now.items in
      subst (λ (e : Event). Ended h e c.take_at_most.result c.args.self.now c.take_at_most.new.self w w) (sym c.in-Take.is)
      (beside h (Take c.in-Take.most) c.take_at_most.result c.args.self.now c.take_at_most.new.self w (c.take_at_most.ensures.step h stood));
}

pub returns-in-Leave : goal.returns-in-Leave
returns-in-Leave c = record {
  step = λ h stood.
      let w = c.args.into.now.items in
      subst (λ (e : Event). Ended h e (Ok (was_left c.leave.result)) c.args.self.now c.leave.new.self w w) (sym c.in-Leave.is)
      (beside h (Leave c.in-Leave.viewer) (Ok (was_left c.leave.result)) c.args.self.now c.leave.new.self w (c.leave.ensures.step h stood));
}

pub returns-in-Close : goal.returns-in-Close
returns-in-Close c = record {
  step = λ h stood.
      let w = c.args.into.now.items in
      subst (λ (e : Event). Ended h e (Ok (was_closed c.close.result)) c.args.self.now c.close.new.self w w) (sym c.in-Close.is)
      (beside h (Close c.in-Close.cause) (Ok (was_closed c.close.result)) c.args.self.now c.close.new.self w (c.close.ensures.step h stood));
}
