use Rattle.std.proofs.Common.{◌≡◌, ◌++◌, ℕ, List, subst, ◌∙◌}
use Rattle.gate_model.specs.declared.event.Event.TheVariants.{Read as read}
use Rattle.gate_model.specs.declared.instr.Instr.{Instr}
use Rattle.gate_model.specs.session.Delivered.{delivered}
use Rattle.gate_model.specs.text.Text.{texts}
use Rattle.desk_core.specs.Calls.{read_answer}
use Rattle.shared_desk.specs.Called.{Gives}
use Rattle.shared_desk.specs.Meetings.{written_by}
use Rattle.shared_desk.specs.Members.{KnowsViewer}
use Rattle.shared_desk.specs.Own.{own_entries}
use Rattle.ws_tunnel.proofs.Meeting.{reads_behind}
use Rattle.ws_tunnel.proofs.answering.read_behind.Goals as goal

pub returns-clause-read : goal.returns-clause-read
returns-clause-read g c =
    let viewer = c.args.reader.now.viewer in
    let first = c.meet in
    let r1 = c.meet.new.reader.view in
    let w1 = c.meet.new.writer.view in
    let r2 = c.read-answer.new.self.view in
    let r3 = c.meet-2.new.reader.view in
    let w3 = c.meet-2.new.writer.view in
    let r = c.read-answer.result in
    let before = c.args.text.now.items in
    let after = c.read-answer.new.into.items in
    let e1 : c.meet.new.reader.viewer ≡ viewer = c.meet.ensures.stays.0.viewer in
    let e2 : c.read-answer.new.self.viewer ≡ viewer = c.read-answer.ensures.stays.viewer ∙ e1 in
    let ew : c.meet.new.writer.viewer ≡ viewer = c.meet.ensures.stays.1.viewer ∙ c.requires.one.viewer in
    let d = subst (λ (n : ℕ). (more : List Instr) × (delivered r2.seen n ≡ delivered r1.seen n ++ more) × (after ≡ before ++ texts more)) e1 c.read-answer.ensures.delivered in
    reads_behind viewer c.args.reader.now.view c.args.writer.now.view r1 w1 r2 r3 w3 r before after
    c.meet.ensures.met
    (subst (λ (n : ℕ). Gives r1 (read n) (read_answer r) r2 before after) e1 c.read-answer.ensures.gives)
    c.meet-2.ensures.met
    c.meet.ensures.own
    c.meet-2.ensures.own
    (subst (λ (n : ℕ). written_by n w1.seen ≡ written_by n (own_entries w1)) c.requires.one.viewer c.meet.ensures.written)
    (subst (λ (n : ℕ). written_by n w3.seen ≡ written_by n (own_entries w3)) ew c.meet-2.ensures.written)
    c.meet.ensures.marks.0
    c.requires.going
    (subst (λ (n : ℕ). KnowsViewer n r1) e1 c.history_is_sound.ensures.knows)
    d.0
    c.meet.ensures.delivered
    d.1
    (subst (λ (n : ℕ). delivered r3.seen n ≡ delivered r2.seen n) e2 c.meet-2.ensures.delivered)
    d.2
    c.requires.empty
    _
    c.over_of.ensures
