use Rattle.std.proofs.Common.{◌≡◌, subst}
use Rattle.std.specs.Prelude.{Some}
use Rattle.gate_model.specs.session.Delivered.{delivered}
use Rattle.shared_desk.specs.Marks.{reader_mark, writer_mark}
use Rattle.shared_desk.specs.Members.{ViewerState}
use Rattle.shared_desk.specs.Meetings.{written_by}
use Rattle.shared_desk.specs.Own.{own_entries}
use Rattle.shared_desk.proofs.Meetings.{all_written, keeps_delivered, keeps_own, keeps_viewer}
use Rattle.shared_desk.proofs.meeting.meet.Goals as goal

pub invariant_of-reader : goal.invariant_of-reader
invariant_of-reader c = keeps_viewer _ _ _ _ c.meet.ensures.met.one _ _ c.reader.invariant

pub invariant_of-writer : goal.invariant_of-writer
invariant_of-writer c = keeps_viewer _ _ _ _ c.meet.ensures.met.other _ _ c.writer.invariant

pub returns-clause-delivered : goal.returns-clause-delivered
returns-clause-delivered c = subst (λ (s : ViewerState). delivered c.meet.new.self.view.seen s.viewer ≡ delivered s.view.seen s.viewer) c.reader.view_is (keeps_delivered _ _ _ _ c.meet.ensures.met.one _ c.reader.invariant)

pub returns-clause-own : goal.returns-clause-own
returns-clause-own c = (
  subst (λ (s : ViewerState). own_entries c.meet.new.self.view ≡ own_entries s.view) c.reader.view_is (keeps_own _ _ _ _ c.meet.ensures.met.one),
  subst (λ (s : ViewerState). own_entries c.meet.new.other.view ≡ own_entries s.view) c.writer.view_is (keeps_own _ _ _ _ c.meet.ensures.met.other),
)

pub returns-clause-written : goal.returns-clause-written
returns-clause-written c = subst (λ (s : ViewerState). written_by s.viewer c.meet.new.other.view.seen ≡ written_by s.viewer (own_entries c.meet.new.other.view)) c.writer.view_is (all_written _ _ _ _ _ c.meet.ensures.met.other c.writer.invariant.mark.mark)

pub returns-clause-marks : goal.returns-clause-marks
returns-clause-marks c = (
  subst (λ (s : ViewerState). c.meet.new.self.view.mark ≡ Some (reader_mark s.viewer)) c.reader.view_is (keeps_viewer _ _ _ _ c.meet.ensures.met.one _ _ c.reader.invariant).mark.mark,
  subst (λ (s : ViewerState). c.meet.new.other.view.mark ≡ Some (writer_mark s.viewer)) c.writer.view_is (keeps_viewer _ _ _ _ c.meet.ensures.met.other _ _ c.writer.invariant).mark.mark,
)
