use Rattle.gate_model.specs.terminal.Sizes.{sized}
use Rattle.desk_core.proofs.Results.{on_ok_then}
use Rattle.desk_core.proofs.Hearing.{taken_data, replied_data}
use Rattle.desk_core.proofs.host.Host.take_part.Goals as goal

pub returns-in-Run-clause-taken : goal.returns-in-Run-clause-taken
returns-in-Run-clause-taken c = rw c.in-Run.is (on_ok_then c.show_run.result _ _ (λ shown. λ before n t h.
    taken_data c.args.self.now c.show_run.new.self t n before c.in-Run.run'.now _ _ h shown) c.show_run.ensures)

pub returns-in-Run-clause-appended : goal.returns-in-Run-clause-appended
returns-in-Run-clause-appended c = rw c.in-Run.is (on_ok_then c.show_run.result _ _ (λ shown. λ before n t h.
    replied_data c.args.self.now c.show_run.new.self t n (sized c.args.cols c.args.rows) c.args.term.now before c.in-Run.run'.now _ _ h shown) c.show_run.ensures)

pub returns-in-Run-clause-wire : goal.returns-in-Run-clause-wire
returns-in-Run-clause-wire c = on_ok_then c.show_run.result _ _ (λ shown. shown.wire) c.show_run.ensures

pub returns-in-One-clause-taken : goal.returns-in-One-clause-taken
returns-in-One-clause-taken c = rw c.in-One.is c.take.ensures.taken

pub returns-in-One-clause-appended : goal.returns-in-One-clause-appended
returns-in-One-clause-appended c = rw c.in-One.is c.take.ensures.appended
