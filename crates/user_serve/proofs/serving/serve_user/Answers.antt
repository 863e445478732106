use Rattle.std.proofs.Common.{refl, inl, inr, arith}
use Rattle.guac_handshake.proofs.Causes.{rose_after}
use Rattle.user_serve.proofs.Greeted.{greeted}
use Rattle.user_serve.proofs.Served.{door_kept, greets, greets_memory, let_in, served, untouched}
use Rattle.user_serve.proofs.serving.serve_user.Goals as goal

pub returns-in_default-clause-ran : goal.returns-in_default-clause-ran
returns-in_default-clause-ran g c = untouched _ _

pub returns-in_default-another-clause-ran : goal.returns-in_default-another-clause-ran
returns-in_default-another-clause-ran g c = untouched _ _

pub returns-in-Ready-clause-ran : goal.returns-in-Ready-clause-ran
returns-in-Ready-clause-ran g c = served _ _ _ _ _ _ _ c.in-Ready.welcome c.visit.result (greeted _ _ _ _ _ _ _ _ _ _ c.in-Ready.ensures.greeting) c.visit.ensures.ran

pub returns-in-WriteFault-clause-ran : goal.returns-in-WriteFault-clause-ran
returns-in-WriteFault-clause-ran g c = greets _ _ _ _ _ _ (greeted _ _ _ _ _ _ _ _ _ _ c.in-WriteFault.ensures.greeting)

pub returns-in-NoMemory-clause-ran : goal.returns-in-NoMemory-clause-ran
returns-in-NoMemory-clause-ran g c = greets_memory _ _ _ _ _ (greeted _ _ _ _ _ _ _ _ _ _ c.in-NoMemory.ensures.greeting)

pub returns-in_default-clause-greeting : goal.returns-in_default-clause-greeting
returns-in_default-clause-greeting g c = inl (refl, refl, refl)

pub returns-in_default-another-clause-greeting : goal.returns-in_default-another-clause-greeting
returns-in_default-another-clause-greeting g c = inl (refl, refl, refl)

pub returns-in-Ready-clause-greeting : goal.returns-in-Ready-clause-greeting
returns-in-Ready-clause-greeting g c = let_in _ _ (g.D.Door.view c.args.door.now) (g.D.Door.view c.greet.new.door) _ _ _ _ _ _ _ c.in-Ready.welcome c.visit.result c.in-Ready.ensures.greeting c.visit.ensures.ran

pub returns-in-NoMemory-clause-greeting : goal.returns-in-NoMemory-clause-greeting
returns-in-NoMemory-clause-greeting g c = inr (_, c.in-NoMemory.ensures.greeting)

pub returns-in_default-clause-door : goal.returns-in_default-clause-door
returns-in_default-clause-door g c = door_kept _ _

pub returns-in_default-another-clause-door : goal.returns-in_default-another-clause-door
returns-in_default-another-clause-door g c = door_kept _ _

pub returns-in-Ready-clause-door : goal.returns-in-Ready-clause-door
returns-in-Ready-clause-door g c =
    let ran = c.visit.ensures.ran.4 in
    record { greeting = _; is_end = (c.in-Ready.welcome, refl, ran.id); touches = c.in-Ready.ensures.touches }

pub returns-in-Refused-clause-door : goal.returns-in-Refused-clause-door
returns-in-Refused-clause-door g c = record { greeting = _; is_end = refl; touches = c.in-Refused.ensures.touches }

pub returns-in-Ended-clause-door : goal.returns-in-Ended-clause-door
returns-in-Ended-clause-door g c = record { greeting = _; is_end = refl; touches = c.in-Ended.ensures.touches }

pub returns-in-ReadFault-clause-door : goal.returns-in-ReadFault-clause-door
returns-in-ReadFault-clause-door g c = record { greeting = _; is_end = refl; touches = c.in-ReadFault.ensures.touches }

pub returns-in-WriteFault-clause-door : goal.returns-in-WriteFault-clause-door
returns-in-WriteFault-clause-door g c = record { greeting = _; is_end = refl; touches = c.in-WriteFault.ensures.touches }

pub returns-in-NoMemory-clause-door : goal.returns-in-NoMemory-clause-door
returns-in-NoMemory-clause-door g c = record { greeting = _; is_end = refl; touches = c.in-NoMemory.ensures.touches }

pub returns-in-Ready-clause-reads : goal.returns-in-Ready-clause-reads
returns-in-Ready-clause-reads g c =
    let before = c.in-Ready.ensures.reads in
    let then = c.visit.ensures.reads in
    (λ e. rose_after _ _ _ before.1 (then.0 e), omega (arith, before.1, then.1))

pub returns-in-Ready-clause-writes : goal.returns-in-Ready-clause-writes
returns-in-Ready-clause-writes g c =
    let before = c.in-Ready.ensures.writes in
    let then = c.visit.ensures.writes in
    (λ e. rose_after _ _ _ before.1 (then.0 e), omega (arith, before.1, then.1))
