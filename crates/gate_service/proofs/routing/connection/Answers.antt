use Rattle.std.proofs.Common.{◌≡◌, arith, inl, inr, sym, ◌∙◌}
use Rattle.gate_model.specs.text.Spelling.{IsDigit}
use Rattle.gate_service.specs.Lookaheads.{left_of}
use Rattle.gate_service.specs.declared.requests.HttpEnd.TheVariants.{Ended}
use Rattle.guac_handshake.proofs.Causes.{rose_after, rose_from}
use Rattle.gate_service.proofs.Beginning.{begins}
use Rattle.gate_service.proofs.Caused.{asked_later, came_ended, came_fault, ended_so}
use Rattle.gate_service.proofs.Typed.{typed_same}
use Rattle.gate_service.proofs.routing.connection.Goals as goal

-- a request's connection begins with the byte that was looked at
pub returns-then-not-is_ascii_digit-clause-ran : goal.returns-then-not-is_ascii_digit-clause-ran
returns-then-not-is_ascii_digit-clause-ran g c =
    let r = c.read_request-incoming.ensures.received in
    let a = c.answer.ensures.ran in
    let first = begins _ (left_of g.S.Source.left c.args.source.now) _ _ c.in-Ok-Some.ensures.first c.in-Ok-Some.field-0-is (λ d. elim c.if-not-is_ascii_digit.ensures.cases [ inl h ↦ omega (arith, h, d.0) | inr h ↦ omega (arith, h, d.1) ]) in
    (r.0, a.0, a.1, (first, sym c.in-Ok-Some.ensures.same ∙ r.1, (c.read_request-incoming.result, r.2, sym c.asks_messages.ensures ∙ c.if-asks_messages.false, a.2)))

-- .. and messages too, whose request asks for them
pub returns-then-asks_messages-clause-messages : goal.returns-then-asks_messages-clause-messages
returns-then-asks_messages-clause-messages g c =
    let r = c.read_request-incoming.ensures.received in
    let first = begins _ (left_of g.S.Source.left c.args.source.now) _ _ c.in-Ok-Some.ensures.first c.in-Ok-Some.field-0-is (λ d. elim c.if-not-is_ascii_digit.ensures.cases [ inl h ↦ omega (arith, h, d.0) | inr h ↦ omega (arith, h, d.1) ]) in
    record { begins = first; asks = (r.0, _, c.read_request-incoming.result, sym c.in-Ok-Some.ensures.same ∙ r.1, r.2, sym c.asks_messages.ensures ∙ c.if-asks_messages.true); served = c.serve_messages.ensures.served; door = c.serve_messages.ensures.asked }

pub returns-then-asks_messages-clause-later : goal.returns-then-asks_messages-clause-later
returns-then-asks_messages-clause-later g c = asked_later _ _ _ _ _ _ c.serve_messages.ensures.asked

-- .. and so does a viewer's, in which what is pasted is typed from there on
pub returns-in-Ok-clause-ran : goal.returns-in-Ok-clause-ran
returns-in-Ok-clause-ran g c =
    let r = c.serve_user.ensures.ran in
    let digit = c.if-not-is_ascii_digit.ensures.cases in
    let first = begins IsDigit (left_of g.S.Source.left c.args.source.now) _ _ c.in-Ok-Some.ensures.first c.in-Ok-Some.field-0-is (omega (arith, digit.0), omega (arith, digit.1)) in
    let typed = typed_same _ _ _ _ c.in-Ok-Some.ensures.begun c.in-Ok-Some.ensures.same in
    (r.0, r.1, r.3, (first, sym typed ∙ sym c.in-Ok.ensures.typed ∙ r.2, r.4))

pub returns-then-not-is_ascii_digit-clause-ended : goal.returns-then-not-is_ascii_digit-clause-ended
returns-then-not-is_ascii_digit-clause-ended g c = λ is. ended_so _ _ (came_ended _ _ _ _ c.answer.ensures.ran.2 (let same : c.answer.result ≡ Ended = cc in same)) c.read_request-incoming.ensures.ended

pub returns-then-not-is_ascii_digit-clause-faults : goal.returns-then-not-is_ascii_digit-clause-faults
returns-then-not-is_ascii_digit-clause-faults g c =
    let peeked = c.in-Ok-Some.ensures.faults in
    let read = c.read_request-incoming.ensures.faults in
    ((λ is. rose_after _ _ _ peeked.1 (read.0 (came_fault _ _ _ _ c.answer.ensures.ran.2 is)), omega (arith, peeked.1, read.1)), c.answer.ensures.writes)

pub returns-in-Ok-clause-faults : goal.returns-in-Ok-clause-faults
returns-in-Ok-clause-faults g c =
    let peeked = c.in-Ok-Some.ensures.faults in
    let same = c.in-Ok.ensures.faults in
    let read = c.serve_user.ensures.reads in
    ((λ is. rose_after _ _ _ peeked.1 (rose_from _ _ _ same (read.0 is)), omega (arith, peeked.1, same, read.1)), c.serve_user.ensures.writes)

-- what is typed from there on is what the viewer's greeting read
pub returns-in-Ok-clause-viewer : goal.returns-in-Ok-clause-viewer
returns-in-Ok-clause-viewer g c =
    let typed = typed_same _ _ _ _ c.in-Ok-Some.ensures.begun c.in-Ok-Some.ensures.same in
    record { greeting = rw (sym typed ∙ sym c.in-Ok.ensures.typed) c.serve_user.ensures.greeting; door = c.serve_user.ensures.door; refused = c.serve_user.ensures.refused }
