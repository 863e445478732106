use Rattle.std.proofs.Common.{refl, subst}
use Rattle.std.specs.Prelude.{Err, []}
use Rattle.gate_model.specs.declared.feed_refusal.FeedRefusal.{FeedRefusal}
use Rattle.gate_model.specs.declared.feed_refusal.FeedRefusal.TheVariants.{Closed}
use Rattle.gate_model.specs.declared.event.Event.TheVariants.{Feed as feed}
use Rattle.gate_model.specs.text.Statuses.{session_closed}
use Rattle.desk_core.specs.Calls.{Ended, feed_answer}
use Rattle.gate_script.specs.Told.{refused_line}
use Rattle.gate_script.specs.Calls.{StaysOpen}
use Rattle.gate_script.proofs.SessionLaws.{feed_refused, bytes_fed, feed_is_worn}
use Rattle.gate_script.proofs.OpenLaws.{on_ok, fed_open, not_shut}
use Rattle.gate_script.proofs.session.Session.server.Goals as goal

pub returns-in-Ok-clause-step : goal.returns-in-Ok-clause-step
returns-in-Ok-clause-step c = λ sight h at.
    bytes_fed sight c.args.now c.args.self.now c.args.reply.now c.report.new.self h at c.args.bytes.now c.in-Ok.stamp record { desk = c.feed.new.self; canvases = c.args.self.now.canvases; given = c.args.self.now.given } (c.in-Ok.ensures.step h at.stands) refl c.newest_frame.result.now c.newest_frame.ensures
    c.report.result c.report.ensures

pub returns-in-Ok-clause-open : goal.returns-in-Ok-clause-open
returns-in-Ok-clause-open c = on_ok c.report.result (StaysOpen 1 c.args.self.now.desk c.feed.new.self) (λ o. fed_open c.args.self.now.desk c.feed.new.self o c.args.bytes.now c.args.now c.in-Ok.stamp c.in-Ok.ensures.step c.in-Ok.ensures.few)

pub returns-in-Err-Closed-clause-step : goal.returns-in-Err-Closed-clause-step
returns-in-Err-Closed-clause-step c = λ sight h at.
    let step = subst (λ (e : FeedRefusal). Ended h (feed c.args.bytes.now c.args.now) (feed_answer (Err e)) c.args.self.now.desk c.feed.new.self [] []) c.in-Err-Closed.field-0-is (c.in-Err-Closed.ensures.step h at.stands) in
    feed_refused sight c.args.now c.args.self.now c.args.reply.now c.refuse.new.self h at c.args.bytes.now (Closed c.in-Err-Closed.field-0-0) (refused_line session_closed)
    record { desk = c.feed.new.self; canvases = c.args.self.now.canvases; given = c.args.self.now.given } step refl c.in-Err-Closed.ensures.unchanged refl c.refuse.result c.refuse.ensures

pub returns-in-Err-Closed-clause-open : goal.returns-in-Err-Closed-clause-open
returns-in-Err-Closed-clause-open c = on_ok c.refuse.result (StaysOpen 1 c.args.self.now.desk c.feed.new.self) (λ o.
    absurd (not_shut c.args.self.now.desk c.feed.new.self o c.args.bytes.now c.args.now c.in-Err-Closed.field-0-0
    (λ h s. subst (λ (e : FeedRefusal). Ended h (feed c.args.bytes.now c.args.now) (feed_answer (Err e)) c.args.self.now.desk c.feed.new.self [] []) c.in-Err-Closed.field-0-is (c.in-Err-Closed.ensures.step h s))))

pub returns-in-Err-Worn-clause-step : goal.returns-in-Err-Worn-clause-step
returns-in-Err-Worn-clause-step c = λ sight h at.
    feed_is_worn sight c.args.now c.args.self.now c.args.reply.now c.args.reply.now h at c.args.bytes.now c.in-Err-Worn.entries c.feed.new.self
    (subst (λ (e : FeedRefusal). Ended h (feed c.args.bytes.now c.args.now) (feed_answer (Err e)) c.args.self.now.desk c.feed.new.self [] []) c.in-Err-Worn.field-0-is (c.in-Err-Worn.ensures.step h at.stands))
