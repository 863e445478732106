use Rattle.std.proofs.Common.{◌≡◌, ◌∙◌, ℕ, length, true, false, ap, refl, sym, arith}
use Rattle.std.specs.Prelude.{nat_lt}
use Rattle.std.proofs.lemmas.Bool.{le-ltb, lt-ltb}
use Rattle.ws_tunnel.specs.Heard.{asks_end}
use Rattle.ws_tunnel.proofs.Replies.{answers, front_is, put_ends_as, put_stops_as, read_own, refusal_own}
use Rattle.ws_tunnel.proofs.answering.answer_acts.Goals as goal

pub returns-then-count-acts-clause-ran : goal.returns-then-count-acts-clause-ran
returns-then-count-acts-clause-ran g c = λ message is.
    let asks : asks_end c.args.acts.now ≡ true = ap (λ (n : ℕ). nat_lt n (length c.args.acts.now)) (sym c.end_place-count.ensures) ∙ lt-ltb c.end_place-count.result (length c.args.acts.now) (omega (arith, c.if-count-acts.true)) in
    put_ends_as c.args.reader.now.viewer c.args.writer.now.viewer _ _ _ message c.args.acts.now _ c.in-Ok.field-0 c.requires.one.viewer is asks (front_is c.args.acts.now c.end_place-count.result _ c.end_place-count.ensures refl) c.in-Ok.ensures.put

pub returns-else-count-acts-clause-ran : goal.returns-else-count-acts-clause-ran
returns-else-count-acts-clause-ran g c = λ message is.
    let asks : asks_end c.args.acts.now ≡ false = ap (λ (n : ℕ). nat_lt n (length c.args.acts.now)) (sym c.end_place-count.ensures) ∙ le-ltb c.end_place-count.result (length c.args.acts.now) (omega (arith, c.if-count-acts.false)) in
    answers c.args.reader.now.viewer c.args.writer.now.viewer _ _ _ _ _ message _ c.args.acts.now _ c.in-Ok.field-0 c.read_behind.result is asks (front_is c.args.acts.now c.end_place-count.result _ c.end_place-count.ensures refl) c.in-Ok.ensures.put c.requires.one.viewer c.read_behind.ensures.read

pub returns-in-Err-clause-ran : goal.returns-in-Err-clause-ran
returns-in-Err-clause-ran g c = λ message is.
    put_stops_as c.args.reader.now.viewer c.args.writer.now.viewer _ _ _ message c.args.acts.now _ c.in-Err.end c.requires.one.viewer is (front_is c.args.acts.now c.end_place-count.result _ c.end_place-count.ensures refl) c.in-Err.ensures.put

pub returns-else-count-acts-clause-own : goal.returns-else-count-acts-clause-own
returns-else-count-acts-clause-own g c = read_own c.args.reader.now.viewer c.put.new.writer.view c.read_behind.new.reader.view c.read_behind.new.writer.view c.read_behind.result c.read_behind.ensures.read.end

pub returns-in-Err-clause-own : goal.returns-in-Err-clause-own
returns-in-Err-clause-own g c = refusal_own c.in-Err.end c.in-Err.ensures.put.2
