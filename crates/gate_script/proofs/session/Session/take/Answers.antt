use Rattle.std.proofs.Common.{◌≡◌, ◌++◌, ◌-◌, [], length, take, drop, min, refl, ap, sym, ◌∙◌, List, ℕ, subst, arith}
use Rattle.std.specs.Prelude.{Err}
use Rattle.std.proofs.lemmas.Result.{err_from_is_err_and}
use Rattle.std.proofs.Math.Seq.{take-append_seam}
use Rattle.gate_model.specs.session.Output.{out, taken}
use Rattle.gate_model.specs.declared.answer.Answer.TheVariants.{Take as was_taken}
use Rattle.gate_model.specs.declared.event.Event.TheVariants.{Take as take_most}
use Rattle.desk_core.specs.Calls.{Answered}
use Rattle.gate_script.specs.declared.halt.Halt.{Halt}
use Rattle.gate_script.specs.declared.halt.Halt.TheVariants.{NoMemory}
use Rattle.gate_script.proofs.SessionLaws.{bytes_taken}
use Rattle.gate_script.proofs.session.Session.take.Goals as goal

pub returns-in_err-bytes : goal.returns-in_err-bytes
returns-in_err-bytes c = λ sight h now at.
    let p = err_from_is_err_and c.from_residual.result c.from_residual.ensures.1 in
    let e : c.from_residual.result ≡ Err NoMemory = p.1 ∙ ap (λ (s : Halt). Err s) p.2 in
    rw e tt

pub returns : goal.returns
returns c = λ sight h now at.
    let counts = c.pending.ensures.counts h at.stands in
    let sized : length c.deref_mut.result.now ≡ min (length (out h) - taken h) c.args.most = omega (arith, c.deref_mut.ensures.len, c.in_ok-bytes.ensures.len, c.min-count.ensures, c.from.ensures, counts) in
    let after = c.take.new.into in
    let kept : c.in_ok-bytes.bytes.len ≡ length after = sym (c.take.auto.into ∙ c.deref_mut.ensures.len) in
    let all : c.deref.result.now ≡ after = c.deref.ensures.value ∙ (ap (λ (n : ℕ). take n (after ++ drop (length after) c.in_ok-bytes.bytes.items)) kept ∙ take-append_seam after (drop (length after) c.in_ok-bytes.bytes.items)) in
    let ends = subst (λ (l : List ℕ). Answered h (take_most (length c.deref_mut.result.now)) (was_taken (take c.take.result.count l) c.take.result.closed) c.take.new.self [] []) (sym all) (c.take.ensures.step h at.stands) in
    bytes_taken sight now c.args.self.now c.args.reply.now c.say_took.new.self h at c.args.most c.take.result.count c.take.result.closed c.deref_mut.result.now c.deref.result.now
    record { desk = c.take.new.self; canvases = c.args.self.now.canvases; given = c.args.self.now.given } sized (ap length all ∙ c.take.auto.into) ends refl
    c.say_took.result c.say_took.ensures
